use Rattle.sound.proofs.PaceLaws as L
use native.Mathlib.Omega.{arith}
use mathlib.Core.Path.{◌∙◌}
use Rattle.connections.specs.Rows.{connection_of, past_of}
use Rattle.connections.proofs.WrittenLaws as W
use borrow.Author.Rules.{rules}
use Rattle.sound.proofs.pace.left_in_time.Goals as goal

pub tick_at-requires : goal.tick_at-requires
tick_at-requires c = (search rules, (W.formed_parts c.args.m c.requires.0).known_le)

pub overflow_add-k : goal.overflow_add-k
overflow_add-k c = omega (arith, (W.formed_parts c.args.m c.requires.0).known_le)

pub earliest_behind-requires : goal.earliest_behind-requires
earliest_behind-requires c = ((W.formed_parts c.args.m c.requires.0).known_le, omega (arith, (W.formed_parts c.args.m c.requires.0).known_le), c.requires.1)

pub returns-then-e-earliest_behind : goal.returns-then-e-earliest_behind
returns-then-e-earliest_behind c =
    let l = c.loop-k in
    L.left_early (connection_of c.args.m) c.args.last (past_of c.args.m) l.k (L.known_below c.args.m c.requires.0 l.k (search rules) (search rules)) _ _ (c.from-e.ensures ∙ c.tick_at.ensures) c.earliest_behind.ensures c.if-e-earliest_behind.true ∙ l.invariant.so_far

pub returns-then-last-e : goal.returns-then-last-e
returns-then-last-e c =
    let l = c.loop-k in
    L.left_late (connection_of c.args.m) c.args.last (past_of c.args.m) l.k (L.known_below c.args.m c.requires.0 l.k (search rules) (search rules)) _ _ (c.from-e.ensures ∙ c.tick_at.ensures) c.earliest_behind.ensures c.if-e-earliest_behind.false c.if-last-e.true ∙ l.invariant.so_far

pub loop-k-preserved : goal.loop-k-preserved
loop-k-preserved c =
    let l = c.loop-k in
    record { so_far = L.left_next (connection_of c.args.m) c.args.last (past_of c.args.m) l.k (L.known_below c.args.m c.requires.0 l.k (search rules) (search rules)) _ _ (c.from-e.ensures ∙ c.tick_at.ensures) c.earliest_behind.ensures c.if-e-earliest_behind.false c.if-last-e.false ∙ l.invariant.so_far }

pub returns : goal.returns
returns c =
    let l = c.loop-k in
    L.left_end (connection_of c.args.m) c.args.last (past_of c.args.m) l.k (L.known_end c.args.m l.k (search rules)) ∙ l.invariant.so_far
