use Rattle.sound.proofs.PaceLaws as L
use Rattle.connections.proofs.FigureLaws as F
use native.Mathlib.Omega.{arith}
use mathlib.Core.Path.{◌≡◌, sym, ◌∙◌}
use lib.ListN.{length}
use Rattle.rules.specs.Limits.{max_remembered}
use Rattle.rules.specs.Admission.{burst}
use Rattle.connections.specs.Rows.{connection_of, past_of}
use borrow.Author.Rules.{rules}
use Rattle.sound.proofs.pace.latest_by_gap.Goals as goal

pub returns-then-n-eq0 : goal.returns-then-n-eq0
returns-then-n-eq0 c =
    let a = c.args in
    c.max.ensures ∙ rw (c.from.ensures, c.from-then-n-eq0.ensures) (L.latest_plain (connection_of a.m) a.clock (past_of a.m) _ c.after_nth-by_gap.ensures (sym (F.burst_is (connection_of a.m)) ∙ sym c.packets_in-n.ensures ∙ c.if-n-eq0.true))

pub returns-then-m-n : goal.returns-then-m-n
returns-then-m-n c =
    let a = c.args in
    let n = sym (c.packets_in-n.ensures ∙ F.burst_is (connection_of a.m)) in
    c.max-then-m-n.ensures ∙ rw (c.from-then-m-n.ensures, c.from-then-m-n-2.ensures) (L.latest_unknown (connection_of a.m) a.clock (past_of a.m) _ c.after_nth-by_gap.ensures (λ z. c.if-n-eq0.false (sym n ∙ z)) (L.not_known a.m (burst (connection_of a.m)) (λ z. c.if-n-eq0.false (sym n ∙ z)) (omega (arith, n, c.if-m-n.true))))

pub after_nth-requires : goal.after_nth-requires
after_nth-requires c = let a = c.args in (search rules, search rules, omega (arith, c.packets_in-n.ensures, F.burst_is (connection_of a.m)))

pub returns : goal.returns
returns c =
    let a = c.args in
    let n = c.packets_in-n.ensures ∙ F.burst_is (connection_of a.m) in
    let k : length a.m.ticks ≡ max_remembered = search rules in
    c.max-2.ensures ∙ L.latest_by_known a.m a.clock _ _ c.after_nth-by_gap.ensures _ n (λ z. c.if-n-eq0.false z) (search rules) (omega (arith, k, n, c.requires.1)) c.after_nth.ensures
