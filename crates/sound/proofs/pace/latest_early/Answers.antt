use Rattle.sound.proofs.PaceLaws as L
use native.Mathlib.Omega.{arith}
use Prim.Native.Nat.{◌<◌}
use mathlib.Core.Path.{sym, ◌∙◌}
use Rattle.rules.specs.Limits.{beyond_32_bits}
use Rattle.rules.specs.Admission.{distance}
use Rattle.connections.specs.Rows.{connection_of, past_of}
use borrow.Author.Rules.{rules}
use Rattle.sound.proofs.pace.latest_early.Goals as goal

pub distance-requires : goal.distance-requires
distance-requires c = c.requires.2

pub overflow_add-farthest : goal.overflow_add-farthest
overflow_add-farthest c =
    let a = c.args in
    let g : a.m.figures.gap < beyond_32_bits = search rules in
    let t : a.clock < beyond_32_bits = search rules in
    omega (arith, c.from.ensures, c.distance.ensures, L.distance_room a.l (connection_of a.m) c.requires.2 g a.clock t)

pub returns-then-not-settles : goal.returns-then-not-settles
returns-then-not-settles c =
    let a = c.args in
    L.early_open (connection_of a.m) (distance a.l (connection_of a.m)) a.clock (past_of a.m) _ _ c.from.ensures c.distance.ensures
    (sym c.settles.ensures ∙ c.if-not-settles.true)

pub returns-then-farthest-settled : goal.returns-then-farthest-settled
returns-then-farthest-settled c =
    let a = c.args in
    L.early_far (connection_of a.m) (distance a.l (connection_of a.m)) a.clock (past_of a.m) _ _ c.from.ensures c.distance.ensures
    (sym c.settles.ensures ∙ c.if-not-settles.false) _ _ _ c.from-2.ensures c.earliest_behind.ensures c.max-settled.ensures c.if-farthest-settled.true

pub returns : goal.returns
returns c =
    let a = c.args in
    L.early_settled (connection_of a.m) (distance a.l (connection_of a.m)) a.clock (past_of a.m) _ _ c.from.ensures c.distance.ensures
    (sym c.settles.ensures ∙ c.if-not-settles.false) _ _ _ c.from-2.ensures c.earliest_behind.ensures c.max-settled.ensures c.if-farthest-settled.false
