use Rattle.sound.proofs.PaceLaws as L
use native.Mathlib.Omega.{arith}
use Prim.Native.Nat.{◌<◌}
use mathlib.Core.Path.{sym, ◌∙◌}
use Rattle.rules.specs.Limits.{beyond_32_bits}
use borrow.Author.Rules.{rules}
use Rattle.sound.proofs.pace.last_left.Goals as goal

pub distance-requires : goal.distance-requires
distance-requires c = c.requires

pub overflow_add-result : goal.overflow_add-result
overflow_add-result c =
    let a = c.args in
    let g : a.x.gap < beyond_32_bits = search rules in
    let t : a.clock < beyond_32_bits = search rules in
    omega (arith, c.from.ensures, c.distance.ensures, L.distance_room a.l a.x c.requires g a.clock t)

pub returns-then-goes_early : goal.returns-then-goes_early
returns-then-goes_early c =
    let a = c.args in
    L.left_past a.l a.x (sym c.goes_early.ensures ∙ c.if-goes_early.true) a.clock _ _ c.from.ensures c.distance.ensures

pub returns : goal.returns
returns c =
    let a = c.args in
    L.left_by_now a.l a.x (sym c.goes_early.ensures ∙ c.if-goes_early.false) a.clock _ c.from-2.ensures
