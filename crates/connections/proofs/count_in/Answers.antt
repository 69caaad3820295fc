use Rattle.connections.proofs.FigureLaws as L
use native.Mathlib.Omega.{arith}
use mathlib.Core.Path.{◌∙◌}
use borrow.Author.Rules.{rules}
use Rattle.connections.proofs.count_in.Goals as goal

pub returns-then-n-eq0 : goal.returns-then-n-eq0
returns-then-n-eq0 c = let a = c.args in (L.count_by_gap a.x a.w _ _ c.quotient_up-most.ensures.0 (c.packets_in-n.ensures ∙ L.burst_is a.x) c.if-n-eq0.true, c.quotient_up-most.ensures.1)

pub average_in-requires : goal.average_in-requires
average_in-requires c = let a = c.args in (search rules, c.packets_in-n.ensures ∙ L.burst_is a.x, omega (arith, c.if-n-eq0.false))

pub returns : goal.returns
returns c =
    let a = c.args in
    (c.min.ensures ∙ L.count_by_both a.x a.w _ _ _ c.quotient_up-most.ensures.0 c.average_in.ensures (c.packets_in-n.ensures ∙ L.burst_is a.x) c.if-n-eq0.false, omega (arith, c.min.ensures, c.quotient_up-most.ensures.1))
