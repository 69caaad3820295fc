use Rattle.limits.proofs.LimitLaws as L
use native.Mathlib.Omega.{arith}
use mathlib.Core.Path.{sym, ◌∙◌}
use lib.ListN.{length-take}
use Rattle.limits.proofs.bounds_ok.Goals as goal

pub returns-then-not-is_within : goal.returns-then-not-is_within
returns-then-not-is_within c =
    let k = c.loop-d in
    L.bound_out k.low c.args.n k.d-index c.args.bounds (omega arith) (sym c.is_within.ensures ∙ c.if-not-is_within.true) ∙ k.invariant

pub loop-d-preserved : goal.loop-d-preserved
loop-d-preserved c =
    let k = c.loop-d in
    L.bound_next k.low c.args.n k.d-index c.args.bounds (omega arith) (sym c.is_within.ensures ∙ c.if-not-is_within.false) ∙ k.invariant

pub returns : goal.returns
returns c =
    let k = c.loop-d in
    c.zero_from.ensures ∙ L.bounds_end k.low c.args.n k.d-index c.args.bounds (omega (arith, length-take c.args.n c.args.bounds)) ∙ k.invariant
