use Rattle.connections.proofs.RegulatorLaws as R
use native.Mathlib.Omega.{arith}
use mathlib.Core.Path.{◌∙◌}
use Rattle.connections.proofs.regulator.gap_eligibility.Goals as goal

pub returns-then-flag-eq0 : goal.returns-then-flag-eq0
returns-then-flag-eq0 c = let a = c.args in c.from.ensures ∙ R.next_first a.flag a.last a.gap a.now c.if-flag-eq0.true

pub returns : goal.returns
returns c = let a = c.args in c.max.ensures ∙ R.next_later a.flag a.last a.gap a.now c.if-flag-eq0.false _ _ c.from-2.ensures (omega (arith, c.from-3.ensures, c.from-4.ensures))
