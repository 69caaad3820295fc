use Rattle.connections.proofs.RegulatorLaws as R
use mathlib.Core.Path.{◌∙◌}
use Rattle.connections.proofs.regulator.next_eligibility.Goals as goal

pub returns : goal.returns
returns c = let a = c.args in c.max.ensures ∙ R.next_of a.m a.now _ _ c.from.ensures c.earliest_behind.ensures
