use Rattle.firmware.proofs.AskedLaws as A
use mathlib.Core.Path.{◌∙◌}
use Rattle.firmware.proofs.mtredovim_next_eligibility.Goals as goal

pub returns : goal.returns
returns c = let a = c.args in c.gap_eligibility.ensures ∙ A.next_is a.flag a.last a.gap a.now
