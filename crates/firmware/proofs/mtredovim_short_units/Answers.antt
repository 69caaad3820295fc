use mathlib.Core.Path.{ap}
use Rattle.rules.specs.declared.Short.{Short}
use Rattle.firmware.proofs.mtredovim_short_units.Goals as goal

pub returns : goal.returns
returns c = ap (λ (t : Short). t.units) c.short_asked-over.ensures
