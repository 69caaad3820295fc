use Rattle.connections.proofs.FigureLaws as L
use mathlib.Core.Path.{◌∙◌}
use Rattle.connections.proofs.level_test.Goals as goal

pub returns : goal.returns
returns c =
    let a = c.args in
    λ js S. c.test_from.ensures js S ∙ L.test_start a.l js
