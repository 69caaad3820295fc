use Rattle.connections.proofs.FigureLaws as L
use mathlib.Core.Path.{◌∙◌}
use Rattle.connections.specs.Members.{connections_in}
use Rattle.connections.proofs.newcomer_test.Goals as goal

pub returns : goal.returns
returns c =
    let a = c.args in
    λ js S. c.test_from.ensures js S ∙ L.test_low a.l (connections_in a.members.now) js a.x c.requires.7 c.requires.3 S
