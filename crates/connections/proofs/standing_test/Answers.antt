use Rattle.connections.proofs.FigureLaws as F
use native.Mathlib.Omega.{arith}
use Rattle.connections.specs.Members.{connections_in}
use Rattle.connections.proofs.standing_test.Goals as goal

pub overflow_add-nobody : goal.overflow_add-nobody
overflow_add-nobody c = omega (arith, (F.link_limits c.args.l c.requires.3.link_in).levels_le)

pub returns : goal.returns
returns c =
    let a = c.args in
    c.level_test.ensures (connections_in a.members.now) (F.sums_above a.l (connections_in a.members.now) _ (omega arith))
