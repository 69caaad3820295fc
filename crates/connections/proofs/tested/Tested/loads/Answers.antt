use Rattle.connections.proofs.SumLaws as S
use Rattle.connections.proofs.MemberLaws as M
use native.Mathlib.Omega.{arith}
use Rattle.connections.specs.Members.{connections_in}
use Rattle.connections.proofs.tested.Tested.loads.Goals as goal

pub returns : goal.returns
returns c =
    let s = c.args.self.now in
    S.first_all s.link c.args.low (connections_in s.members.now) s.within c.loop-c.c _ c.loop-c.invariant.2 (omega (arith, s.owners)) (omega (arith, s.few, M.connections_length s.members.now)) (omega (arith, s.few))
