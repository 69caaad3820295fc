use Rattle.sound.proofs.PartLaws as S
use Rattle.connections.specs.Members.{connections_in}
use Rattle.sound.proofs.row_ok.Goals as goal

pub returns-then-x-eq0 : goal.returns-then-x-eq0
returns-then-x-eq0 c = let a = c.args in S.row_free (connections_in a.members.now) a.h.clock a.p c.figures_of-x.ensures c.if-x-eq0.true

pub returns : goal.returns
returns c = let a = c.args in S.row_owned (connections_in a.members.now) a.h.clock a.p c.figures_of-x.ensures c.if-x-eq0.false
