use Rattle.connections.proofs.StandByLaws as S
use Rattle.connections.proofs.stand_by.is_on.Goals as goal

pub returns : goal.returns
returns c = S.on_is c.args.l
