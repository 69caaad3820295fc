use Rattle.connections.proofs.StampLaws as S
use Rattle.connections.proofs.stamps.is_stamped.Goals as goal

pub returns : goal.returns
returns c = S.stamped_is c.args.x
