use Rattle.connections.proofs.StandByLaws as S
use Rattle.connections.proofs.stand_by.goes_early.Goals as goal

pub returns : goal.returns
returns c = let a = c.args in S.early_is a.l a.x c.is_on.result c.is_stamped.result c.is_on.ensures c.is_stamped.ensures
