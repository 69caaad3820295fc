use borrow.Author.Rules.{rules}
use Rattle.limits.proofs.LimitLaws as L
use Rattle.limits.proofs.level_ok.Goals as goal

pub returns-then-x-lt1 : goal.returns-then-x-lt1
returns-then-x-lt1 c = let a = c.args in L.level_low a.l a.x (search rules)

pub returns : goal.returns
returns c = let a = c.args in L.level_rest a.l a.x (search rules)
