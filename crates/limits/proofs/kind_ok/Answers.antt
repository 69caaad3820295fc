use borrow.Author.Rules.{rules}
use Rattle.limits.proofs.LimitLaws as L
use Rattle.limits.proofs.kind_ok.Goals as goal

pub returns-then-x-ne0 : goal.returns-then-x-ne0
returns-then-x-ne0 c = let a = c.args in L.allowance_none a.x (search rules) (search rules)

pub returns-then-x-eq0 : goal.returns-then-x-eq0
returns-then-x-eq0 c = let a = c.args in L.average_rest a.x (search rules) (search rules) c.average_ok.result c.average_ok.ensures

pub returns-then-x-ne1 : goal.returns-then-x-ne1
returns-then-x-ne1 c = let a = c.args in L.no_kind a.x (search rules) (search rules)

pub returns-then-x-gt-MAX_ALLOWANCE : goal.returns-then-x-gt-MAX_ALLOWANCE
returns-then-x-gt-MAX_ALLOWANCE c = let a = c.args in L.allowance_high a.x (search rules) (search rules) (search rules)

pub returns : goal.returns
returns c = let a = c.args in L.no_average_rest a.x (search rules) (search rules) (search rules)
