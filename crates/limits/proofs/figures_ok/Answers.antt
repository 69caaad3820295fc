use borrow.Author.Rules.{rules}
use Rattle.limits.proofs.LimitLaws as L
use Rattle.limits.proofs.figures_ok.Goals as goal

pub returns-then-x-lt1 : goal.returns-then-x-lt1
returns-then-x-lt1 c = let a = c.args in L.gap_low a.l a.x (search rules)

pub returns-then-x-gt-MAX_GAP : goal.returns-then-x-gt-MAX_GAP
returns-then-x-gt-MAX_GAP c = let a = c.args in L.gap_high a.l a.x (search rules) (search rules)

pub returns-then-x-lt1-2 : goal.returns-then-x-lt1-2
returns-then-x-lt1-2 c = let a = c.args in L.size_low a.l a.x (search rules) (search rules) (search rules)

pub returns-then-l-x : goal.returns-then-l-x
returns-then-l-x c = let a = c.args in L.size_high a.l a.x (search rules) (search rules) (search rules) (search rules)

pub returns : goal.returns
returns c = let a = c.args in L.kind_rest a.l a.x (search rules) (search rules) (search rules) (search rules) c.kind_ok.result c.kind_ok.ensures
