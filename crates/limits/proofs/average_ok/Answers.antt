use borrow.Author.Rules.{rules}
use Rattle.limits.proofs.LimitLaws as L
use Rattle.limits.proofs.average_ok.Goals as goal

pub returns-then-x-eq0 : goal.returns-then-x-eq0
returns-then-x-eq0 c = let a = c.args in L.no_window a.x (search rules)

pub returns-then-x-gt-MAX_WINDOW : goal.returns-then-x-gt-MAX_WINDOW
returns-then-x-gt-MAX_WINDOW c = let a = c.args in L.window_high a.x (search rules) (search rules)

pub returns-then-x : goal.returns-then-x
returns-then-x c = let a = c.args in L.average_low a.x (search rules) (search rules) (search rules)

pub returns-then-x-ne0 : goal.returns-then-x-ne0
returns-then-x-ne0 c = let a = c.args in L.uneven a.x (search rules) (search rules) (search rules) (search rules)

pub returns : goal.returns
returns c = let a = c.args in L.burst_rest a.x (search rules) (search rules) (search rules) (search rules)
