use Rattle.service.proofs.LeadLaws.{none_passed, one_passed, two_passed, three_passed, four_passed}
use borrow.Author.Rules.{rules}
use Rattle.service.proofs.passed_over.Goals as goal

pub loop-j-init : goal.loop-j-init
loop-j-init c = let a = c.args in (search rules, search rules, none_passed a.places.now a.clock a.i)

pub returns-then-places-at : goal.returns-then-places-at
returns-then-places-at c = let l = c.loop-j in (search rules, search rules, l.invariant.2)

pub returns-then-places-at-2 : goal.returns-then-places-at-2
returns-then-places-at-2 c = let a = c.args in let l = c.loop-j in (search rules, search rules, one_passed a.places.now a.clock a.i l.j l.invariant.2 (search rules))

pub returns-then-places-at-3 : goal.returns-then-places-at-3
returns-then-places-at-3 c = let a = c.args in let l = c.loop-j in (search rules, search rules, two_passed a.places.now a.clock a.i l.j l.invariant.2 (search rules) (search rules))

pub returns-then-places-at-4 : goal.returns-then-places-at-4
returns-then-places-at-4 c = let a = c.args in let l = c.loop-j in (search rules, search rules, three_passed a.places.now a.clock a.i l.j l.invariant.2 (search rules) (search rules) (search rules))

pub loop-j-preserved : goal.loop-j-preserved
loop-j-preserved c = let a = c.args in let l = c.loop-j in (search rules, search rules, four_passed a.places.now a.clock a.i l.j l.invariant.2 (search rules) (search rules) (search rules) (search rules))

pub returns : goal.returns
returns c = let l = c.loop-j in (search rules, search rules, l.invariant.2)
