use Rattle.steps.specs.Tie.{lent}
use borrow.Author.Rules.{rules}
use Rattle.steps.proofs.CallLaws.{some_asked, no_link_set, link_set}
use Rattle.steps.proofs.ticking.all_done_verdict.Goals as goal

pub returns-then-asked-ne0 : goal.returns-then-asked-ne0
returns-then-asked-ne0 c = some_asked c.args.h (lent c.args.t.now) c.args.asked (search rules)

pub returns-then-not-is_set : goal.returns-then-not-is_set
returns-then-not-is_set c = no_link_set c.args.h (lent c.args.t.now) c.args.asked c.requires (search rules) c.is_set.result c.is_set.ensures c.if-not-is_set.true

pub returns : goal.returns
returns c = link_set c.args.h (lent c.args.t.now) c.args.asked c.requires (search rules) c.is_set.result c.is_set.ensures c.if-not-is_set.false
