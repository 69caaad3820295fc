-- `service::lead_with` meets its contract: each way out against the best so far is one law of the comparison.
use borrow.Author.Rules.{rules}
use Rattle.service.proofs.LeadLaws as L
use Rattle.service.proofs.lead_with.Goals as goal

pub returns-then-best-level : goal.returns-then-best-level
returns-then-best-level c =
    let a = c.args in
    L.lower_stays a.members.now a.places.now a.clock a.i c.requires.0 (search rules) c.level_of-level.result c.level_of-level.ensures a.lead c.in-Some.best c.in-Some.is c.requires.1 (search rules)

pub returns-then-level-best : goal.returns-then-level-best
returns-then-level-best c =
    let a = c.args in
    L.lower_comes a.members.now a.places.now a.clock a.i c.requires.0 (search rules) c.level_of-level.result c.level_of-level.ensures a.lead c.in-Some.best c.in-Some.is c.requires.1 (search rules)

pub returns-then-best-eligibility : goal.returns-then-best-eligibility
returns-then-best-eligibility c =
    let a = c.args in
    L.as_early_stays a.members.now a.places.now a.clock a.i c.requires.0 (search rules) c.level_of-level.result c.level_of-level.ensures a.lead c.in-Some.best c.in-Some.is c.requires.1 (search rules) (search rules)

pub returns : goal.returns
returns c =
    let a = c.args in
    L.earlier_comes a.members.now a.places.now a.clock a.i c.requires.0 (search rules) c.level_of-level.result c.level_of-level.ensures a.lead c.in-Some.best c.in-Some.is c.requires.1 (search rules) (search rules)
