use borrow.Author.Rules.{rules}
use Rattle.rules.specs.Model.{link}
use Rattle.state.specs.View.{tables}
use Rattle.calls.proofs.VerdictLaws as W
use Rattle.calls.proofs.verdicts.link_verdict.Goals as goal

pub returns-then-not-unset : goal.returns-then-not-unset
returns-then-not-unset c = let t = tables c.args.members.now c.args.places.now c.args.notices.now in W.found c.args.h t c.requires (link c.args.l) (search rules)

pub returns-then-not-link_ok : goal.returns-then-not-link_ok
returns-then-not-link_ok c = let t = tables c.args.members.now c.args.places.now c.args.notices.now in W.found c.args.h t c.requires (link c.args.l) (search rules)

pub returns : goal.returns
returns c = let t = tables c.args.members.now c.args.places.now c.args.notices.now in W.found c.args.h t c.requires (link c.args.l) (search rules)
