use borrow.Author.Rules.{rules}
use Rattle.rules.specs.Model.{tick}
use Rattle.state.specs.View.{tables}
use Rattle.calls.proofs.VerdictLaws as W
use Rattle.calls.proofs.verdicts.tick_verdict.Goals as goal

pub returns : goal.returns
returns c = let t = tables c.args.members.now c.args.places.now c.args.notices.now in W.found c.args.h t c.requires tick (search rules)
