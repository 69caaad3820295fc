use borrow.Author.Rules.{rules}
use Rattle.frames.specs.Model.{link}
use Rattle.framed_state.specs.View.{tables}
use Rattle.framed_calls.proofs.VerdictLaws as W
use Rattle.framed_calls.proofs.verdicts.link_verdict.Goals as goal

pub returns-then-not-unset : goal.returns-then-not-unset
returns-then-not-unset c = let t = tables c.args.shares.now c.args.places.now c.args.notices.now in W.found c.args.h t c.requires (link c.args.l) (search rules)

pub returns-then-not-framing_ok : goal.returns-then-not-framing_ok
returns-then-not-framing_ok c = let t = tables c.args.shares.now c.args.places.now c.args.notices.now in W.found c.args.h t c.requires (link c.args.l) (search rules)

pub returns : goal.returns
returns c = let t = tables c.args.shares.now c.args.places.now c.args.notices.now in W.found c.args.h t c.requires (link c.args.l) (search rules)
