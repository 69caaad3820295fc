use borrow.Author.Rules.{rules}
use Rattle.frames.specs.Model.{tick}
use Rattle.framed_state.specs.View.{tables}
use Rattle.framed_calls.proofs.VerdictLaws as W
use Rattle.framed_calls.proofs.verdicts.tick_verdict.Goals as goal

pub returns : goal.returns
returns c = let t = tables c.args.shares.now c.args.places.now c.args.notices.now in W.found c.args.h t c.requires tick (search rules)
