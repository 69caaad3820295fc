use mathlib.Core.Path.{sym}
use Rattle.rules.proofs.Sums.{cond_is}
use Rattle.both.proofs.SoundLaws.{are_set, none_set}
use Rattle.both.proofs.clock_of.Goals as goal

pub returns-then-h-ne0 : goal.returns-then-h-ne0
returns-then-h-ne0 c =
    sym (cond_is c.args.h.frames.clock c.args.h.hub.clock (are_set c.args.h c.if-h-ne0.true))

pub returns : goal.returns
returns c =
    sym (cond_is c.args.h.frames.clock c.args.h.hub.clock (none_set c.args.h c.if-h-ne0.false))
