use Rattle.both.specs.View.{framed}
use Rattle.both.proofs.SoundLaws.{are_set, none_set}
use Rattle.both.proofs.QuietLaws.{framed_on, level_on, framed_room, level_room}
use Rattle.both.proofs.quiet.pass_over.Goals as goal

pub pass_over-requires : goal.pass_over-requires
pass_over-requires c =
    framed_room c.args.h c.args.k c.requires (are_set c.args.h c.if-h-ne0.true)

pub returns-then-h-ne0 : goal.returns-then-h-ne0
returns-then-h-ne0 c =
    λ t. framed_on c.args.h c.args.k _ _ t (are_set c.args.h c.if-h-ne0.true) c.fresh_hub.ensures (c.pass_over.ensures (framed t))

pub pass_over-requires-2 : goal.pass_over-requires-2
pass_over-requires-2 c =
    level_room c.args.h c.args.k c.requires (none_set c.args.h c.if-h-ne0.false)

pub returns : goal.returns
returns c =
    λ t. level_on c.args.h c.args.k _ _ t (none_set c.args.h c.if-h-ne0.false) (c.pass_over-2.ensures t) c.fresh_frames.ensures
