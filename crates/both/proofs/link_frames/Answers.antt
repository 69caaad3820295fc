use Rattle.tables.specs.Lent.{tables}
use Rattle.both.proofs.SoundLaws.{shares_long}
use Rattle.both.proofs.DoesLaws.{frames_refused, frames_able, frames_linked}
use Rattle.both.proofs.link_frames.Goals as goal

pub returns-then-h-ne0 : goal.returns-then-h-ne0
returns-then-h-ne0 c =
    let t = tables c.args.members.now c.args.places.now c.args.notices.now in
    frames_refused c.args.h t c.requires c.if-h-ne0.true c.args.l _ c.say.ensures

pub slice_bounds-link_tested-end : goal.slice_bounds-link_tested-end
slice_bounds-link_tested-end c =
    let t = tables c.args.members.now c.args.places.now c.args.notices.now in
    shares_long c.args.h t c.requires

pub link_tested-said-requires : goal.link_tested-said-requires
link_tested-said-requires c =
    let t = tables c.args.members.now c.args.places.now c.args.notices.now in
    frames_able c.args.h t c.requires c.if-h-ne0.false

pub returns : goal.returns
returns c =
    let t = tables c.args.members.now c.args.places.now c.args.notices.now in
    frames_linked c.args.h t c.requires c.if-h-ne0.false c.args.l _ c.link_tested-said.ensures _ c.by_frames.ensures
