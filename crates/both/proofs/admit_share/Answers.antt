use Rattle.tables.specs.Lent.{tables}
use mathlib.Core.Path.{refl}
use Rattle.frames.specs.Model.{admit}
use Rattle.either_line.specs.Line.{admit_share}
use Rattle.both.proofs.TablesLaws.{other_shares}
use Rattle.both.proofs.SoundLaws.{are_set, none_set, shares_inside, frames_sound, room_for_shares, shares_long}
use Rattle.both.proofs.DoesLaws.{by_said, share_refused}
use Rattle.both.proofs.admit_share.Goals as goal

pub returns-then-h-eq0 : goal.returns-then-h-eq0
returns-then-h-eq0 c =
    let t = tables c.args.members.now c.args.places.now c.args.notices.now in
    share_refused c.args.h t c.requires (none_set c.args.h c.if-h-eq0.true) c.args.x _ c.say.ensures

pub slice_bounds-admit_tested-end : goal.slice_bounds-admit_tested-end
slice_bounds-admit_tested-end c =
    let t = tables c.args.members.now c.args.places.now c.args.notices.now in
    room_for_shares c.args.h t c.requires

pub slice_bounds-admit_tested-end-2 : goal.slice_bounds-admit_tested-end-2
slice_bounds-admit_tested-end-2 c =
    let t = tables c.args.members.now c.args.places.now c.args.notices.now in
    shares_long c.args.h t c.requires

pub admit_tested-said-requires : goal.admit_tested-said-requires
admit_tested-said-requires c =
    let t = tables c.args.members.now c.args.places.now c.args.notices.now in
    frames_sound c.args.h t c.requires (are_set c.args.h c.if-h-eq0.false)

pub returns : goal.returns
returns c =
    let t = tables c.args.members.now c.args.places.now c.args.notices.now in
    let f = are_set c.args.h c.if-h-eq0.false in
    by_said (admit_share c.args.x) c.args.h t c.requires f (admit c.args.x) refl _ _ c.admit_tested-said.ensures _ _ c.by_frames.ensures
    (other_shares c.args.members.now (shares_inside c.args.h t c.requires f) _ _ c.admit_tested-said.new.shares)
