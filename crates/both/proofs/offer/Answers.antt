use Rattle.tables.specs.Lent.{tables}
use mathlib.Core.Path.{refl, sym, ◌∙◌}
use Rattle.tables.specs.Options.{option_in}
use Rattle.rules.specs.Model.{offer as level_offer}
use Rattle.frames.specs.Model.{offer as frame_offer}
use Rattle.either_line.specs.Line.{offer}
use Rattle.both.proofs.TablesLaws.{same_members}
use Rattle.both.proofs.SoundLaws.{are_set, none_set, shares_inside, frames_sound, hub_sound, room_for_shares, shares_long}
use Rattle.both.proofs.DoesLaws.{by_told, by_said, unstamped, stamp_refused}
use Rattle.both.proofs.offer.Goals as goal

pub offer_tested-told-requires : goal.offer_tested-told-requires
offer_tested-told-requires c =
    let t = tables c.args.members.now c.args.places.now c.args.notices.now in
    hub_sound c.args.h t c.requires (none_set c.args.h c.if-h-eq0.true)

pub returns-then-h-eq0 : goal.returns-then-h-eq0
returns-then-h-eq0 c =
    let t = tables c.args.members.now c.args.places.now c.args.notices.now in
    by_told (offer c.args.c c.args.len c.args.tag (option_in c.args.stamp)) c.args.h t c.requires (none_set c.args.h c.if-h-eq0.true)
    (level_offer c.args.c c.args.len c.args.tag (option_in c.args.stamp)) refl _ _ c.offer_tested-told.ensures _ c.by_levels.ensures

pub returns-then-is_some : goal.returns-then-is_some
returns-then-is_some c =
    let t = tables c.args.members.now c.args.places.now c.args.notices.now in
    stamp_refused c.args.h t c.requires (are_set c.args.h c.if-h-eq0.false) c.args.c c.args.len c.args.tag c.args.stamp (sym c.is_some.ensures ∙ c.if-is_some.true) _ c.say.ensures

pub slice_bounds-offer_tested-end : goal.slice_bounds-offer_tested-end
slice_bounds-offer_tested-end c =
    let t = tables c.args.members.now c.args.places.now c.args.notices.now in
    room_for_shares c.args.h t c.requires

pub slice_bounds-offer_tested-end-2 : goal.slice_bounds-offer_tested-end-2
slice_bounds-offer_tested-end-2 c =
    let t = tables c.args.members.now c.args.places.now c.args.notices.now in
    shares_long c.args.h t c.requires

pub offer_tested-said-requires : goal.offer_tested-said-requires
offer_tested-said-requires c =
    let t = tables c.args.members.now c.args.places.now c.args.notices.now in
    frames_sound c.args.h t c.requires (are_set c.args.h c.if-h-eq0.false)

pub returns : goal.returns
returns c =
    let t = tables c.args.members.now c.args.places.now c.args.notices.now in
    let f = are_set c.args.h c.if-h-eq0.false in
    by_said (offer c.args.c c.args.len c.args.tag (option_in c.args.stamp)) c.args.h t c.requires f (frame_offer c.args.c c.args.len c.args.tag)
    (unstamped c.args.c c.args.len c.args.tag c.args.stamp (sym c.is_some.ensures ∙ c.if-is_some.false)) _ _ c.offer_tested-said.ensures _ _ c.by_frames.ensures
    (same_members c.args.members.now (shares_inside c.args.h t c.requires f) _ _)
