use Rattle.tables.specs.Lent.{tables}
use mathlib.Core.Path.{refl}
use Rattle.rules.specs.Model.{tick as level_tick}
use Rattle.frames.specs.Model.{tick as frame_tick}
use Rattle.either_line.specs.Line.{tick}
use Rattle.both.proofs.TablesLaws.{same_members}
use Rattle.both.proofs.SoundLaws.{are_set, none_set, shares_inside, frames_sound, hub_sound, room_for_shares, shares_long}
use Rattle.both.proofs.DoesLaws.{by_told, by_said}
use Rattle.both.proofs.tick.Goals as goal

pub tick_tested-told-requires : goal.tick_tested-told-requires
tick_tested-told-requires c =
    let t = tables c.args.members.now c.args.places.now c.args.notices.now in
    hub_sound c.args.h t c.requires (none_set c.args.h c.if-h-eq0.true)

pub returns-then-h-eq0 : goal.returns-then-h-eq0
returns-then-h-eq0 c =
    let t = tables c.args.members.now c.args.places.now c.args.notices.now in
    by_told tick c.args.h t c.requires (none_set c.args.h c.if-h-eq0.true) level_tick refl _ _ c.tick_tested-told.ensures _ c.by_levels.ensures

pub slice_bounds-tick_tested-end : goal.slice_bounds-tick_tested-end
slice_bounds-tick_tested-end c =
    let t = tables c.args.members.now c.args.places.now c.args.notices.now in
    room_for_shares c.args.h t c.requires

pub slice_bounds-tick_tested-end-2 : goal.slice_bounds-tick_tested-end-2
slice_bounds-tick_tested-end-2 c =
    let t = tables c.args.members.now c.args.places.now c.args.notices.now in
    shares_long c.args.h t c.requires

pub tick_tested-said-requires : goal.tick_tested-said-requires
tick_tested-said-requires c =
    let t = tables c.args.members.now c.args.places.now c.args.notices.now in
    frames_sound c.args.h t c.requires (are_set c.args.h c.if-h-eq0.false)

pub returns : goal.returns
returns c =
    let t = tables c.args.members.now c.args.places.now c.args.notices.now in
    let f = are_set c.args.h c.if-h-eq0.false in
    by_said tick c.args.h t c.requires f frame_tick refl _ _ c.tick_tested-said.ensures _ _ c.by_frames.ensures (same_members c.args.members.now (shares_inside c.args.h t c.requires f) _ _)
