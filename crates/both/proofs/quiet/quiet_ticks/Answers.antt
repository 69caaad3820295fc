use Rattle.tables.specs.Lent.{tables}
use Rattle.state.proofs.SoundLaws.{shapes, formed_tables, sound_view, places_kept, places_size}
use Rattle.both.proofs.SoundLaws.{are_set, none_set, frames_sound, hub_sound, shares_long}
use Rattle.both.proofs.QuietLaws.{framed_quiet, level_quiet}
use Rattle.both.proofs.quiet.quiet_ticks.Goals as goal

pub slice_bounds-quiet_ticks-end : goal.slice_bounds-quiet_ticks-end
slice_bounds-quiet_ticks-end c =
    let t = tables c.args.members.now c.args.places.now c.args.notices.now in
    shares_long c.args.h t c.requires

pub quiet_ticks-requires : goal.quiet_ticks-requires
quiet_ticks-requires c =
    let t = tables c.args.members.now c.args.places.now c.args.notices.now in
    frames_sound c.args.h t c.requires (are_set c.args.h c.if-h-ne0.true)

pub returns-then-h-ne0 : goal.returns-then-h-ne0
returns-then-h-ne0 c =
    let t = tables c.args.members.now c.args.places.now c.args.notices.now in
    framed_quiet c.args.left c.args.h t c.requires (are_set c.args.h c.if-h-ne0.true) _ c.quiet_ticks.ensures

pub quiet_ticks-requires-2 : goal.quiet_ticks-requires-2
quiet_ticks-requires-2 c =
    let t = tables c.args.members.now c.args.places.now c.args.notices.now in
    let x = c.args.h.hub in
    let ok = hub_sound c.args.h t c.requires (none_set c.args.h c.if-h-ne0.false) in
    (sound_view x t ok, places_kept x t ok, places_size x t ok, (shapes t (formed_tables x t ok)).members_shape)

pub returns : goal.returns
returns c =
    let t = tables c.args.members.now c.args.places.now c.args.notices.now in
    level_quiet c.args.left c.args.h t c.requires (none_set c.args.h c.if-h-ne0.false) _ c.quiet_ticks-2.ensures
