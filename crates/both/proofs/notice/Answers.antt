use Rattle.tables.specs.Lent.{tables}
use mathlib.Core.Path.{refl}
use Rattle.rules.specs.Model.{notice as level_notice}
use Rattle.frames.specs.Model.{notice as frame_notice}
use Rattle.either_line.specs.Line.{notice}
use Rattle.both.proofs.TablesLaws.{same_members}
use Rattle.both.proofs.SoundLaws.{are_set, none_set, shares_inside, frames_sound, hub_sound, shares_long}
use Rattle.both.proofs.DoesLaws.{by_told, by_said}
use Rattle.both.proofs.notice.Goals as goal

pub notice_tested-told-requires : goal.notice_tested-told-requires
notice_tested-told-requires c =
    let t = tables c.args.members.now c.args.places.now c.args.notices.now in
    hub_sound c.args.h t c.requires (none_set c.args.h c.if-h-eq0.true)

pub returns-then-h-eq0 : goal.returns-then-h-eq0
returns-then-h-eq0 c =
    let t = tables c.args.members.now c.args.places.now c.args.notices.now in
    by_told (notice c.args.len c.args.tag) c.args.h t c.requires (none_set c.args.h c.if-h-eq0.true) (level_notice c.args.len c.args.tag) refl _ _ c.notice_tested-told.ensures _ c.by_levels.ensures

pub slice_bounds-notice_tested-end : goal.slice_bounds-notice_tested-end
slice_bounds-notice_tested-end c =
    let t = tables c.args.members.now c.args.places.now c.args.notices.now in
    shares_long c.args.h t c.requires

pub notice_tested-said-requires : goal.notice_tested-said-requires
notice_tested-said-requires c =
    let t = tables c.args.members.now c.args.places.now c.args.notices.now in
    frames_sound c.args.h t c.requires (are_set c.args.h c.if-h-eq0.false)

pub returns : goal.returns
returns c =
    let t = tables c.args.members.now c.args.places.now c.args.notices.now in
    let f = are_set c.args.h c.if-h-eq0.false in
    by_said (notice c.args.len c.args.tag) c.args.h t c.requires f (frame_notice c.args.len c.args.tag) refl _ _ c.notice_tested-said.ensures _ _ c.by_frames.ensures (same_members c.args.members.now (shares_inside c.args.h t c.requires f) _ _)
