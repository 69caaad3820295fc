use Rattle.tables.specs.Lent.{tables}
use Rattle.line_tests.proofs.LineLaws.{holds, stops, passes_on}
use Rattle.both.proofs.TablesLaws.{shares_long}
use Rattle.both.proofs.SoundLaws.{are_set, none_set, framed_test, level_test}
use mathlib.Core.Path.{ap}
use mathlib.Core.Bool.{not}
use Rattle.both.proofs.is_sound.Goals as goal

pub returns-then-not-unused_hub : goal.returns-then-not-unused_hub
returns-then-not-unused_hub c =
    let t = tables c.args.members.now c.args.places.now c.args.notices.now in
    framed_test c.args.h t (are_set c.args.h c.if-h-ne0.true) _ (stops _ c.unused_hub.ensures (ap not c.if-not-unused_hub.true))

pub returns-then-not-members_framed : goal.returns-then-not-members_framed
returns-then-not-members_framed c =
    let t = tables c.args.members.now c.args.places.now c.args.notices.now in
    framed_test c.args.h t (are_set c.args.h c.if-h-ne0.true) _ (passes_on c.unused_hub.ensures (ap not c.if-not-unused_hub.false) (stops _ c.members_framed.ensures (ap not c.if-not-members_framed.true)))

pub slice_bounds-is_sound-end : goal.slice_bounds-is_sound-end
slice_bounds-is_sound-end c = shares_long c.args.members.now (holds c.members_framed.ensures (ap not c.if-not-members_framed.false))

pub returns-then-h-ne0 : goal.returns-then-h-ne0
returns-then-h-ne0 c =
    let t = tables c.args.members.now c.args.places.now c.args.notices.now in
    framed_test c.args.h t (are_set c.args.h c.if-h-ne0.true) _
    (passes_on c.unused_hub.ensures (ap not c.if-not-unused_hub.false) (passes_on c.members_framed.ensures (ap not c.if-not-members_framed.false) c.is_sound.ensures))

pub returns-then-not-unused_frames : goal.returns-then-not-unused_frames
returns-then-not-unused_frames c =
    let t = tables c.args.members.now c.args.places.now c.args.notices.now in
    level_test c.args.h t (none_set c.args.h c.if-h-ne0.false) _ (stops _ c.unused_frames.ensures (ap not c.if-not-unused_frames.true))

pub returns : goal.returns
returns c =
    let t = tables c.args.members.now c.args.places.now c.args.notices.now in
    level_test c.args.h t (none_set c.args.h c.if-h-ne0.false) _ (passes_on c.unused_frames.ensures (ap not c.if-not-unused_frames.false) c.is_sound-2.ensures)
