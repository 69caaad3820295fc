use mathlib.Core.Path.{◌∙◌}
use Rattle.frames.specs.SoundTest.{nothing_used, sound}
use Rattle.framed_state.specs.View.{tables, view, sound_frames}
use Rattle.framed_sound.specs.Parts.{linked_sound}
use Rattle.framed_sound.proofs.PartLaws as L
use Rattle.line_tests.proofs.LineLaws as S
use mathlib.Core.Path.{ap}
use mathlib.Core.Bool.{not}
use Rattle.framed_sound.proofs.counted_ok.Goals as goal

pub returns-then-not-tables_formed : goal.returns-then-not-tables_formed
unfolding sound_frames
returns-then-not-tables_formed c = S.stops _ c.tables_formed.ensures (ap not c.if-not-tables_formed.true)

pub returns-then-h-eq0 : goal.returns-then-h-eq0
unfolding sound_frames sound
returns-then-h-eq0 c =
    let t = tables c.args.shares.table.now c.args.places.table.now c.args.notices.table.now in
    let read = L.unused_read c.args.h t c.len.ensures c.len-then-h-eq0.ensures c.len-then-h-eq0-2.ensures in
    S.passes_on c.tables_formed.ensures (ap not c.if-not-tables_formed.false)
    (S.without_link c.args.h.link.frame (nothing_used (view c.args.h t)) (linked_sound (view c.args.h t)) c.if-h-eq0.true (c.unused_ok.ensures ∙ read))

pub linked_ok-requires : goal.linked_ok-requires
linked_ok-requires c = S.holds c.tables_formed.ensures (ap not c.if-not-tables_formed.false)

pub returns : goal.returns
unfolding sound_frames sound
returns c =
    let t = tables c.args.shares.table.now c.args.places.table.now c.args.notices.table.now in
    S.passes_on c.tables_formed.ensures (ap not c.if-not-tables_formed.false)
    (S.with_link c.args.h.link.frame (nothing_used (view c.args.h t)) (linked_sound (view c.args.h t)) c.if-h-eq0.false c.linked_ok.ensures)
