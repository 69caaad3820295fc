use mathlib.Core.Path.{◌∙◌}
use Rattle.rules.specs.SoundTest.{nothing_used, sound}
use Rattle.line_tests.proofs.LineLaws.{without_link, with_link}
use Rattle.state.specs.View.{tables, view, sound_hub}
use Rattle.sound.specs.Parts.{linked_sound}
use Rattle.sound.proofs.PartLaws as S
use mathlib.Core.Path.{ap}
use mathlib.Core.Bool.{not}
use Rattle.sound.proofs.counted_ok.Goals as goal

pub returns-then-not-tables_formed : goal.returns-then-not-tables_formed
unfolding sound_hub
returns-then-not-tables_formed c = S.stops _ c.tables_formed.ensures (ap not c.if-not-tables_formed.true)

pub returns-then-h-eq0 : goal.returns-then-h-eq0
unfolding sound_hub sound
returns-then-h-eq0 c =
    let a = c.args in
    let t = tables a.members.now a.places.table.now a.notices.table.now in
    let shape = S.holds c.tables_formed.ensures (ap not c.if-not-tables_formed.false) in
    let read = S.unused_read a.h t shape c.len.ensures c.len-then-h-eq0.ensures in
    S.passes_on c.tables_formed.ensures (ap not c.if-not-tables_formed.false)
    (without_link a.h.link.levels (nothing_used (view a.h t)) (linked_sound (view a.h t)) c.if-h-eq0.true (c.unused_ok.ensures ∙ read))

pub linked_ok-requires : goal.linked_ok-requires
linked_ok-requires c = S.holds c.tables_formed.ensures (ap not c.if-not-tables_formed.false)

pub returns : goal.returns
unfolding sound_hub sound
returns c =
    let a = c.args in
    let t = tables a.members.now a.places.table.now a.notices.table.now in
    S.passes_on c.tables_formed.ensures (ap not c.if-not-tables_formed.false)
    (with_link a.h.link.levels (nothing_used (view a.h t)) (linked_sound (view a.h t)) c.if-h-eq0.false c.linked_ok.ensures)
