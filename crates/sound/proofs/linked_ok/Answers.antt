use mathlib.Core.Path.{ap, ◌∙◌}
use Rattle.rules.specs.Admission.{goes_early}
use Rattle.state.specs.View.{tables}
use Rattle.state.proofs.SoundLaws.{shapes}
use Rattle.connections.proofs.WrittenLaws as W
use Rattle.sound.proofs.PartLaws as S
use mathlib.Core.Bool.{not}
use Rattle.sound.proofs.linked_ok.Goals as goal

pub returns-then-not-admissions_ok : goal.returns-then-not-admissions_ok
returns-then-not-admissions_ok c =
    let a = c.args in
    S.stops _ (c.admissions_ok.ensures a.places.table.now a.notices.table.now) (ap not c.if-not-admissions_ok.true)

pub admissions_ok-requires : goal.admissions_ok-requires
admissions_ok-requires c =
    let a = c.args in
    (shapes (tables a.members.now a.places.table.now a.notices.table.now) c.requires).members_shape

pub held_ok-requires : goal.held_ok-requires
held_ok-requires c =
    let a = c.args in
    let t = tables a.members.now a.places.table.now a.notices.table.now in
    let f = shapes t c.requires in
    let admitted = S.holds (c.admissions_ok.ensures a.places.table.now a.notices.table.now) (ap not c.if-not-admissions_ok.false) in
    (S.places_few a.places.table.now f.places_shape, f.members_shape, S.admissions_safe a.h t admitted)

pub wire_ok-requires : goal.wire_ok-requires
wire_ok-requires c =
    let a = c.args in
    S.notices_few a.notices.table.now (shapes (tables a.members.now a.places.table.now a.notices.table.now) c.requires).notices_shape

pub returns-then-not-held_ok : goal.returns-then-not-held_ok
returns-then-not-held_ok c =
    let a = c.args in
    S.passes_on (c.admissions_ok.ensures a.places.table.now a.notices.table.now) (ap not c.if-not-admissions_ok.false)
    (S.stops _ (c.held_ok.ensures a.notices.table.now) (ap not c.if-not-held_ok.true))

pub figures_of-requires : goal.figures_of-requires
figures_of-requires c =
    let a = c.args in
    W.members_long a.members.now (shapes (tables a.members.now a.places.table.now a.notices.table.now) c.requires).members_shape

pub returns : goal.returns
returns c =
    let a = c.args in
    let early = c.goes_early-early.ensures ∙ ap (goes_early a.h.link) c.figures_of.ensures in
    let line = S.line_read a.h (tables a.members.now a.places.table.now a.notices.table.now) early in
    S.passes_on (c.admissions_ok.ensures a.places.table.now a.notices.table.now) (ap not c.if-not-admissions_ok.false)
    (S.passes_on (c.held_ok.ensures a.notices.table.now) (ap not c.if-not-held_ok.false) (c.wire_ok.ensures ∙ line))
