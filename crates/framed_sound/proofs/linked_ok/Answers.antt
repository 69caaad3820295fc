use Rattle.framed_state.specs.View.{tables}
use Rattle.framed_state.proofs.SoundLaws.{shapes}
use Rattle.line_tests.proofs.LineLaws as S
use mathlib.Core.Path.{ap}
use mathlib.Core.Bool.{not}
use Rattle.framed_sound.proofs.linked_ok.Goals as goal

pub returns-then-not-admissions_ok : goal.returns-then-not-admissions_ok
returns-then-not-admissions_ok c = S.stops _ (c.admissions_ok.ensures c.args.places.table.now c.args.notices.table.now) (ap not c.if-not-admissions_ok.true)

pub admissions_ok-requires : goal.admissions_ok-requires
admissions_ok-requires c = (shapes (tables c.args.shares.table.now c.args.places.table.now c.args.notices.table.now) c.requires).members_shape

pub held_ok-requires : goal.held_ok-requires
held_ok-requires c =
    let f = shapes (tables c.args.shares.table.now c.args.places.table.now c.args.notices.table.now) c.requires in
    record { held = (S.places_few c.args.places.table.now f.places_shape, f.members_shape); by_index = λ p q. S.holds (c.admissions_ok.ensures p q) (ap not c.if-not-admissions_ok.false) }

pub wire_ok-requires : goal.wire_ok-requires
wire_ok-requires c = S.notices_few c.args.notices.table.now (shapes (tables c.args.shares.table.now c.args.places.table.now c.args.notices.table.now) c.requires).notices_shape

pub returns-then-not-held_ok : goal.returns-then-not-held_ok
returns-then-not-held_ok c = S.passes_on (c.admissions_ok.ensures c.args.places.table.now c.args.notices.table.now) (ap not c.if-not-admissions_ok.false) (S.stops _ (c.held_ok.ensures c.args.notices.table.now) (ap not c.if-not-held_ok.true))

pub returns-then-not-wire_ok : goal.returns-then-not-wire_ok
returns-then-not-wire_ok c = S.passes_on (c.admissions_ok.ensures c.args.places.table.now c.args.notices.table.now) (ap not c.if-not-admissions_ok.false) (S.passes_on (c.held_ok.ensures c.args.notices.table.now) (ap not c.if-not-held_ok.false) (S.stops _ c.wire_ok.ensures (ap not c.if-not-wire_ok.true)))

pub returns : goal.returns
returns c = S.passes_on (c.admissions_ok.ensures c.args.places.table.now c.args.notices.table.now) (ap not c.if-not-admissions_ok.false) (S.passes_on (c.held_ok.ensures c.args.notices.table.now) (ap not c.if-not-held_ok.false) (S.passes_on c.wire_ok.ensures (ap not c.if-not-wire_ok.false) (c.in_turn.ensures c.args.shares.table.now c.args.notices.table.now)))
