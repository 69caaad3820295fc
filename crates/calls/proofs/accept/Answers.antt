use Rattle.state.proofs.SoundLaws as S
use Rattle.state.specs.View.{tables}
use Rattle.calls.proofs.ActLaws as A
use Rattle.tables.specs.Options.{option_in}
use Rattle.connections.proofs.WrittenLaws.{members_rows}
use native.Mathlib.Omega.{arith}
use mathlib.Core.Path.{sym, ◌∙◌}
use Rattle.tables.specs.Places.{rows}
use Rattle.tables.proofs.PlacesLaws.{is_places, as_table}
use Rattle.calls.proofs.accept.Goals as goal

pub member_at-m-requires : goal.member_at-m-requires
member_at-m-requires c =
    let a = c.args in
    omega (arith, A.offer_below a.h (tables a.members.now a.places.now a.notices.now) c.requires.0 a.c a.len a.tag (option_in a.stamp) c.requires.1, S.members_size a.h (tables a.members.now a.places.now a.notices.now) c.requires.0)

pub eligibility_by-e-requires : goal.eligibility_by-e-requires
eligibility_by-e-requires c =
    let a = c.args in
    let m = A.offer_reads a.h (tables a.members.now a.places.now a.notices.now) c.requires.0 a.c a.len a.tag (option_in a.stamp) c.requires.1 _ c.member_at-m.ensures in
    (m.few, m.regular)

pub overflow_cast-e : goal.overflow_cast-e
overflow_cast-e c =
    let a = c.args in
    let e = A.offer_eligibility a.h (tables a.members.now a.places.now a.notices.now) c.requires.0 a.c a.len a.tag (option_in a.stamp) c.requires.1 c.member_at-m.result c.eligibility_by-e.result c.member_at-m.ensures c.eligibility_by-e.ensures in
    omega (arith, e, A.offer_fits a.h (tables a.members.now a.places.now a.notices.now) c.requires.0 a.c a.len a.tag (option_in a.stamp) c.requires.1)

pub count-held-requires : goal.count-held-requires
count-held-requires c =
    let t = tables c.args.members.now c.args.places.now c.args.notices.now in
    as_table c.args.places.now (S.places_kept c.args.h t c.requires.0) (S.places_size c.args.h t c.requires.0)

pub append-requires : goal.append-requires
append-requires c =
    let a = c.args in
    let z = S.places_size a.h (tables a.members.now a.places.now a.notices.now) c.requires.0 in (
      S.places_kept a.h (tables a.members.now a.places.now a.notices.now) c.requires.0 ∙ sym (is_places a.places.now (rows a.places.now) z),
      c.count-held.ensures,
      omega (arith, z, c.count-held.ensures, A.offer_room a.h (tables a.members.now a.places.now a.notices.now) c.requires.0 a.c a.len a.tag (option_in a.stamp) c.requires.1),
    )

pub put_past-requires : goal.put_past-requires
put_past-requires c =
    let a = c.args in
    let t = tables a.members.now a.places.now a.notices.now in
    (members_rows a.members.now (S.shapes t (S.formed_tables a.h t c.requires.0)).members_shape, A.offer_below a.h t c.requires.0 a.c a.len a.tag (option_in a.stamp) c.requires.1)

pub returns : goal.returns
returns c =
    let a = c.args in
    let e = c.eligibility_by-e.result in
    A.offer_acts a.h (tables a.members.now a.places.now a.notices.now) c.requires.0 a.c a.len a.tag (option_in a.stamp) c.requires.1 c.say.result e c.put_past.new.members c.append.new.table
    (A.offer_eligibility a.h (tables a.members.now a.places.now a.notices.now) c.requires.0 a.c a.len a.tag (option_in a.stamp) c.requires.1 c.member_at-m.result e c.member_at-m.ensures c.eligibility_by-e.ensures)
    c.say.ensures c.put_past.ensures
    (c.append.ensures ∙ is_places a.places.now _ (S.places_size a.h (tables a.members.now a.places.now a.notices.now) c.requires.0))
