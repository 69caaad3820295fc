use mathlib.Core.Path.{◌∙◌}
use native.Mathlib.Omega.{arith}
use Rattle.tables.proofs.PlacesLaws.{is_places, as_table}
use Rattle.framed_state.specs.View.{tables}
use Rattle.framed_state.proofs.SoundLaws as S
use Rattle.framed_calls.proofs.ActLaws as A
use Rattle.framed_calls.proofs.accept.Goals as goal

pub next_start-e-requires : goal.next_start-e-requires
next_start-e-requires c = A.offer_frame c.args.h (tables c.args.shares.now c.args.places.now c.args.notices.now) c.requires.0 c.args.c c.args.len c.args.tag c.requires.1

pub overflow_cast-e : goal.overflow_cast-e
overflow_cast-e c = record { fits = omega (arith, c.next_start-e.ensures, A.offer_fits c.args.h (tables c.args.shares.now c.args.places.now c.args.notices.now) c.requires.0 c.args.c c.args.len c.args.tag c.requires.1) }

pub count-held-requires : goal.count-held-requires
count-held-requires c =
    let t = tables c.args.shares.now c.args.places.now c.args.notices.now in
    as_table c.args.places.now (S.places_kept c.args.h t c.requires.0) (S.places_size c.args.h t c.requires.0)

pub append-requires : goal.append-requires
append-requires c =
    let t = tables c.args.shares.now c.args.places.now c.args.notices.now in
    let n = S.places_size c.args.h t c.requires.0 in
    (as_table c.args.places.now (S.places_kept c.args.h t c.requires.0) n, c.count-held.ensures, omega (arith, n, c.count-held.ensures, A.offer_room c.args.h (tables c.args.shares.now c.args.places.now c.args.notices.now) c.requires.0 c.args.c c.args.len c.args.tag c.requires.1))

pub returns : goal.returns
returns c =
    A.offer_acts c.args.h (tables c.args.shares.now c.args.places.now c.args.notices.now) c.requires.0 c.args.c c.args.len c.args.tag c.requires.1 _ _ _ c.next_start-e.ensures c.say.ensures
    (c.append.ensures ∙ is_places c.args.places.now _ (S.places_size c.args.h (tables c.args.shares.now c.args.places.now c.args.notices.now) c.requires.0))
