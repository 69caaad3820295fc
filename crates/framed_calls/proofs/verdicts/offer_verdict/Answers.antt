use mathlib.Core.Path.{sym, ap}
use native.Mathlib.Omega.{arith}
use borrow.Author.Rules.{rules}
use Rattle.std.proofs.lemmas.Result.{err_from_is_err_and}
use Rattle.frames.specs.declared.Share.{Share}
use Rattle.framed_state.specs.View.{tables}
use Rattle.framed_state.proofs.SoundLaws as S
use Rattle.framed_calls.specs.declared.verdicts.Taken.{Taken}
use Rattle.framed_calls.proofs.PassLaws as P
use Rattle.framed_calls.proofs.VerdictLaws as W
use Rattle.framed_calls.proofs.verdicts.offer_verdict.Goals as goal

pub stands-stands-requires : goal.stands-stands-requires
stands-stands-requires c =
    let t = tables c.args.shares.now c.args.places.now c.args.notices.now in
    (S.shapes t (S.formed_tables c.args.h t c.requires)).members_shape

pub returns-in_err-early_offer : goal.returns-in_err-early_offer
returns-in_err-early_offer c tag =
    let t = tables c.args.shares.now c.args.places.now c.args.notices.now in
    let p = err_from_is_err_and c.from_residual.result c.from_residual.ensures.1 in
    rw (p.1, p.2) (W.offer_early c.args.h t c.requires c.args.c c.args.len tag _ c.unset.ensures _ c.stands-stands.ensures _ c.in_err-early_offer.ensures)

pub figures_of-x-requires : goal.figures_of-x-requires
figures_of-x-requires c =
    let t = tables c.args.shares.now c.args.places.now c.args.notices.now in
    (S.shapes t (S.formed_tables c.args.h t c.requires)).members_shape

pub taken_by-taken-requires : goal.taken_by-taken-requires
taken_by-taken-requires c =
    let t = tables c.args.shares.now c.args.places.now c.args.notices.now in
    (S.places_kept c.args.h t c.requires, S.places_size c.args.h t c.requires, P.measured c.args.h t c.requires (W.offer_linked c.args.h t c.requires c.args.c c.args.len 0 _ c.unset.ensures _ c.stands-stands.ensures (sym c.in_ok-early_offer.ensures)))

pub overflow_add-asked-2 : goal.overflow_add-asked-2
overflow_add-asked-2 c =
    let t = tables c.args.shares.now c.args.places.now c.args.notices.now in
    let x = c.figures_of-x in
    let k = c.taken_by-taken in
    omega (arith, ap (λ (y : Taken). y.units) k.ensures, ap (λ (y : Share). y.units) x.ensures, W.offer_use c.args.h t c.requires c.args.c c.args.len 0 _ c.unset.ensures _ c.stands-stands.ensures (sym c.in_ok-early_offer.ensures))

pub returns-then-x-taken : goal.returns-then-x-taken
returns-then-x-taken c tag =
    let t = tables c.args.shares.now c.args.places.now c.args.notices.now in
    W.offer_late c.args.h t c.requires c.args.c c.args.len tag _ c.unset.ensures _ c.stands-stands.ensures (sym c.in_ok-early_offer.ensures) c.figures_of-x.result c.taken_by-taken.result _ c.figures_of-x.ensures c.taken_by-taken.ensures (search rules)

pub returns-then-ended : goal.returns-then-ended
returns-then-ended c tag =
    let t = tables c.args.shares.now c.args.places.now c.args.notices.now in
    W.offer_late c.args.h t c.requires c.args.c c.args.len tag _ c.unset.ensures _ c.stands-stands.ensures (sym c.in_ok-early_offer.ensures) c.figures_of-x.result c.taken_by-taken.result _ c.figures_of-x.ensures c.taken_by-taken.ensures (search rules)

pub returns-then-x-asked : goal.returns-then-x-asked
returns-then-x-asked c tag =
    let t = tables c.args.shares.now c.args.places.now c.args.notices.now in
    W.offer_late c.args.h t c.requires c.args.c c.args.len tag _ c.unset.ensures _ c.stands-stands.ensures (sym c.in_ok-early_offer.ensures) c.figures_of-x.result c.taken_by-taken.result _ c.figures_of-x.ensures c.taken_by-taken.ensures (search rules)

pub returns : goal.returns
returns c tag =
    let t = tables c.args.shares.now c.args.places.now c.args.notices.now in
    W.offer_late c.args.h t c.requires c.args.c c.args.len tag _ c.unset.ensures _ c.stands-stands.ensures (sym c.in_ok-early_offer.ensures) c.figures_of-x.result c.taken_by-taken.result _ c.figures_of-x.ensures c.taken_by-taken.ensures (search rules)
