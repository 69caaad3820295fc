use native.Mathlib.Omega.{arith}
use mathlib.Core.Path.{sym}
use borrow.Author.Rules.{rules}
use Rattle.std.proofs.lemmas.Result.{err_from_is_err_and}
use Rattle.framed_state.specs.View.{tables}
use Rattle.framed_state.proofs.SoundLaws as S
use Rattle.framed_calls.proofs.VerdictLaws as W
use Rattle.framed_calls.proofs.verdicts.admit_verdict.Goals as goal

pub returns-in_err-admit_refusal-clause-number : goal.returns-in_err-admit_refusal-clause-number
returns-in_err-admit_refusal-clause-number c =
    let t = tables c.args.shares.now c.args.places.now c.args.notices.now in
    let p = err_from_is_err_and c.from_residual.result c.from_residual.ensures.1 in
    rw (p.1, p.2) (W.admit_early c.args.h t c.requires.0 c.args.x c.args.standing c.requires.1 _ c.in_err-admit_refusal.ensures)

pub sum_with-sum-requires : goal.sum_with-sum-requires
sum_with-sum-requires c =
    let t = tables c.args.shares.now c.args.places.now c.args.notices.now in
    ((S.shapes t (S.formed_tables c.args.h t c.requires.0)).members_shape, c.requires.1, W.admit_units c.args.h t c.requires.0 c.args.x c.args.standing c.requires.1 (sym c.in_ok-admit_refusal.ensures))

pub returns-then-frame-sum-clause-number : goal.returns-then-frame-sum-clause-number
returns-then-frame-sum-clause-number c =
    let t = tables c.args.shares.now c.args.places.now c.args.notices.now in
    W.admit_over c.args.h t c.requires.0 c.args.x c.args.standing c.requires.1 (sym c.in_ok-admit_refusal.ensures) _ c.sum_with-sum.ensures (omega (arith, c.if-frame-sum.true))

pub places_of_all-requires : goal.places_of_all-requires
places_of_all-requires c =
    let t = tables c.args.shares.now c.args.places.now c.args.notices.now in
    ((S.shapes t (S.formed_tables c.args.h t c.requires.0)).members_shape, c.requires.1)

pub overflow_add-places_asked : goal.overflow_add-places_asked
overflow_add-places_asked c =
    let t = tables c.args.shares.now c.args.places.now c.args.notices.now in
    omega (arith, c.places_of_all.ensures, W.admit_places c.args.h t c.requires.0 c.args.x c.args.standing c.requires.1 (sym c.in_ok-admit_refusal.ensures))

pub returns-then-places_asked-gt-MAX_RESERVED-clause-number : goal.returns-then-places_asked-gt-MAX_RESERVED-clause-number
returns-then-places_asked-gt-MAX_RESERVED-clause-number c =
    let t = tables c.args.shares.now c.args.places.now c.args.notices.now in
    W.admit_room c.args.h t c.requires.0 c.args.x c.args.standing c.requires.1 (sym c.in_ok-admit_refusal.ensures) _ c.sum_with-sum.ensures (omega (arith, c.if-frame-sum.false)) _ _ c.places_of_all.ensures (search rules)

pub returns-clause-number : goal.returns-clause-number
returns-clause-number c =
    let t = tables c.args.shares.now c.args.places.now c.args.notices.now in
    W.admit_room c.args.h t c.requires.0 c.args.x c.args.standing c.requires.1 (sym c.in_ok-admit_refusal.ensures) _ c.sum_with-sum.ensures (omega (arith, c.if-frame-sum.false)) _ _ c.places_of_all.ensures (search rules)
