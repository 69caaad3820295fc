use native.Mathlib.Omega.{arith}
use mathlib.Core.Path.{sym}
use borrow.Author.Rules.{rules}
use Rattle.std.proofs.lemmas.Result.{err_from_is_err_and}
use Rattle.state.specs.View.{tables}
use Rattle.state.proofs.SoundLaws as S
use Rattle.connections.specs.Members.{connections_in}
use Rattle.connections.proofs.MemberLaws.{connections_length}
use Rattle.connections.proofs.OwnerLaws.{used_le}
use Rattle.connections.proofs.WrittenLaws.{used_is}
use Rattle.calls.proofs.VerdictLaws as W
use Rattle.calls.proofs.verdicts.admit_verdict.Goals as goal

pub returns-in_err-admit_refusal-clause-number : goal.returns-in_err-admit_refusal-clause-number
returns-in_err-admit_refusal-clause-number c =
    let t = tables c.args.members.now c.args.places.now c.args.notices.now in
    let p = err_from_is_err_and c.from_residual.result c.from_residual.ensures.1 in
    rw (p.1, p.2) (W.admit_early c.args.h t c.requires.0 c.args.x c.args.c c.requires.2 _ c.in_err-admit_refusal.ensures)

pub newcomer_test-short-requires : goal.newcomer_test-short-requires
newcomer_test-short-requires c =
    let t = tables c.args.members.now c.args.places.now c.args.notices.now in
    let none = sym c.in_ok-admit_refusal.ensures in
    let f = (S.shapes t (S.formed_tables c.args.h t c.requires.0)).members_shape in
    let g = W.admit_figures c.args.h t c.requires.0 c.args.x c.args.c c.requires.2 none in
    (S.members_size c.args.h t c.requires.0, omega (arith, c.requires.1, used_is c.args.members.now f), omega (arith, c.requires.1, used_is c.args.members.now f, used_le (connections_in c.args.members.now), connections_length c.args.members.now), g.0, g.1, g.2, W.admit_within c.args.h t c.requires.0 c.args.x c.args.c c.requires.2 none, W.admit_passes c.args.h t c.requires.0 c.args.x c.args.c c.requires.2 none)

pub returns-then-short-ne0 : goal.returns-then-short-ne0
returns-then-short-ne0 c =
    let t = tables c.args.members.now c.args.places.now c.args.notices.now in
    let none = sym c.in_ok-admit_refusal.ensures in
    let e = c.newcomer_test-short.ensures _ (W.admit_sums c.args.h t c.requires.0 c.args.x c.args.c c.requires.2 none) in
    record { number = W.admit_short c.args.h t c.requires.0 c.args.x c.args.c c.requires.2 none _ e c.if-short-ne0.true; over = e }

pub reserved_by-requires : goal.reserved_by-requires
reserved_by-requires c =
    let t = tables c.args.members.now c.args.places.now c.args.notices.now in
    let none = sym c.in_ok-admit_refusal.ensures in
    let f = (S.shapes t (S.formed_tables c.args.h t c.requires.0)).members_shape in
    (S.members_size c.args.h t c.requires.0, omega (arith, c.requires.1, used_is c.args.members.now f), omega (arith, c.requires.1, used_is c.args.members.now f, used_le (connections_in c.args.members.now), connections_length c.args.members.now), W.admit_within c.args.h t c.requires.0 c.args.x c.args.c c.requires.2 none)

pub reserve-requires : goal.reserve-requires
reserve-requires c =
    let t = tables c.args.members.now c.args.places.now c.args.notices.now in
    let none = sym c.in_ok-admit_refusal.ensures in
    let g = W.admit_figures c.args.h t c.requires.0 c.args.x c.args.c c.requires.2 none in
    ((λ e. absurd (omega (arith, g.0))), (λ n. g.1), g.3)

pub returns-then-all-gt-MAX_RESERVED-clause-number : goal.returns-then-all-gt-MAX_RESERVED-clause-number
returns-then-all-gt-MAX_RESERVED-clause-number c =
    let t = tables c.args.members.now c.args.places.now c.args.notices.now in
    let none = sym c.in_ok-admit_refusal.ensures in
    let e = c.newcomer_test-short.ensures _ (W.admit_sums c.args.h t c.requires.0 c.args.x c.args.c c.requires.2 none) in
    W.admit_room c.args.h t c.requires.0 c.args.x c.args.c c.requires.2 none _ e _ _ (omega (arith, c.if-short-ne0.false)) (W.admit_reserved c.args.h t c.requires.0 c.args.x c.args.c c.requires.2 none _ _ c.reserved_by.ensures.0 c.reserve.ensures.0) (search rules)

pub returns-clause-number : goal.returns-clause-number
returns-clause-number c =
    let t = tables c.args.members.now c.args.places.now c.args.notices.now in
    let none = sym c.in_ok-admit_refusal.ensures in
    let e = c.newcomer_test-short.ensures _ (W.admit_sums c.args.h t c.requires.0 c.args.x c.args.c c.requires.2 none) in
    W.admit_room c.args.h t c.requires.0 c.args.x c.args.c c.requires.2 none _ e _ _ (omega (arith, c.if-short-ne0.false)) (W.admit_reserved c.args.h t c.requires.0 c.args.x c.args.c c.requires.2 none _ _ c.reserved_by.ensures.0 c.reserve.ensures.0) (search rules)
