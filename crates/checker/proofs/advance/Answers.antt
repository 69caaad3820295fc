use Rattle.checker.proofs.MoveLaws.{by_comparing, by_steps, by_closing, by_failing, compares_nearer, steps_nearer, end_on}
use Rattle.turns.proofs.TurnLaws.{length_window}
use Rattle.turns.specs.Turns.{window}
use Rattle.turns.specs.declared.Turn.{Turn}
use Rattle.rules.proofs.Tests.{never}
use lib.ListN.{length}
use mathlib.Core.Logic.{inl, inr}
use mathlib.Core.Path.{refl, ap}
use Rattle.turns.specs.declared.End.TheVariants.{Whole, Malformed, ReadFailed, NotTaken}
use Rattle.turns.proofs.RunLaws.{some_is}
use Prim.Native.Nat.{◌<◌}
use native.Mathlib.Omega.{arith}
use Rattle.checker.proofs.advance.Goals as goal

pub returns-then-c : goal.returns-then-c
returns-then-c g c =
    let a = c.args in
    let F = c.requires in
    let n = length_window a.out.now a.c.met a.c.wrote F.expected.order F.expected.inside in
    let r = c.compare in
    let m = length_window a.out.now r.result.met r.result.wrote r.ensures.inside.0.order r.ensures.inside.0.inside in
    let h : 0 < length (window a.out.now a.c.met a.c.wrote) = omega (arith, n, c.if-c.true) in record { advances = by_comparing a.c _ _ _ _ r.result _ _ _ h r.ensures.compares (ap (λ (v : Turn). window a.buf.now v.from v.to) r.ensures.compares.turn); same_slices = (refl, refl, refl, refl, refl, refl); nearer = λ o. compares_nearer (length a.buf.now) (length a.out.now) (length a.log.now) a.c F r.result _ _ _ _ n m h r.ensures.compares r.ensures.inside.0 r.ensures.inside.1 o }

pub steps-requires : goal.steps-requires
steps-requires g c = c.requires.trace c.in-None.is

pub returns-in-None : goal.returns-in-None
returns-in-None g c =
    let a = c.args in
    let F = c.requires in
    let n = length_window a.out.now a.c.met a.c.wrote F.expected.order F.expected.inside in
    let r = c.steps in record { advances = by_steps a.c _ _ _ a.log.now _ r.result _ _ _ (omega (arith, n, c.if-c.false)) c.in-None.is F.room.0 r.ensures.steps_on; same_slices = r.ensures.same_slices; nearer = λ o. steps_nearer (length a.buf.now) (length a.out.now) (length a.log.now) a.c F _ _ _ r.result _ _ _ c.in-None.is r.ensures.steps_on r.ensures.wrote_in_bounds.0 r.ensures.wrote_in_bounds.1 }

pub returns-in-Some-Whole : goal.returns-in-Some-Whole
returns-in-Some-Whole g c =
    let a = c.args in
    let F = c.requires in
    let n = length_window a.out.now a.c.met a.c.wrote F.expected.order F.expected.inside in
    let r = c.close in record { advances = by_closing a.c _ _ _ _ r.result _ _ _ (omega (arith, n, c.if-c.false)) (inl (some_is c.in-Some-Whole.field-0 Whole c.in-Some-Whole.is (rw c.in-Some-Whole.is at c.in-Some-Whole.field-0-is))) r.ensures (ap (λ (v : Turn). window a.buf.now v.from v.to) r.ensures.turn) (rw (r.ensures.expected.0, r.ensures.expected.1)); same_slices = (refl, refl, refl, refl, refl, refl); nearer = λ o. absurd (end_on a.c _ r.result _ r.ensures o) }

pub returns-in-Some-Malformed : goal.returns-in-Some-Malformed
returns-in-Some-Malformed g c =
    let a = c.args in
    let F = c.requires in
    let n = length_window a.out.now a.c.met a.c.wrote F.expected.order F.expected.inside in
    let r = c.close-in-Some-Malformed in record { advances = by_closing a.c _ _ _ _ r.result _ _ _ (omega (arith, n, c.if-c.false)) (inr (some_is c.in-Some-Malformed.field-0 Malformed c.in-Some-Malformed.is (rw c.in-Some-Malformed.is at c.in-Some-Malformed.field-0-is))) r.ensures (ap (λ (v : Turn). window a.buf.now v.from v.to) r.ensures.turn) (rw (r.ensures.expected.0, r.ensures.expected.1)); same_slices = (refl, refl, refl, refl, refl, refl); nearer = λ o. absurd (end_on a.c _ r.result _ r.ensures o) }

pub returns-in-Some-ReadFailed : goal.returns-in-Some-ReadFailed
returns-in-Some-ReadFailed g c =
    let a = c.args in
    let F = c.requires in
    let n = length_window a.out.now a.c.met a.c.wrote F.expected.order F.expected.inside in
    rw c.fail.ensures (record { advances = by_failing a.c _ _ _ _ (omega (arith, n, c.if-c.false)) (inl (some_is c.in-Some-ReadFailed.field-0 ReadFailed c.in-Some-ReadFailed.is (rw c.in-Some-ReadFailed.is at c.in-Some-ReadFailed.field-0-is))); same_slices = (refl, refl, refl, refl, refl, refl); nearer = λ o. never cc })

pub returns-in-Some-NotTaken : goal.returns-in-Some-NotTaken
returns-in-Some-NotTaken g c =
    let a = c.args in
    let F = c.requires in
    let n = length_window a.out.now a.c.met a.c.wrote F.expected.order F.expected.inside in
    rw c.fail-in-Some-NotTaken.ensures (record { advances = by_failing a.c _ _ _ _ (omega (arith, n, c.if-c.false)) (inr (some_is c.in-Some-NotTaken.field-0 NotTaken c.in-Some-NotTaken.is (rw c.in-Some-NotTaken.is at c.in-Some-NotTaken.field-0-is))); same_slices = (refl, refl, refl, refl, refl, refl); nearer = λ o. never cc })
