-- Every call keeps the invariant, so every run from fresh has it.
use Prim.Native.Nat.{ℕ, suc}
use native.Mathlib.Omega.{arith}
use mathlib.Core.Path.{◌≡◌, refl, subst, sym}
use mathlib.Core.List.{List, [], ◌∷◌}
use Rattle.frames.specs.Model.{Call, link, admit, offer, notice, tick, fresh, Answer}
use Rattle.frames.specs.SoundState.{Sound}
use Rattle.frames.specs.Calls.{verdict, done}
use Rattle.frames.specs.Runs.{run}
use Rattle.frames.proofs.Verdicts.{settled, link_done, offer_done, tick_done}
use Rattle.frames.proofs.SoundKept.{done_sound}
use Rattle.frames.proofs.Invariant.{Invariant}
use Rattle.frames.proofs.KeptByTick.{ticked_keeps}
use Rattle.frames.proofs.KeptByCalls.{linked_keeps, joined_keeps, noted_keeps, placed_keeps}
use Rattle.frames.proofs.Names.{refused, History, logged, after, run_from, nothing_yet, ticked_is}

done_keeps : (k : Call) (h : History) → Invariant h → verdict k h.now ≡ 0 → Sound (done k h.now).next → Invariant (logged h k (done k h.now))
done_keeps (link l) h I e then = linked_keeps h I l (I.sound.with_no_link (link_done h.now l e).unset) then
done_keeps (admit x) h I e then = joined_keeps h I x then
done_keeps (offer c len tag) h I e then =
    let d = offer_done h.now c len tag e in
    placed_keeps h I (I.sound.with_one d.set) c len tag d (then.with_one d.set) then
done_keeps (notice len tag) h I e then = noted_keeps h I len tag then
done_keeps tick h I e then =
    subst (λ (a : Answer). Sound a.next → Invariant (logged h tick a)) (sym (ticked_is h.now)) (ticked_keeps h I (I.sound.with_one (tick_done h.now e).set)) then

-- a refusal leaves the history as it was
refused_keeps : (k : Call) (h : History) (v : ℕ) → Invariant h → Invariant (logged h k (refused k h.now (suc v)))
refused_keeps (link l) h v I = I
refused_keeps (admit x) h v I = I
refused_keeps (offer c len tag) h v I = I
refused_keeps (notice len tag) h v I = I
refused_keeps tick h v I = I

pub keeps : (h : History) (k : Call) → Invariant h → Invariant (after h k)
keeps h k I =
    settled (λ a. Invariant (logged h k a)) k h.now (verdict k h.now)
    (λ e. done_keeps k h I e (done_sound k h.now I.sound e))
    (λ v. refused_keeps k h v I)

run_keeps : (ks : List Call) (h : History) → Invariant h → Invariant (run_from h ks)
run_keeps [] h I = I
run_keeps (k ∷ ks) h I = run_keeps ks (after h k) (keeps h k I)

fresh_sound : Sound fresh
fresh_sound = record { with_no_link = λ _. refl; with_one = λ n. absurd (n refl) }

pub fresh_invariant : Invariant nothing_yet
fresh_invariant = record { sound = fresh_sound; recent = tt; work = λ more. absurd (omega arith); conserved = λ c. refl; offered = refl; on_time = tt }

-- what holds of every run from fresh
pub invariant : (ks : List Call) → Invariant (run ks)
invariant ks = run_keeps ks nothing_yet fresh_invariant
