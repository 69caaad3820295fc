-- Every call keeps the invariant, so every run from fresh has it.
use Prim.Native.Nat.{ℕ, suc, ◌<◌}
use native.Mathlib.Omega.{arith}
use mathlib.Core.Path.{◌≡◌, refl, sym, ap, ◌∙◌, subst}
use mathlib.Core.Bool.{false}
use mathlib.Core.Logic.{inl}
use mathlib.Core.List.{List, [], ◌∷◌, ◌++◌}
use lib.ListN.{length, get_or-eq_default}
use Rattle.rules.specs.Words.{filter, push}
use Rattle.rules.specs.Limits.{notice_number}
use Rattle.rules.specs.Model.{Link, Connection, no_connection, Packet, State, Call, link, admit, offer, notice, close, tick, fresh, notice_packet}
use Rattle.rules.specs.Admission.{owned, free_number}
use Rattle.rules.specs.Service.{ticked}
use Rattle.rules.specs.SoundState.{Sound}
use Rattle.rules.specs.Calls.{verdict, packet, done}
use Rattle.rules.proofs.Doings.{marked, refused}
use Rattle.rules.specs.Runs.{Departure, History, logged, after, run_from, nothing_yet, run}
use Rattle.rules.proofs.RunWords.{leaving}
use Rattle.rules.proofs.Lists.{all_map, nil, filter_all, filter_snoc_off}
use Rattle.rules.proofs.Tests.{never}
use Rattle.rules.proofs.Standing.{stands_below, level_free, free_is}
use Rattle.rules.proofs.Verdicts.{settled, link_done, admit_done, offer_done, close_done, tick_done}
use Rattle.rules.proofs.Line.{tick_leaves}
use Rattle.rules.proofs.SoundTick.{sound_ticked}
use Rattle.rules.proofs.SoundSwept.{orderly_marked}
use Rattle.rules.proofs.SoundKept.{fresh_free, done_sound}
use Rattle.rules.proofs.Invariant.{Steady, Invariant, connections_few}
use Rattle.rules.proofs.KeptBySweep.{sweep_keeps}
use Rattle.rules.proofs.KeptByTick.{ticked_keeps}
use Rattle.rules.proofs.KeptByAdmit.{joined_keeps, linked_keeps, marked_keeps}
use Rattle.rules.proofs.KeptByOffer.{placed_keeps}
use Rattle.rules.proofs.KeptByNotice.{noted_keeps}

-- where no number is freed, every packet of a present owner stays
settle_in : (all : List Packet) (gone : List Departure) (acc : List Packet) (s : State) → Sound s → Steady all gone acc s
    → Invariant (record { accepted = all; departed = gone; present = filter (λ p. owned s.connections p.connection) acc; now = s })
settle_in all gone acc s S T =
    subst (λ (ps : List Packet). Invariant (record { accepted = all; departed = gone; present = ps; now = s }))
    (sym (filter_all (λ p. owned s.connections p.connection) acc (all_map (λ p f. f.owner) acc T.regular.fit)))
    (record { sound = S; steady = T })

-- the number of the notices has no owner
pub no_owner : (s : State) → Sound s → owned s.connections notice_number ≡ false
no_owner s S =
    level_free s.connections notice_number (ap (λ (x : Connection). x.level) (get_or-eq_default s.connections no_connection {n = notice_number} (omega (arith, connections_few s S))))

done_keeps : (k : Call) (h : History) → Invariant h → verdict k h.now ≡ 0 → Sound (done k h.now).next → Invariant (logged h k (done k h.now))
done_keeps (link l) h I e T = settle_in h.accepted h.departed h.present (done (link l) h.now).next T (linked_keeps h I l (I.sound.with_no_link (link_done h.now l e).unset) T)
done_keeps (admit x) h I e T =
    let d = admit_done h.now x e in
    let O = (I.sound.with_one d.set).orderly in
    let room : free_number h.now.connections < length h.now.connections = omega (arith, O.numbers, d.free) in
    settle_in h.accepted h.departed h.present (done (admit x) h.now).next T
    (joined_keeps h I x room (O.free_blank (free_number h.now.connections) d.free (level_free h.now.connections (free_number h.now.connections) (free_is h.now.connections room))).1)
done_keeps (offer c len tag st) h I e T =
    let d = offer_done h.now c len tag st e in
    let O = (I.sound.with_one d.set).orderly in
    settle_in (h.accepted ++ packet h.now c len tag st ∷ []) h.departed (h.present ++ packet h.now c len tag st ∷ []) (done (offer c len tag st) h.now).next T
    (placed_keeps h I c len tag st (omega (arith, O.numbers, O.one_past_each, stands_below h.now c d.standing)) d)
done_keeps (notice len tag) h I e T =
    subst (λ (ps : List Packet). Invariant (record { accepted = h.accepted ++ it ∷ []; departed = h.departed; present = ps; now = (done (notice len tag) h.now).next }))
    (sym (filter_snoc_off (λ p. owned h.now.connections p.connection) h.present it (no_owner h.now I.sound)))
    (settle_in (h.accepted ++ it ∷ []) h.departed h.present (done (notice len tag) h.now).next T (noted_keeps h I len tag))
  where
    it : Packet
    it = notice_packet (record { len = len; tag = tag; arrival = h.now.clock })
done_keeps (close c) h I e T =
    let d = close_done h.now c e in
    let O = (I.sound.with_one d.set).orderly in
    sweep_keeps h.accepted h.departed h.present (marked h.now c) d.set (orderly_marked h.now O c d.standing d.empty) (marked_keeps h I c)
done_keeps tick h I e T =
    let d = tick_done h.now e in
    let O = (I.sound.with_one d.set).orderly in
    sweep_keeps h.accepted (push h.departed (leaving h.now (ticked h.now).departed)) h.present (ticked h.now).next (λ z. d.set (sym (ap (λ (l : Link). l.levels) (tick_leaves h.now).link) ∙ z)) (sound_ticked h.now O d.running) (ticked_keeps h I O)

-- a refusal leaves the history as it was
refused_keeps : (k : Call) (h : History) (v : ℕ) → Invariant h → Invariant (logged h k (refused k h.now (suc v)))
refused_keeps (link l) h v I = settle_in h.accepted h.departed h.present h.now I.sound I.steady
refused_keeps (admit x) h v I = settle_in h.accepted h.departed h.present h.now I.sound I.steady
refused_keeps (offer c len tag st) h v I = settle_in h.accepted h.departed h.present h.now I.sound I.steady
refused_keeps (notice len tag) h v I = settle_in h.accepted h.departed h.present h.now I.sound I.steady
refused_keeps (close c) h v I = settle_in h.accepted h.departed h.present h.now I.sound I.steady
refused_keeps tick h v I = settle_in h.accepted h.departed h.present h.now I.sound I.steady

pub keeps : (h : History) (k : Call) → Invariant h → Invariant (after h k)
keeps h k I =
    settled (λ a. Invariant (logged h k a)) k h.now (verdict k h.now)
    (λ e. done_keeps k h I e (done_sound k h.now I.sound e))
    (λ v. refused_keeps k h v I)

run_keeps : (ks : List Call) (h : History) → Invariant h → Invariant (run_from h ks)
run_keeps [] h I = I
run_keeps (k ∷ ks) h I = run_keeps ks (after h k) (keeps h k I)

fresh_sound : Sound fresh
fresh_sound = record { with_no_link = λ _. refl; with_one = λ n. absurd (n refl) }

pub fresh_invariant : Invariant nothing_yet
fresh_invariant = record {
  sound = fresh_sound;
  steady = record {
    regular = record { fit = tt; spaced = λ c o. never (sym (fresh_free c) ∙ o); remembered = λ c o. never (sym (fresh_free c) ∙ o); part = nil };
    line = inl (refl, omega arith);
    busy = λ m e low high. absurd (omega arith);
    punctual = tt;
    conserved = λ c. refl;
  };
}

-- what holds of every run from fresh
pub invariant : (ks : List Call) → Invariant (run ks)
invariant ks = run_keeps ks nothing_yet fresh_invariant
