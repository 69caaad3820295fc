-- The numbers of an answer fit the fields of its record.
use Prim.Native.Nat.{ℕ, zero, suc, ◌+◌, ◌≤◌, ◌<◌}
use native.Mathlib.Omega.{arith}
use mathlib.Core.Path.{◌≡◌, refl, ap, ◌∙◌, subst, sym}
use mathlib.Core.Bool.{Bool, true, false, cond, not}
use mathlib.Core.Logic.{⊎_elim}
use mathlib.Core.List.{List, [], ◌∷◌, ◌++◌}
use mathlib.Core.Option.{some}
use lib.Dec.{leb, ltb, eqb}
use lib.ListN.{length}
use borrow.Author.Tests.{eqb-true, eqb-false, ltb-true, not-false}
use Rattle.rules.specs.declared.Packet.{Packet}
use Rattle.rules.specs.declared.Short.{Short}
use Rattle.rules.specs.Words.{All, within, first_number}
use Rattle.rules.specs.Limits.{max_connections, max_reserved, clock_end, beyond_32_bits}
use Rattle.rules.specs.Service.{sent}
use Rattle.rules.specs.SoundLine.{Waits}
use Rattle.rules.specs.Promises.{AnswerFits}
use Rattle.rules.proofs.Doings.{PacketFits}
use Rattle.rules.proofs.Doings.{number_limit}
use Rattle.rules.proofs.Lists.{all_zip}
use Rattle.rules.proofs.Sums.{same, cond_ind}
use Rattle.rules.proofs.Tests.{and_true, within_true}
use Rattle.rules.proofs.Rows.{none_some, some_inj, first_all}
use Rattle.frames.specs.Limits.{max_units, max_places}
use Rattle.frames.specs.Model.{Share, State, Call, link, admit, offer, notice, tick, Answer}
use Rattle.frames.specs.Admission.{share_within, frame_sum, all_places}
use Rattle.frames.specs.Service.{next_frame, ticked}
use Rattle.frames.specs.SoundState.{Fits, Dated, SoundWithLink, Sound}
use Rattle.frames.specs.SoundTest.{sound}
use Rattle.frames.specs.Calls.{verdicts, verdict, done, refused_number, refused_short, settle, answer}
use Rattle.frames.proofs.FrameLaws.{next_near}
use Rattle.rules.proofs.WireLaws.{sent_cases}
use Rattle.frames.proofs.Figures.{sum_is, stands_below, sum_snoc}
use Rattle.frames.proofs.Verdicts.{admit_done, offer_done, tick_done}
use Rattle.frames.proofs.SoundTick.{facts, rows_sized, ready, ready_sound}
use Rattle.frames.proofs.SoundExact.{exact}
use Rattle.frames.proofs.Names.{ticked_is, sent_by}

-- the numbers of an answer to k
abbrev FitsFor : Call → Answer → Type 0
FitsFor k a = AnswerFits (refused_number k) a a.next.clock

number_le : (n : ℕ) (rs : List (ℕ × Bool)) → All (λ r. r.0 ≤ n) rs → first_number rs ≤ n
number_le n [] h = omega arith
number_le n (r ∷ rs) h = go r.1 (number_le n rs h.1)
  where
    go : (b : Bool) → first_number rs ≤ n → cond b r.0 (first_number rs) ≤ n
    go true k = h.0
    go false k = k

verdict_le : (k : Call) (s : State) → verdict k s ≤ 19
unfolding verdicts
verdict_le (link l) s = number_le 19 (verdicts (link l) s) (omega arith)
verdict_le (admit x) s = number_le 19 (verdicts (admit x) s) (omega arith)
verdict_le (offer c len tag) s = number_le 19 (verdicts (offer c len tag) s) (omega arith)
verdict_le (notice len tag) s = number_le 19 (verdicts (notice len tag) s) (omega arith)
verdict_le tick s = number_le 19 (verdicts tick s) (omega arith)

pub clock_le_end : (s : State) → Sound s → s.clock ≤ clock_end
clock_le_end s S = ⊎_elim (λ z. omega (arith, ap (λ (r : State). r.clock) (S.with_no_link z))) (λ n. (S.with_one n).clock_le) (same s.link.frame 0)

pub near_end : (s : State) → SoundWithLink s → (a : ℕ) → a ≤ s.clock → next_frame s.link.frame a < beyond_32_bits
near_end s S a h = let F = facts s S in omega (arith, next_near s.link.frame F.some_frame a, F.frame_max, S.clock_le)

-- ---- units over

pub record OverRefused (s : State) (x : Share) : Type 0 where
  pub over_by : s.link.frame < frame_sum s.link (s.connections ++ x ∷ [])
  pub own : frame_sum s.link (s.connections ++ x ∷ []) ≤ s.link.frame + x.units
  pub few_units : x.units ≤ max_units

pub over_refused : (s : State) (x : Share) → verdict (admit x) s ≡ 8 → OverRefused s x
unfolding verdicts share_within
over_refused s x e =
    let k =
    go (not (sound s)) (eqb s.link.frame 0) (not (share_within x)) (leb max_connections (length s.connections))
    (ltb s.link.frame (frame_sum s.link (s.connections ++ x ∷ []))) (ltb max_reserved (all_places (s.connections ++ x ∷ []))) e in
    let S : SoundWithLink s = ((exact s).0 (not-false _ k.0)).with_one (eqb-false _ _ k.1) in
    record {
      over_by = ltb-true _ _ k.3;
      own = omega (arith, S.units_le, sum_is s.link s.connections, sum_is s.link (s.connections ++ x ∷ []), sum_snoc s.connections x (λ y. y.units));
      few_units = (within_true 1 max_units x.units (and_true (within 1 max_units x.units) (within 1 max_places x.places) (not-false _ k.2)).0).1;
    }
  where
    go : (a b c d f g : Bool) → ◌≡◌ {A = ℕ} (cond a 1 (cond b 2 (cond c 6 (cond d 7 (cond f 8 (cond g 9 0)))))) 8 → (a ≡ false) × (b ≡ false) × (c ≡ false) × (f ≡ true)
    go true b c d f g e = absurd (omega arith)
    go false true c d f g e = absurd (omega arith)
    go false false true d f g e = absurd (omega arith)
    go false false false true f g e = absurd (omega arith)
    go false false false false true g e = (refl, refl, refl, refl)
    go false false false false false true e = absurd (omega arith)
    go false false false false false false e = absurd (omega arith)

-- ---- a tick

module _ (s : State) (S : SoundWithLink s) (running : s.clock < clock_end) where
  held_fit : All PacketFits s.held
  held_fit = all_zip one s.held S.fit S.dated
    where
      one : (p : Packet) → Fits s.link s.connections p → Dated s.link.frame s.clock p → PacketFits p
      one p f d = (omega (arith, stands_below s.connections p.connection f.standing, S.few), omega (arith, d.arrived, S.clock_le), omega (arith, d.next_start, near_end s S p.arrival d.arrived))

  departed_fits : (p : Packet) → (sent_by s).departed ≡ some p → PacketFits p
  departed_fits =
      sent_cases (λ _. false) s.link.largest s.link.silence s.clock (ready s S) (ready_sound s S) (rows_sized s S) sent (λ x. (p : Packet) → x.departed ≡ some p → PacketFits p)
      (λ e p i. absurd (none_some i))
      (λ r e p i. subst PacketFits (some_inj i) (first_all (ready s S).serving PacketFits s.held r.it r.is_first held_fit))
      (λ r ns j e p i.
      let f : Waits s.link.largest s.clock r.it = (subst (All (Waits s.link.largest s.clock)) j S.line.notices_fit).0 in
      subst PacketFits (some_inj i)
      ((omega arith, omega (arith, f.arrived, S.clock_le), omega (arith, f.arrived, S.clock_le))))
      (λ u e k p i. absurd (none_some i))

  ticked_fits : FitsFor tick (ticked s)
  ticked_fits =
      subst (FitsFor tick) (sym (ticked_is s))
      (record { verdict = omega arith; number = omega arith; level = omega arith; units = omega arith; departed = departed_fits; finish = omega (arith, running) })

-- ---- every call

done_fits : (k : Call) (s : State) → Sound s → verdict k s ≡ 0 → FitsFor k (done k s)
done_fits (link l) s S e = record { verdict = omega arith; number = omega arith; level = omega arith; units = omega arith; departed = λ p i. absurd (none_some i); finish = omega (arith, clock_le_end s S) }
done_fits (admit x) s S e =
    record { verdict = omega arith; number = omega (arith, (admit_done s x e).few); level = omega arith; units = omega arith; departed = λ p i. absurd (none_some i); finish = omega (arith, clock_le_end s S) }
done_fits (offer c len tag) s S e =
    record {
      verdict = omega arith;
      number = near_end s (S.with_one (offer_done s c len tag e).set) s.clock (omega arith);
      level = omega arith;
      units = omega arith;
      departed = λ p i. absurd (none_some i);
      finish = omega (arith, clock_le_end s S);
    }
done_fits (notice len tag) s S e =
    record { verdict = omega arith; number = omega (arith, clock_le_end s S); level = omega arith; units = omega arith; departed = λ p i. absurd (none_some i); finish = omega (arith, clock_le_end s S) }
done_fits tick s S e = let d = tick_done s e in ticked_fits s (S.with_one d.set) d.running

refused_small : (k : Call) (s : State) (v : ℕ) → verdict k s ≡ v → ((refused_short k s v).level ≡ 0) × ((refused_short k s v).units ≤ max_units)
refused_small (link l) s v e = (refl, omega arith)
refused_small (admit x) s v e =
    cond_ind (λ (o : Short). (o.level ≡ 0) × (o.units ≤ max_units)) (eqb v 8)
    (λ i. let R = over_refused s x (e ∙ eqb-true v 8 i) in (refl, omega (arith, R.own, R.few_units)))
    (λ _. (refl, omega arith))
refused_small (offer c len tag) s v e = (refl, omega arith)
refused_small (notice len tag) s v e = (refl, omega arith)
refused_small tick s v e = (refl, omega arith)

small_number : (k : Call) → refused_number k < number_limit (refused_number k)
small_number (link l) = omega arith
small_number (admit x) = omega arith
small_number (offer c len tag) = omega arith
small_number (notice len tag) = omega arith
small_number tick = omega arith

pub answer_fits : (k : Call) (s : State) → Sound s → FitsFor k (answer k s)
answer_fits k s S = go (verdict k s) refl
  where
    go : (v : ℕ) → verdict k s ≡ v → FitsFor k (settle k s v)
    go zero e = done_fits k s S e
    go (suc v) e = record {
      verdict = omega (arith, verdict_le k s);
      number = small_number k;
      level = omega (arith, (refused_small k s (suc v) e).0);
      units = omega (arith, (refused_small k s (suc v) e).1);
      departed = λ p i. absurd (none_some i);
      finish = omega (arith, clock_le_end s S);
    }
