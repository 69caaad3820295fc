-- Room for an offer that keeps the spacing and is not too early: the packets held and the new one lie within one bound, and the allowance, so they are no more than the
-- reservation. What an offer is told that is heard.
use Prim.Native.Nat.{ℕ, ◌+◌, ◌*◌, ◌-◌, ◌≤◌, ◌<◌}
use native.Mathlib.Omega.{arith}
use mathlib.Core.Path.{◌≡◌, refl, sym, ap, ◌∙◌}
use mathlib.Core.Bool.{Bool, true, false, cond, not}
use mathlib.Core.List.{List, [], ◌∷◌, ◌++◌}
use mathlib.Core.Option.{Option, none, some}
use lib.Dec.{leb, eqb}
use lib.ListN.{length}
use borrow.Author.Tests.{ne_eqb, lt-leb, not-true}
use Rattle.rules.specs.Words.{within, upto}
use Rattle.rules.specs.Limits.{clock_end}
use Rattle.rules.specs.Model.{Link, Connection, Packet, State, offer, past, figures}
use Rattle.rules.specs.Admission.{owned, stamped, stands, bound, reservation, distance}
use Rattle.rules.specs.Service.{suits, untimely_by, Spaced, of, eligibilities}
use Rattle.rules.proofs.Doings.{level_of}
use Rattle.rules.specs.SoundState.{Sound}
use Rattle.rules.specs.SoundTest.{sound}
use Rattle.rules.specs.Calls.{heard, eligibility_now, too_far, verdicts, verdict}
use Rattle.rules.specs.Runs.{History, bound_of, allowed}
use Rattle.rules.proofs.Lists.{All, all_map, all_zip, sub_snoc, total_snoc}
use Rattle.rules.proofs.Sums.{upto_yes, cond_is}
use Rattle.rules.proofs.Tests.{never, and_true}
use Rattle.rules.proofs.Rows.{to_of, sub_of, sub_map, length_map, all_map_of}
use Rattle.rules.proofs.Spacing.{spaced_before}
use Rattle.rules.proofs.WithoutAverage.{spaced_sub}
use Rattle.rules.proofs.Count.{among, inside, window_law, count_covers}
use Rattle.rules.proofs.Standing.{stands_owned}
use Rattle.rules.proofs.Figures.{ConnectionFacts, reservation_is}
use Rattle.rules.proofs.Verdicts.{near_made, heard_parts}
use Rattle.rules.proofs.Stamps.{in_time_of}
use Rattle.rules.proofs.Invariant.{Invariant, facts_of, some_bound}
use Rattle.rules.proofs.InTime.{held_in_time}
use Rattle.rules.proofs.SoundExact.{exact}

-- all of these lie within b .. t
pub all_among : (b t : ℕ) (es : List ℕ) → All (λ e. (b ≤ e) × (e ≤ t)) es → length es ≤ among b t es
all_among b t [] h = omega arith
all_among b t (e ∷ es) h = omega (arith, all_among b t es h.1, upto_yes e t 1 h.0.1, upto_yes b e (upto e t 1) h.0.0)

module _ (h : History) (I : Invariant h) (c e : ℕ) (standing : stands h.now c ≡ true)
    (keeps : Spaced (figures h.now c) (eligibilities c h.present ++ e ∷ []))
    (late : h.now.clock ≤ e) (near : e ≤ h.now.clock + (figures h.now c).allowance) where
  open h use {now as s, present as acc}

  below : owned s.connections c ≡ true
  below = stands_owned s c standing

  es : List ℕ
  es = eligibilities c s.held

  -- the packets held and the new one keep the spacing
  held_spaced : Spaced (figures s c) (es ++ e ∷ [])
  unfolding es
  held_spaced = spaced_sub (figures s c) (sub_snoc e (sub_map (λ (p : Packet). p.eligibility) (sub_of c I.steady.regular.part))) keeps

  some_d : 0 < bound_of s c
  some_d = let F = facts_of s I.sound in some_bound s I.sound (level_of s c) (F.each c below).low_level (F.each c below).high_level

  -- none of them is older than the bound, and none is later than the new one
  recent : All (λ f. (s.clock + 1 - bound_of s c ≤ f) × (f ≤ e)) es
  unfolding es
  recent =
      all_zip (λ f k l. (omega arith, omega arith)) (eligibilities c s.held)
      (all_map_of (λ p. p.eligibility) (λ f. s.clock < f + bound_of s c) (of c s.held)
      (all_map (λ q k. k.1) (of c s.held) (to_of c (λ q. s.clock < q.eligibility + bound_of s c) s.held (held_in_time h I c below))))
      (spaced_before (figures s c) ((facts_of s I.sound).each c below).some_gap (eligibilities c s.held) e held_spaced)

  pub room : length (of c s.held) < reservation s.link (figures s c)
  unfolding es
  room =
      omega (
        arith,
        reservation_is s.link (figures s c),
        length_map (λ (p : Packet). p.eligibility) (of c s.held),
        all_among (s.clock + 1 - bound_of s c) e es recent,
        total_snoc (inside (s.clock + 1 - bound_of s c) e) es e,
        upto_yes (s.clock + 1 - bound_of s c) e (upto e e 1) (omega (arith, some_d)),
        upto_yes e e 1 (omega arith),
        window_law (figures s c) e (es ++ e ∷ []) (s.clock + 1 - bound_of s c) ((figures s c).allowance + bound_of s c)
            ((facts_of s I.sound).each c below).some_gap held_spaced (omega (arith, some_d)),
      )

-- ---- the verdict of an offer, on any sound state with a link

pub offer_verdict : (s : State) → Sound s → (s.link.levels ≡ 0 → ⊥) → (c len tag : ℕ) (st : Option ℕ)
    → verdict (offer c len tag st) s
    ≡ cond (heard s c st)
    (cond (within 1 (figures s c).size len)
    (cond (leb (reservation s.link (figures s c)) (length (of c s.held))) 12
    (cond (leb clock_end s.clock) 13 (cond (untimely_by (figures s c) (past s c) s.clock st) 17 (cond (too_far s c st) 18 0))))
    11)
    10
unfolding verdicts
offer_verdict s S linked c len tag st =
    go (not (sound s)) (eqb s.link.levels 0) (heard s c st) (within 1 (figures s c).size len)
    (cond (leb (reservation s.link (figures s c)) (length (of c s.held))) 12 (cond (leb clock_end s.clock) 13 (cond (untimely_by (figures s c) (past s c) s.clock st) 17 (cond (too_far s c st) 18 0))))
    (ap not ((exact s).1 S)) (ne_eqb s.link.levels 0 linked)
  where
    go : (unsound unset hears right : Bool) (rest : ℕ) → unsound ≡ false → unset ≡ false
        → ◌≡◌ {A = ℕ} (cond unsound 1 (cond unset 2 (cond (not hears) 10 (cond (not right) 11 rest)))) (cond hears (cond right rest 11) 10)
    go true b c d e i j = never (sym i)
    go false true c d e i j = never (sym j)
    go false false false d e i j = refl
    go false false true false e i j = refl
    go false false true true e i j = refl

-- ---- no cause of 18: an eligibility on arrival, and one by a stamp that is in time

pub near_arrival : (s : State) (c : ℕ) (st : Option ℕ) → eligibility_now s c st ≡ s.clock → too_far s c st ≡ false
near_arrival s c st e = near_made s c st (omega (arith, e))

-- the allowance is no longer than the reservation times X
pub allowance_near : (l : Link) (c : Connection) → ConnectionFacts l c → stamped c ≡ true → c.allowance ≤ distance l c
allowance_near l c F second =
    omega (
      arith,
      ap (λ (n : ℕ). n * c.gap) (reservation_is l c),
      count_covers c (c.allowance + bound l c.level) F.some_gap (F.no_average second),
    )

pub near_stamp : (s : State) (c : ℕ) (st : Option ℕ) → ConnectionFacts s.link (figures s c) → stamped (figures s c) ≡ true → suits (figures s c) st ≡ true
    → untimely_by (figures s c) (past s c) s.clock st ≡ false → too_far s c st ≡ false
near_stamp s c none F second k u = never (sym (not-true (stamped (figures s c)) k) ∙ second)
near_stamp s c (some stamp) F second k u =
    near_made s c (some stamp) (omega (arith, (in_time_of (figures s c) (past s c) s.clock stamp u).not_later, allowance_near s.link (figures s c) F second))

-- ---- an offer that is heard

module _ (h : History) (I : Invariant h) (c len tag : ℕ) (st : Option ℕ) (hears : heard h.now c st ≡ true) where
  open h use {now as s}

  F : ConnectionFacts s.link (figures s c)
  F = (facts_of s I.sound).each c (stands_owned s c (heard_parts s c st hears).0)

  -- its verdict is 11, 12, 13, 17, 18 or 0
  pub decided_by : verdict (offer c len tag st) s
      ≡ cond (within 1 (figures s c).size len)
      (cond (leb (reservation s.link (figures s c)) (length (of c s.held))) 12
      (cond (leb clock_end s.clock) 13 (cond (untimely_by (figures s c) (past s c) s.clock st) 17 (cond (too_far s c st) 18 0))))
      11
  decided_by = offer_verdict s I.sound (λ z. omega (arith, F.low_level, F.high_level)) c len tag st ∙ cond_is _ 10 hears

  -- with room for it, no cause of 17 and none of 18: 11, 13 or 0
  pub decided : (within 1 (figures s c).size len ≡ true → length (of c s.held) < reservation s.link (figures s c))
      → (within 1 (figures s c).size len ≡ true → untimely_by (figures s c) (past s c) s.clock st ≡ false)
      → (within 1 (figures s c).size len ≡ true → too_far s c st ≡ false)
      → verdict (offer c len tag st) s ≡ cond (within 1 (figures s c).size len) (cond (leb clock_end s.clock) 13 0) 11
  decided room timely near =
      decided_by
      ∙ go (within 1 (figures s c).size len) (leb (reservation s.link (figures s c)) (length (of c s.held))) (leb clock_end s.clock)
      (untimely_by (figures s c) (past s c) s.clock st) (too_far s c st) (λ w. lt-leb _ _ (room w)) timely near
    where
      go : (right full ended late far : Bool) → (right ≡ true → full ≡ false) → (right ≡ true → late ≡ false) → (right ≡ true → far ≡ false)
          → ◌≡◌ {A = ℕ} (cond right (cond full 12 (cond ended 13 (cond late 17 (cond far 18 0)))) 11) (cond right (cond ended 13 0) 11)
      go false b c d f i j k = refl
      go true true c d f i j k = never (sym (i refl))
      go true false c true f i j k = never (sym (j refl))
      go true false c false true i j k = never (sym (k refl))
      go true false c false false i j k = refl

-- ---- so an offer of allowed length that has room and no cause of 17 or 18 is accepted while the clock runs

module _ (h : History) (I : Invariant h) (c len tag : ℕ) (st : Option ℕ) (ok : allowed h.now c len st ≡ true)
    (room : length (of c h.now.held) < reservation h.now.link (figures h.now c))
    (timely : untimely_by (figures h.now c) (past h.now c) h.now.clock st ≡ false)
    (near : too_far h.now c st ≡ false) where
  open h use {now as s}

  by_clock : verdict (offer c len tag st) s ≡ cond (leb clock_end s.clock) 13 0
  by_clock =
      let p = and_true (heard s c st) (within 1 (figures s c).size len) ok in
      decided h I c len tag st p.0 (λ _. room) (λ _. timely) (λ _. near) ∙ cond_is (cond (leb clock_end s.clock) 13 0) 11 p.1

  pub not_for_room : verdict (offer c len tag st) s ≡ 12 → ⊥
  not_for_room e = go (leb clock_end s.clock) (sym by_clock ∙ e)
    where
      go : (ended : Bool) → ◌≡◌ {A = ℕ} (cond ended 13 0) 12 → ⊥
      go true i = omega arith
      go false i = omega arith

  pub welcome : s.clock < clock_end → verdict (offer c len tag st) s ≡ 0
  welcome running = by_clock ∙ cond_is 13 0 (lt-leb clock_end s.clock running)
