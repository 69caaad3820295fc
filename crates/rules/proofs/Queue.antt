-- The rows of one connection in a sound state: the clauses of docs/RULES.md, R-6, said as one step from each row to the next (`Chain`), by what is
-- remembered alone; the two forms are the same; and the second is kept by the calls.
use Prim.Native.Nat.{ℕ, zero, suc, ◌+◌, ◌*◌, ◌-◌, ◌≤◌, ◌<◌, max, min}
use native.Mathlib.Omega.{arith}
use mathlib.Core.Path.{◌≡◌, refl, sym, ap, ◌∙◌, subst}
use mathlib.Core.Bool.{Bool, true, false, cond}
use mathlib.Core.Logic.{◌⊎◌, inl, inr}
use mathlib.Core.List.{List, [], ◌∷◌, ◌++◌}
use mathlib.Core.Option.{Option, none, some}
use lib.ListN.{length, take, drop, get_elem?, length-drop}
use borrow.Author.Tests.{ne_eqb, eq-eqb, ltb-true, lt-ltb}
use Rattle.rules.specs.Limits.{max_remembered}
use Rattle.rules.specs.Model.{Link, Connection, Past, no_past}
use Rattle.rules.specs.Admission.{burst, stamped}
use Rattle.rules.specs.Service.{nth_before, ticks_after, earliest, next_eligibility, remember, remember_all, SpacedBehind}
use Rattle.rules.specs.SoundState.{departed_of, NearBy, is_known, lies_beyond, settled_by, settles, Near, Beyond, margin, Queue}
use Rattle.rules.specs.SoundTest.{reach}
use Rattle.rules.specs.SoundTest.{far_as, latest_by_gap, latest, latest_early, last_tick}
use Rattle.rules.proofs.Lists.{All, Pairs, all_map, all_every}
use Rattle.rules.proofs.Sums.{split, cond_is}
use Rattle.rules.proofs.Tests.{never}
use Rattle.rules.proofs.Figures.{ConnectionFacts}
use Rattle.rules.proofs.Memory.{remember_few, remember_all_few, remember_all_snoc, all_take, all_remember, all_remember_all, Agrees, agrees_remember, Forgets, Had, forgets_at, forgets_remember, take_forgets, remember_forgets, rest_of, rest_enough}
use Rattle.rules.proofs.Spacing.{earliest_is, earliest_fewer, earliest_same, same_before, next_is, Back, spaced_in_order, spaced_of_behind, spaced_rises}

-- ---- how late an eligibility may be behind those in h

module _ (c : Connection) where
  by_gap_is : (t : ℕ) (h : Past) → latest_by_gap c t h ≡ max (ticks_after c.gap (nth_before 1 h)) (far_as (t + reach c) c.window (nth_before (burst c) h))
  unfolding latest_by_gap
  by_gap_is t h = refl

  -- with an average, a packet is held back by a window at most
  reach_window : (i : ℕ) → burst c ≡ suc i → reach c ≡ c.window
  reach_window i e = cond_is c.gap c.window (ne_eqb (burst c) 0 (λ z. omega arith))

  reach_le : (far : ℕ) → c.gap ≤ far → c.window ≤ far → reach c ≤ far
  reach_le far g w = go (burst c) refl
    where
      go : (n : ℕ) → burst c ≡ n → reach c ≤ far
      go zero e = omega (arith, cond_is c.gap c.window (eq-eqb (burst c) 0 e))
      go (suc i) e = omega (arith, reach_window i e)

  -- as early as the rules allow is not too late
  earliest_by_gap : (t : ℕ) (h : Past) → earliest c h ≤ latest_by_gap c t h
  earliest_by_gap t h = omega (arith, earliest_is c h, by_gap_is t h, go (nth_before (burst c) h))
    where
      go : (o : Option ℕ) → ticks_after c.window o ≤ far_as (t + reach c) c.window o
      go none = omega arith
      go (some a) = omega arith

  -- where the n-th before is known they are the same; else the clock counts
  by_gap_known : (t : ℕ) (h : Past) (a : ℕ) → nth_before (burst c) h ≡ some a → latest_by_gap c t h ≡ earliest c h
  by_gap_known t h a e = omega (arith, earliest_is c h, by_gap_is t h, ap (far_as (t + reach c) c.window) e, ap (ticks_after c.window) e)

  pub by_gap_unknown : (t : ℕ) (h : Past) → nth_before (burst c) h ≡ none → latest_by_gap c t h ≡ max (t + reach c) (ticks_after c.gap (nth_before 1 h))
  by_gap_unknown t h e = omega (arith, by_gap_is t h, ap (far_as (t + reach c) c.window) e)

  by_gap_later : (t : ℕ) (h : Past) → latest_by_gap c t h ≤ latest_by_gap c (t + 1) h
  by_gap_later t h = omega (arith, by_gap_is t h, by_gap_is (t + 1) h, go (nth_before (burst c) h))
    where
      go : (o : Option ℕ) → far_as (t + reach c) c.window o ≤ far_as (t + 1 + reach c) c.window o
      go none = omega arith
      go (some a) = omega arith

  module _ (t : ℕ) (m k : Past) (F : Forgets (λ a. a ≤ t) m k) where
    -- what is forgotten is not beyond the clock
    far_fewer : far_as (t + reach c) c.window (nth_before (burst c) m) ≤ far_as (t + reach c) c.window (nth_before (burst c) k)
    far_fewer = go (burst c) refl
      where
        gone : (i : ℕ) (o : Option ℕ) → burst c ≡ suc i → Had (λ a. a ≤ t) o → far_as (t + reach c) c.window o ≤ t + reach c
        gone i none e h = omega arith
        gone i (some a) e h = omega (arith, reach_window i e)

        at : (i : ℕ) → burst c ≡ suc i → (get_elem? k i ≡ get_elem? m i) ⊎ ((get_elem? k i ≡ none) × Had (λ a. a ≤ t) (get_elem? m i))
            → far_as (t + reach c) c.window (get_elem? m i) ≤ far_as (t + reach c) c.window (get_elem? k i)
        at i e (inl q) = omega (arith, ap (far_as (t + reach c) c.window) q)
        at i e (inr q) = omega (arith, ap (far_as (t + reach c) c.window) q.0, gone i (get_elem? m i) e q.1)

        go : (n : ℕ) → burst c ≡ n → far_as (t + reach c) c.window (nth_before n m) ≤ far_as (t + reach c) c.window (nth_before n k)
        go zero e = omega arith
        go (suc i) e = at i e (forgets_at (λ a. a ≤ t) m k F i)

  by_gap_fewer : c.gap ≤ reach c → (t : ℕ) (m k : Past) → Forgets (λ a. a ≤ t) m k → latest_by_gap c t m ≤ latest_by_gap c t k
  by_gap_fewer g t m [] F =
      omega (arith, by_gap_is t m, by_gap_is t [], far_fewer t m [] F, first m F, nothing (burst c))
    where
      first : (m : Past) → All (λ a. a ≤ t) m → ticks_after c.gap (nth_before 1 m) ≤ t + reach c
      first [] h = omega arith
      first (b ∷ m) h = omega (arith, h.0)

      nothing : (n : ℕ) → far_as (t + reach c) c.window (nth_before n []) ≡ t + reach c
      nothing zero = refl
      nothing (suc n) = refl
  by_gap_fewer g t [] (a ∷ k) F = absurd F
  by_gap_fewer g t (b ∷ m) (a ∷ k) F = omega (arith, by_gap_is t (b ∷ m), by_gap_is t (a ∷ k), far_fewer t (b ∷ m) (a ∷ k) F, F.0)

  -- no later than a gap or a window after the last of all
  ticks_le : (x u n : ℕ) (h : Past) → All (λ e. e ≤ u) h → ticks_after x (nth_before n h) ≤ u + x
  ticks_le x u zero h a = omega arith
  ticks_le x u (suc i) [] a = omega arith
  ticks_le x u (suc zero) (e ∷ h) a = omega (arith, a.0)
  ticks_le x u (suc (suc i)) (e ∷ h) a = ticks_le x u (suc i) h a.1

  by_gap_le : (far t u : ℕ) (h : Past) → c.gap ≤ far → c.window ≤ far → t ≤ u → All (λ e. e ≤ u) h → latest_by_gap c t h ≤ u + far
  by_gap_le far t u h g w l a = omega (arith, by_gap_is t h, ticks_le c.gap u 1 h a, go (nth_before (burst c) h) (ticks_le c.window u (burst c) h a))
    where
      go : (o : Option ℕ) → ticks_after c.window o ≤ u + c.window → far_as (t + reach c) c.window o ≤ u + far
      go none q = omega (arith, reach_le far g w)
      go (some b) q = omega arith

-- ---- .. and of either kind

module _ (c : Connection) where
  latest_first : (t : ℕ) (h : Past) → stamped c ≡ false → latest c t h ≡ latest_by_gap c t h
  unfolding latest
  latest_first t h e = cond_is (t + c.allowance) (latest_by_gap c t h) e

  pub latest_second : (t : ℕ) (h : Past) → stamped c ≡ true → latest c t h ≡ t + c.allowance
  unfolding latest
  latest_second t h e = cond_is (t + c.allowance) (latest_by_gap c t h) e

  earliest_latest : (t : ℕ) (h : Past) → stamped c ≡ false → earliest c h ≤ latest c t h
  earliest_latest t h e = omega (arith, latest_first t h e, earliest_by_gap c t h)

  latest_known : (t : ℕ) (h : Past) (a : ℕ) → stamped c ≡ false → nth_before (burst c) h ≡ some a → latest c t h ≡ earliest c h
  latest_known t h a s e = latest_first t h s ∙ by_gap_known c t h a e

  pub latest_unknown : (t : ℕ) (h : Past) → stamped c ≡ false → nth_before (burst c) h ≡ none → latest c t h ≡ max (t + reach c) (ticks_after c.gap (nth_before 1 h))
  latest_unknown t h s e = latest_first t h s ∙ by_gap_unknown c t h e

  latest_later : (t : ℕ) (h : Past) → latest c t h ≤ latest c (t + 1) h
  latest_later t h = go (stamped c) refl
    where
      go : (b : Bool) → stamped c ≡ b → latest c t h ≤ latest c (t + 1) h
      go true e = omega (arith, latest_second t h e, latest_second (t + 1) h e)
      go false e = omega (arith, latest_first t h e, latest_first (t + 1) h e, by_gap_later c t h)

  latest_fewer : c.gap ≤ reach c → (t : ℕ) (m k : Past) → Forgets (λ a. a ≤ t) m k → latest c t m ≤ latest c t k
  latest_fewer g t m k F = go (stamped c) refl
    where
      go : (b : Bool) → stamped c ≡ b → latest c t m ≤ latest c t k
      go true e = omega (arith, latest_second t m e, latest_second t k e)
      go false e = omega (arith, latest_first t m e, latest_first t k e, by_gap_fewer c g t m k F)

  latest_le : (far t u : ℕ) (h : Past) → c.gap ≤ far → c.window ≤ far → c.allowance ≤ far → t ≤ u → All (λ e. e ≤ u) h → latest c t h ≤ u + far
  latest_le far t u h g w a l k = go (stamped c) refl
    where
      go : (b : Bool) → stamped c ≡ b → latest c t h ≤ u + far
      go true e = omega (arith, latest_second t h e)
      go false e = omega (arith, latest_first t h e, by_gap_le c far t u h g w l k)

-- ---- whose packets may go early

module _ (c : Connection) where
  module _ (r t : ℕ) (h : Past) where
    early_settled : settles c t h ≡ true → latest_early c r t h ≡ min (t + r) (max t (earliest c h))
    unfolding latest_early
    early_settled e = cond_is (min (t + r) (max t (earliest c h))) (t + r) e

    early_open : settles c t h ≡ false → latest_early c r t h ≡ t + r
    unfolding latest_early
    early_open e = cond_is (min (t + r) (max t (earliest c h))) (t + r) e

    early_le : latest_early c r t h ≤ t + r
    early_le = go (settles c t h) refl
      where
        go : (b : Bool) → settles c t h ≡ b → latest_early c r t h ≤ t + r
        go true e = omega (arith, early_settled e)
        go false e = omega (arith, early_open e)

    -- as early as the rules allow is not too late
    earliest_early : max t (earliest c h) ≤ t + r → max t (earliest c h) ≤ latest_early c r t h
    earliest_early l = go (settles c t h) refl
      where
        go : (b : Bool) → settles c t h ≡ b → max t (earliest c h) ≤ latest_early c r t h
        go true e = omega (arith, early_settled e)
        go false e = omega (arith, early_open e)

  -- what settles an eligibility later does so now
  settles_later : (t : ℕ) (h : Past) → settles c (t + 1) h ≡ true → settles c t h ≡ true
  unfolding settles
  settles_later t h e = go (burst c) e
    where
      one : (o : Option ℕ) → lies_beyond (t + 1) o ≡ true → lies_beyond t o ≡ true
      one none e = never e
      one (some a) e = lt-ltb t a (omega (arith, ltb-true (t + 1) a e))

      go : (n : ℕ) → settled_by n (t + 1) h ≡ true → settled_by n t h ≡ true
      go zero e = one (nth_before 1 h) e
      go (suc n) e = e

  early_later : (r t : ℕ) (h : Past) → latest_early c r t h ≤ latest_early c r (t + 1) h
  early_later r t h = go (settles c (t + 1) h) refl
    where
      go : (b : Bool) → settles c (t + 1) h ≡ b → latest_early c r t h ≤ latest_early c r (t + 1) h
      go true e = omega (arith, early_settled r (t + 1) h e, early_settled r t h (settles_later t h e))
      go false e = omega (arith, early_open r (t + 1) h e, early_le r t h)

  -- what settles it behind fewer does so behind all
  fewer_at : (P : ℕ → Type 0) (t n : ℕ) (m k : Past) → Forgets P m k → settled_by n t k ≡ true
      → (settled_by n t m ≡ true) × (nth_before 1 m ≡ nth_before 1 k) × (nth_before n m ≡ nth_before n k)
  fewer_at P t zero m [] F e = never e
  fewer_at P t (suc n) m [] F e = never e
  fewer_at P t n [] (a ∷ k) F e = absurd F
  fewer_at P t zero (b ∷ m) (a ∷ k) F e = (ap (λ (x : ℕ). lies_beyond t (some x)) F.0 ∙ e, ap some F.0, refl)
  fewer_at P t (suc n) (b ∷ m) (a ∷ k) F e = go (forgets_at P (b ∷ m) (a ∷ k) F n)
    where
      go : (get_elem? (a ∷ k) n ≡ get_elem? (b ∷ m) n) ⊎ ((get_elem? (a ∷ k) n ≡ none) × Had P (get_elem? (b ∷ m) n))
          → (settled_by (suc n) t (b ∷ m) ≡ true) × (nth_before 1 (b ∷ m) ≡ nth_before 1 (a ∷ k)) × (nth_before (suc n) (b ∷ m) ≡ nth_before (suc n) (a ∷ k))
      go (inl q) = (ap is_known (sym q) ∙ e, ap some F.0, sym q)
      go (inr q) = never (sym (ap is_known q.0) ∙ e)

  settles_fewer : (P : ℕ → Type 0) (t : ℕ) (m k : Past) → Forgets P m k → settles c t k ≡ true → (settles c t m ≡ true) × (earliest c m ≡ earliest c k)
  unfolding settles
  settles_fewer P t m k F e =
      let q = fewer_at P t (burst c) m k F e in
      (q.0, omega (arith, earliest_is c m, earliest_is c k, ap (ticks_after c.gap) q.1, ap (ticks_after c.window) q.2))

  early_fewer : (P : ℕ → Type 0) (r t : ℕ) (m k : Past) → Forgets P m k → latest_early c r t m ≤ latest_early c r t k
  early_fewer P r t m k F = go (settles c t k) refl
    where
      go : (b : Bool) → settles c t k ≡ b → latest_early c r t m ≤ latest_early c r t k
      go true e = let q = settles_fewer P t m k F e in omega (arith, early_settled r t k e, early_settled r t m q.0, q.1)
      go false e = omega (arith, early_open r t k e, early_le r t m)

  settles_same : burst c ≤ max_remembered → (t : ℕ) (m : List ℕ) (k : Past) → Agrees m k → settles c t k ≡ settles c t m
  unfolding settles
  settles_same few t m k A = go (burst c) few
    where
      go : (n : ℕ) → n ≤ max_remembered → settled_by n t k ≡ settled_by n t m
      go zero l = ap (lies_beyond t) (A 0 (omega arith))
      go (suc n) l = ap is_known (A n (omega arith))

-- ---- the last tick that an eligibility may have, of either setting and either kind

pub forgets_weaker : {P Q : ℕ → Type 0} → ((x : ℕ) → P x → Q x) → (m k : List ℕ) → Forgets P m k → Forgets Q m k
forgets_weaker f m [] F = all_map f m F
forgets_weaker f [] (a ∷ k) F = absurd F
forgets_weaker f (b ∷ m) (a ∷ k) F = (F.0, forgets_weaker f m k F.1)

module _ (c : Connection) where
  tick_later : (a : Option ℕ) (t : ℕ) (h : Past) → last_tick c a t h ≤ last_tick c a (t + 1) h
  tick_later none t h = omega (arith, latest_later c t h)
  tick_later (some r) t h = early_later c r t h

  tick_fewer : c.gap ≤ reach c → (a : Option ℕ) (t : ℕ) (m k : Past) → Forgets (λ x. x ≤ t + margin a) m k → last_tick c a t m ≤ last_tick c a t k
  tick_fewer g none t m k F = omega (arith, latest_fewer c g t m k (forgets_weaker (λ x l. omega arith) m k F))
  tick_fewer g (some r) t m k F = early_fewer c (λ x. x ≤ t + r) r t m k F

  tick_le : (a : Option ℕ) (far t u : ℕ) (h : Past) → c.gap ≤ far → c.window ≤ far → c.allowance ≤ far → t + margin a ≤ u → All (λ e. e ≤ u) h → last_tick c a t h ≤ u + far
  tick_le none far t u h g w d l k = omega (arith, latest_le c far t u h g w d (omega arith) k)
  tick_le (some r) far t u h g w d l k = omega (arith, early_le c r t h)

  -- a row lies no further past the clock than it may go early
  tick_margin : (a : Option ℕ) (t e : ℕ) (h : Past) → (a ≡ none → e ≤ t) → e ≤ last_tick c a t h → e ≤ t + margin a
  tick_margin none t e h f l = omega (arith, f refl)
  tick_margin (some r) t e h f l = omega (arith, early_le c r t h)

-- ---- one step: an eligibility e behind what is remembered

abbrev pub Pace : Connection → Option ℕ → ℕ → Past → ℕ → Type 0
Pace c a t h e = (earliest c h ≤ e) × (e ≤ last_tick c a t h)

abbrev pub Chain : Connection → Option ℕ → ℕ → Past → List ℕ → Type 0
Chain c a t h [] = Unit {0}
Chain c a t h (e ∷ es) = Pace c a t h e × Chain c a t (remember h e) es

-- what is remembered, by what of it has left
pub record KeptPast (c : Connection) (a : Option ℕ) (t : ℕ) (h : Past) (es : List ℕ) : Type 0 where
  pub few : length h ≤ max_remembered
  pub last_rows : remember_all (departed_of h es) es ≡ h
  pub back : Back c (departed_of h es)
  pub gone : All (λ e. e ≤ t + margin a) (departed_of h es)

-- ---- the clauses and the chain are the same

module _ (c : Connection) (few : burst c ≤ max_remembered) (a : Option ℕ) (t : ℕ) where
  module _ (m : List ℕ) (k : Past) (A : Agrees m k) where
    latest_same : latest c t k ≡ latest c t m
    unfolding latest latest_by_gap
    latest_same =
        ap (λ (n : ℕ). cond (stamped c) (t + c.allowance) n) (
        ap (λ (o : Option ℕ). max (ticks_after c.gap o) (far_as (t + reach c) c.window (nth_before (burst c) k))) (same_before c few m k A 1 (omega arith))
        ∙ ap (λ (o : Option ℕ). max (ticks_after c.gap (nth_before 1 m)) (far_as (t + reach c) c.window o)) (same_before c few m k A (burst c) few))

    near_pace : (b : Option ℕ) (e : ℕ) → earliest c m ≤ e → (t < e → Near c b t m e) → Pace c b t k e
    near_pace none e l f = (omega (arith, earliest_same c few m k A), omega (arith, latest_same, not_late (split e t)))
      where
        at : (b : Bool) → stamped c ≡ b → (o : Option ℕ) → nth_before (burst c) m ≡ o → NearBy c t m e b o → e ≤ latest c t m
        at true s o i n = omega (arith, latest_second c t m s)
        at false s none i n = omega (arith, latest_unknown c t m s i)
        at false s (some a) i n = omega (arith, latest_known c t m a s i)

        not_late : (e ≤ t) ⊎ (t < e) → e ≤ max t (latest c t m)
        not_late (inl h) = omega arith
        not_late (inr h) = omega (arith, at (stamped c) refl (nth_before (burst c) m) refl (f h))
    near_pace (some r) e l f = (omega (arith, earliest_same c few m k A), not_late (split e t) (settles c t k) refl)
      where
        not_late : (e ≤ t) ⊎ (t < e) → (b : Bool) → settles c t k ≡ b → e ≤ latest_early c r t k
        not_late (inl h) true i = omega (arith, early_settled c r t k i)
        not_late (inl h) false i = omega (arith, early_open c r t k i)
        not_late (inr h) true i = omega (arith, early_settled c r t k i, (f h).0, (f h).1 (sym (settles_same c few t m k A) ∙ i), earliest_same c few m k A)
        not_late (inr h) false i = omega (arith, early_open c r t k i, (f h).0)

    pace_near : (b : Option ℕ) (e : ℕ) → Pace c b t k e → (earliest c m ≤ e) × (t < e → Near c b t m e)
    pace_near none e p = (low, λ h. at (stamped c) refl (nth_before (burst c) m) refl h)
      where
        low : earliest c m ≤ e
        low = omega (arith, earliest_same c few m k A, p.0)

        at : (b : Bool) → stamped c ≡ b → (o : Option ℕ) → nth_before (burst c) m ≡ o → t < e → NearBy c t m e b o
        at true s o i h = omega (arith, latest_second c t m s, latest_same, p.1)
        at false s none i h = omega (arith, latest_unknown c t m s i, latest_same, p.1)
        at false s (some a) i h = omega (arith, latest_known c t m a s i, latest_same, p.1, low)
    pace_near (some r) e p = (
      omega (arith, earliest_same c few m k A, p.0),
      λ h. (
        omega (arith, p.1, early_le c r t k),
        λ i. omega (arith, p.0, p.1, early_settled c r t k (settles_same c few t m k A ∙ i), earliest_same c few m k A),
      ),
    )

  clauses_chain : (m : List ℕ) (k : Past) → Agrees m k → (es : List ℕ) → SpacedBehind c m es → Beyond c a t m es → Chain c a t k es
  clauses_chain m k A [] s b = tt
  clauses_chain m k A (e ∷ es) s b = (near_pace m k A a e s.0 b.0, clauses_chain (e ∷ m) (remember k e) (agrees_remember m k e A) es s.1 b.1)

  chain_clauses : (m : List ℕ) (k : Past) → Agrees m k → (es : List ℕ) → Chain c a t k es → SpacedBehind c m es × Beyond c a t m es
  chain_clauses m k A [] h = (tt, tt)
  chain_clauses m k A (e ∷ es) h =
      let p = pace_near m k A a e h.0 in
      let q = chain_clauses (e ∷ m) (remember k e) (agrees_remember m k e A) es h.1 in
      ((p.0, q.0), (p.1, q.1))

  module _ (h : Past) (es : List ℕ) where
    pub queue_chain : Queue c a t h es → Chain c a t (departed_of h es) es
    queue_chain q =
        clauses_chain (departed_of h es) (departed_of h es) (λ i l. refl) es ((spaced_in_order c (departed_of h es) es).0 q.rise).1 q.beyond

    pub queue_kept : Queue c a t h es → KeptPast c a t h es
    queue_kept q = record { few = q.few; last_rows = q.last_rows; back = ((spaced_in_order c (departed_of h es) es).0 q.rise).0; gone = q.left_eligible }

    pub queue_of : KeptPast c a t h es → Chain c a t (departed_of h es) es → Queue c a t h es
    queue_of k r =
        let q = chain_clauses (departed_of h es) (departed_of h es) (λ i l. refl) es r in
        record {
          few = k.few;
          last_rows = k.last_rows;
          rise = (spaced_in_order c (departed_of h es) es).1 (k.back, q.0);
          left_eligible = k.gone;
          beyond = q.1;
        }

-- the rows rise
pub queue_rises : (c : Connection) (a : Option ℕ) (t : ℕ) (h : Past) (es : List ℕ) → 1 ≤ c.gap → Queue c a t h es → Pairs (λ a b. a < b) es
queue_rises c a t h es g q = spaced_rises c g es (spaced_of_behind c (departed_of h es) es ((spaced_in_order c (departed_of h es) es).0 q.rise).1)

-- ---- behind any memory that the rows make what is remembered now: the form that the calls keep

pub record Chained (c : Connection) (a : Option ℕ) (t : ℕ) (h : Past) (es : List ℕ) : Type 0 where
  pub old : Past
  pub few : length old ≤ max_remembered
  pub kept : remember_all old es ≡ h
  pub back : Back c old
  pub gone : All (λ e. e ≤ t + margin a) old
  pub chain : Chain c a t old es

pub record Regulated (c : Connection) : Type 0 where
  pub burst_few : burst c ≤ max_remembered
  pub gap_le_reach : c.gap ≤ reach c

pub regulated_of : (l : Link) (c : Connection) → ConnectionFacts l c → Regulated c
regulated_of l c f = record { burst_few = f.burst_le; gap_le_reach = f.gap_le_reach }

module _ (c : Connection) where
  back_fewer : (P : ℕ → Type 0) (m k : List ℕ) → Forgets P m k → Back c m → Back c k
  back_fewer P m [] F b = tt
  back_fewer P [] (a ∷ k) F b = absurd F
  back_fewer P (d ∷ m) (a ∷ k) F b = (omega (arith, earliest_fewer P c m k F.1, b.0, F.0), back_fewer P m k F.1 b.1)

  chain_fewer : c.gap ≤ reach c → (a : Option ℕ) (t : ℕ) (es : List ℕ) (m k : Past) → Forgets (λ x. x ≤ t + margin a) m k → Chain c a t m es → Chain c a t k es
  chain_fewer g a t [] m k F h = tt
  chain_fewer g a t (e ∷ es) m k F h = (
    (omega (arith, earliest_fewer (λ x. x ≤ t + margin a) c m k F, h.0.0), omega (arith, tick_fewer c g a t m k F, h.0.1)),
    chain_fewer g a t es (remember m e) (remember k e) (forgets_remember (λ x. x ≤ t + margin a) m k e F) h.1,
  )

module _ (c : Connection) (R : Regulated c) (a : Option ℕ) (t : ℕ) (h : Past) (es : List ℕ) where
  pub queue_chained : Queue c a t h es → Chained c a t h es
  queue_chained q =
      let k = queue_kept c R.burst_few a t h es q in
      record {
        old = departed_of h es;
        few = omega (arith, length-drop (length es) h, q.few);
        kept = q.last_rows;
        back = k.back;
        gone = k.gone;
        chain = queue_chain c R.burst_few a t h es q;
      }

  pub chained_queue : Chained c a t h es → Queue c a t h es
  chained_queue q = queue_of c R.burst_few a t h es kept (subst (λ (m : Past). Chain c a t m es) (sym here) chain)
    where
      rest : Past
      rest = take (max_remembered - length es) q.old

      here : departed_of h es ≡ take (max_remembered - length es) q.old
      here = ap (drop (length es)) (sym q.kept) ∙ rest_of es q.old q.few

      forgets : Forgets (λ x. x ≤ t + margin a) q.old (take (max_remembered - length es) q.old)
      forgets = take_forgets (λ x. x ≤ t + margin a) (max_remembered - length es) q.old q.gone

      chain : Chain c a t (take (max_remembered - length es) q.old) es
      chain = chain_fewer c R.gap_le_reach a t es q.old (take (max_remembered - length es) q.old) forgets q.chain

      kept : KeptPast c a t h es
      kept = record {
        few = omega (arith, ap length q.kept, remember_all_few es q.old q.few);
        last_rows = ap (λ (m : Past). remember_all m es) here ∙ rest_enough es q.old q.few ∙ q.kept;
        back = subst (Back c) (sym here) (back_fewer c (λ x. x ≤ t + margin a) q.old (take (max_remembered - length es) q.old) forgets q.back);
        gone = subst (All (λ x. x ≤ t + margin a)) (sym here) (all_take (λ x. x ≤ t + margin a) (max_remembered - length es) q.old q.gone);
      }

-- ---- kept by the calls

module _ (c : Connection) (a : Option ℕ) (t : ℕ) where
  -- the clock moves on
  chain_later : (m : Past) (es : List ℕ) → Chain c a t m es → Chain c a (t + 1) m es
  chain_later m [] k = tt
  chain_later m (e ∷ es) k = ((k.0.0, omega (arith, k.0.1, tick_later c a t m)), chain_later (remember m e) es k.1)

  pub chained_later : (h : Past) (es : List ℕ) → Chained c a t h es → Chained c a (t + 1) h es
  chained_later h es q = record {
    old = q.old;
    few = q.few;
    kept = q.kept;
    back = q.back;
    gone = all_map (λ e k. omega arith) q.old q.gone;
    chain = chain_later q.old es q.chain;
  }

  -- the first row leaves
  pub chained_tail : (h : Past) (e : ℕ) (es : List ℕ) → (a ≡ none → e ≤ t) → Chained c a t h (e ∷ es) → Chained c a t h es
  chained_tail h e es l q = record {
    old = remember q.old e;
    few = remember_few q.old e;
    kept = q.kept;
    back = back_fewer c (λ _. Unit {0}) (e ∷ q.old) (remember q.old e) (remember_forgets (λ _. Unit {0}) q.old e (tt, all_every (λ _. tt) q.old)) (q.chain.0.0, q.back);
    gone = all_remember (λ x. x ≤ t + margin a) q.old e q.gone (tick_margin c a t e q.old l q.chain.0.1);
    chain = q.chain.1;
  }

  -- one row more
  chain_snoc : (m : Past) (es : List ℕ) (f : ℕ) → Chain c a t m es → Pace c a t (remember_all m es) f → Chain c a t m (es ++ f ∷ [])
  chain_snoc m [] f k p = (p, tt)
  chain_snoc m (e ∷ es) f k p = (k.0, chain_snoc (remember m e) es f k.1 p)

  -- of the first kind the next eligibility keeps the pace, if it lies no further past the clock than it may
  pub next_paced : (h : Past) → stamped c ≡ false → ((r : ℕ) → a ≡ some r → next_eligibility c h t ≤ t + r) → Pace c a t h (next_eligibility c h t)
  next_paced h s k = (omega (arith, next_is c h t), go a k)
    where
      go : (b : Option ℕ) → ((r : ℕ) → b ≡ some r → next_eligibility c h t ≤ t + r) → next_eligibility c h t ≤ last_tick c b t h
      go none k = omega (arith, next_is c h t, earliest_latest c t h s)
      go (some r) k =
          let l : max t (earliest c h) ≤ t + r = omega (arith, next_is c h t, k r refl) in
          omega (arith, next_is c h t, earliest_early c r t h l)

  pub chained_snoc : (h : Past) (es : List ℕ) (f : ℕ) → Pace c a t h f → Chained c a t h es → Chained c a t (remember h f) (es ++ f ∷ [])
  chained_snoc h es f p q = record {
    old = q.old;
    few = q.few;
    kept = remember_all_snoc q.old es f ∙ ap (λ (m : Past). remember m f) q.kept;
    back = q.back;
    gone = q.gone;
    chain = chain_snoc q.old es f q.chain (subst (λ (m : Past). Pace c a t m f) (sym q.kept) p);
  }

  -- a connection with no packet yet accepted
  pub chained_new : Chained c a t no_past []
  chained_new = record { old = []; few = omega arith; kept = refl; back = tt; gone = tt; chain = tt }

-- ---- how far an eligibility can lie beyond the clock: for each row no further than a gap and a window

module _ (c : Connection) (a : Option ℕ) (far t : ℕ) (gap_le : c.gap ≤ far) (window_le : c.window ≤ far) (allowance_le : c.allowance ≤ far) where
  far_from : (u : ℕ) (m : Past) (es : List ℕ) → t + margin a ≤ u → All (λ e. e ≤ u) m → Chain c a t m es → All (λ e. e ≤ u + length es * far) es
  far_from u m [] l p k = tt
  far_from u m (e ∷ es) l p k =
      let i : e ≤ u + far = omega (arith, k.0.1, tick_le c a far t u m gap_le window_le allowance_le l p) in (
        omega arith,
        all_map (λ f r. omega arith) es
            (far_from (u + far) (remember m e) es (omega arith) (all_remember (λ f. f ≤ u + far) m e (all_map (λ f r. omega arith) m p) i) k.1),
      )

  pub chained_far : (h : Past) (es : List ℕ) → Chained c a t h es
      → All (λ e. e ≤ t + margin a + length es * far) es × All (λ e. e ≤ t + margin a + length es * far) h
  chained_far h es q =
      let k = far_from (t + margin a) q.old es (omega arith) q.gone q.chain in (
        k,
        subst (All (λ e. e ≤ t + margin a + length es * far)) q.kept
            (all_remember_all (λ e. e ≤ t + margin a + length es * far) es q.old (all_map (λ e r. omega arith) q.old q.gone) k),
      )

-- whose packets may go early: no further than they may
module _ (c : Connection) (r t : ℕ) where
  chain_ahead : (m : Past) (es : List ℕ) → Chain c (some r) t m es → All (λ e. e ≤ t + r) es
  chain_ahead m [] k = tt
  chain_ahead m (e ∷ es) k = (omega (arith, k.0.1, early_le c r t m), chain_ahead (remember m e) es k.1)

  pub chained_ahead : (h : Past) (es : List ℕ) → Chained c (some r) t h es → All (λ e. e ≤ t + r) es × All (λ e. e ≤ t + r) h
  chained_ahead h es q =
      let k = chain_ahead q.old es q.chain in
      (k, subst (All (λ e. e ≤ t + r)) q.kept (all_remember_all (λ e. e ≤ t + r) es q.old q.gone k))

-- of the second kind no further than the allowance
module _ (c : Connection) (t : ℕ) (second : stamped c ≡ true) where
  chain_allowed : (m : Past) (es : List ℕ) → Chain c none t m es → All (λ e. e ≤ t + c.allowance) es
  chain_allowed m [] k = tt
  chain_allowed m (e ∷ es) k = (omega (arith, k.0.1, latest_second c t m second), chain_allowed (remember m e) es k.1)

  pub chained_allowed : (h : Past) (es : List ℕ) → Chained c none t h es → All (λ e. e ≤ t + c.allowance) es × All (λ e. e ≤ t + c.allowance) h
  chained_allowed h es q =
      let k = chain_allowed q.old es q.chain in (
        k,
        subst (All (λ e. e ≤ t + c.allowance)) q.kept (all_remember_all (λ e. e ≤ t + c.allowance) es q.old (all_map (λ e r. omega arith) q.old q.gone) k),
      )

module _ (c : Connection) (far t : ℕ) (gap_le : c.gap ≤ far) (window_le : c.window ≤ far) where
  pub next_near : (u : ℕ) (h : Past) → t ≤ u → All (λ e. e ≤ u) h → next_eligibility c h t ≤ u + far
  next_near u h l a = omega (arith, next_is c h t, earliest_by_gap c t h, by_gap_le c far t u h gap_le window_le l a)
