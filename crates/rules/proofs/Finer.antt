-- The finer test: which of its conditions never decide, that the quick test is exact, and that with windows equal to the bounds, and without windows, it is document 01's
-- test. Of the count only `count_rises` is used.
use Prim.Native.Nat.{ℕ, zero, suc, ◌+◌, ◌*◌, ◌-◌, ◌≤◌, ◌<◌, min}
use native.Mathlib.Omega.{arith}
use native.Mathlib.Nat.{mul-le-mul_right}
use mathlib.Core.Path.{◌≡◌, refl, sym, ap, ◌∙◌}
use mathlib.Core.Bool.{Bool, true, false, cond, ◌&&◌, true≢false}
use mathlib.Core.Logic.{◌⊎◌, inl, inr, ◌↔◌, ⊎_elim}
use mathlib.Core.List.{List}
use lib.Dec.{leb, ltb, eqb}
use lib.ListN.{length, get_or}
use borrow.Author.Tests.{leb-true, leb-false, le-leb, lt-leb, eq-eqb, ne_eqb}
use Rattle.rules.specs.Words.{within, upto}
use Rattle.rules.specs.Limits.{max_levels, max_largest, max_silence}
use Rattle.rules.specs.Model.{Link, Connection, no_windows, nth}
use Rattle.rules.specs.Admission.{rising, windowed, windows_from, windows_within, link_within, bound, window, largest_bound, charge_time, cost, count, load_by, conditions, span, limit_at, level_sum, LevelHolds, excess_from, excess, short_from, level_test}
use Rattle.rules.specs.QuickTest.{descend, quick_holds, quick_excess, quick_from, quick_test}
use Rattle.rules.specs.WithoutWindows.{bounds_link_within, bounds_sum, bounds_from, bounds_test}
use Rattle.rules.specs.Promises.{b_over, unwindowed, AcceptsAt}
use Rattle.rules.specs.Before.{AsWithoutWindows}
use Rattle.rules.proofs.Sums.{split, same, cond_is, cond_ind, sum_le, sum_eq, sum_add, upto_yes, upto_no, upto_mono}
use Rattle.rules.proofs.Tests.{and_true, and_intro}
use Rattle.rules.proofs.Count.{count_rises}
use Rattle.rules.proofs.Figures.{window_none, conditions_none, conditions_own, some_condition, sum_is, bounds_sum_is}
use Rattle.rules.proofs.LevelTest.{all_hold, holds_excess}

-- longer windows, no smaller sum
pub load_mono : (l : Link) (cs : List Connection) (m : ℕ) {w w' : ℕ → ℕ} → ((v : ℕ) → w v ≤ w' v) → load_by l cs m w ≤ load_by l cs m w'
load_mono l cs m {w} {w'} h =
    sum_le (length cs)
    (λ c i. upto_mono (nth cs c).level m (λ _. mul-le-mul_right (cost l (nth cs c).size) (count_rises (nth cs c) (h (nth cs c).level))))

-- b of a connection within w ticks
abbrev b_of : Link → Connection → ℕ → ℕ
b_of l x w = count x w * cost l x.size

module _ (l : Link) (cs : List Connection) (m : ℕ) where
  abbrev Holds : ℕ → Type 0
  Holds i = level_sum l cs m i ≤ limit_at l m i

  sum_mono : (i j : ℕ) → ((v : ℕ) → span l m i v ≤ span l m j v) → level_sum l cs m i ≤ level_sum l cs m j
  sum_mono i j h = omega (arith, sum_is l cs m i, sum_is l cs m j, load_mono l cs m {w = span l m i} {w' = span l m j} h)

  -- the sums rise with β
  beta_mono : (β γ : ℕ) → β ≤ γ → level_sum l cs m (suc β) ≤ level_sum l cs m (suc γ)
  beta_mono β γ h = sum_mono (suc β) (suc γ) (λ v. go v (same v m))
    where
      go : (v : ℕ) → (v ≡ m) ⊎ (v ≡ m → ⊥) → span l m (suc β) v ≤ span l m (suc γ) v
      go v (inl i) = omega (arith, cond_is (suc β) (min (bound l m + β) (window l m)) (eq-eqb v m i), cond_is (suc γ) (min (bound l m + γ) (window l m)) (eq-eqb v m i))
      go v (inr i) = omega (arith, cond_is (suc β) (min (bound l m + β) (window l m)) (ne_eqb v m i), cond_is (suc γ) (min (bound l m + γ) (window l m)) (ne_eqb v m i))

  -- ---- the β from w - d on never decide

  late_holds : (β : ℕ) → β < window l m → window l m ≤ bound l m + β → Holds 0 → Holds (suc β)
  late_holds β small late h = omega (arith, sum_mono (suc β) 0 (λ v. cond_ind (λ (n : ℕ). n ≤ window l m) (eqb v m) (λ _. omega arith) (λ _. omega arith)))

  -- conditions that hold where all before them do may be left out
  cut : (i n t : ℕ) → n ≤ t → (((j : ℕ) → i ≤ j → j < i + n → Holds j) → (j : ℕ) → i + n ≤ j → j < i + t → Holds j)
      → excess_from l cs m i t ≡ excess_from l cs m i n
  cut i zero t le h = all_hold l cs m i t (λ j low high. h (λ k a b. absurd (omega arith)) j (omega arith) high)
  cut i (suc n) zero le h = absurd (omega arith)
  cut i (suc n) (suc t) le h = go (leb (level_sum l cs m i) (limit_at l m i)) refl (cut (suc i) n t (omega arith))
    where
      go : (b : Bool) → leb (level_sum l cs m i) (limit_at l m i) ≡ b
          → ((((j : ℕ) → suc i ≤ j → j < suc i + n → Holds j) → (j : ℕ) → suc i + n ≤ j → j < suc i + t → Holds j)
          → excess_from l cs m (suc i) t ≡ excess_from l cs m (suc i) n)
          → cond b (excess_from l cs m (suc i) t) (level_sum l cs m i - limit_at l m i) ≡ cond b (excess_from l cs m (suc i) n) (level_sum l cs m i - limit_at l m i)
      go false e ih = refl
      go true e ih =
          ih (λ f j low high.
          h (λ k a b. ⊎_elim (λ q. rw (← q) (leb-true (level_sum l cs m i) (limit_at l m i) e)) (λ q. f k (omega (arith, q)) (omega arith)) (same i k))
          j (omega arith) (omega arith))

  -- w - d conditions besides the first are enough, and none besides it where w is d
  pub late_left_out : excess l cs m ≡ excess_from l cs m 0 (suc (window l m - bound l m))
  unfolding excess
  late_left_out = go (windowed l) refl
    where
      go : (b : Bool) → windowed l ≡ b → excess_from l cs m 0 (conditions l m) ≡ excess_from l cs m 0 (suc (window l m - bound l m))
      go false e =
          let none : suc (window l m - bound l m) ≡ 1 = omega (arith, window_none l e m) in
          ap (excess_from l cs m 0) (conditions_none l e m ∙ sym none)
      go true e =
          ap (excess_from l cs m 0) (conditions_own l e m)
          ∙ cut 0 (suc (window l m - bound l m)) (suc (window l m)) (omega arith) late
        where
          late : ((j : ℕ) → 0 ≤ j → j < 0 + suc (window l m - bound l m) → Holds j) → (j : ℕ) → 0 + suc (window l m - bound l m) ≤ j → j < 0 + suc (window l m) → Holds j
          late f zero low high = absurd (omega arith)
          late f (suc β) low high = late_holds β (omega arith) (omega arith) (f 0 (omega arith) (omega arith))

  -- ---- a quick exact test: from the last β down, in leaps

  -- what holds at β holds at each γ before it that the sum at β reaches
  leap : (β γ : ℕ) → γ ≤ β → level_sum l cs m (suc β) ≤ bound l m + γ → Holds (suc γ)
  leap β γ h k = omega (arith, beta_mono γ β h)

  descend_true : (fuel n : ℕ) → n ≤ fuel → descend l cs m fuel n ≡ true → (γ : ℕ) → γ < n → Holds (suc γ)
  descend_true zero n le e γ h = absurd (omega arith)
  descend_true (suc fuel) zero le e γ h = absurd (omega arith)
  descend_true (suc fuel) (suc β) le e γ h =
      let k = and_true (leb (level_sum l cs m (suc β)) (bound l m + β)) _ e in
      let holds : level_sum l cs m (suc β) ≤ bound l m + β = leb-true _ _ k.0 in
      ⊎_elim
      (λ i. leap β γ (omega arith) (omega arith))
      (λ i. descend_true fuel (level_sum l cs m (suc β) - bound l m) (omega arith) k.1 γ i)
      (split (level_sum l cs m (suc β) - bound l m) γ)

  descend_intro : (fuel n : ℕ) → n ≤ fuel → ((γ : ℕ) → γ < n → Holds (suc γ)) → descend l cs m fuel n ≡ true
  descend_intro zero n le h = refl
  descend_intro (suc fuel) zero le h = refl
  descend_intro (suc fuel) (suc β) le h =
      and_intro (leb (level_sum l cs m (suc β)) (bound l m + β)) _ (le-leb _ _ (h β (omega arith)))
      (descend_intro fuel (level_sum l cs m (suc β) - bound l m) (omega (arith, h β (omega arith))) (λ γ i. h γ (omega (arith, h β (omega arith)))))

  -- the fuel does not matter, if it is enough
  fuel_enough : (f g n : ℕ) → n ≤ f → n ≤ g → descend l cs m f n ≡ descend l cs m g n
  fuel_enough zero zero n h k = refl
  fuel_enough zero (suc g) zero h k = refl
  fuel_enough zero (suc g) (suc β) h k = absurd (omega arith)
  fuel_enough (suc f) zero zero h k = refl
  fuel_enough (suc f) zero (suc β) h k = absurd (omega arith)
  fuel_enough (suc f) (suc g) zero h k = refl
  fuel_enough (suc f) (suc g) (suc β) h k = go (leb (level_sum l cs m (suc β)) (bound l m + β)) refl (fuel_enough f g (level_sum l cs m (suc β) - bound l m))
    where
      go : (b : Bool) → leb (level_sum l cs m (suc β)) (bound l m + β) ≡ b
          → (level_sum l cs m (suc β) - bound l m ≤ f → level_sum l cs m (suc β) - bound l m ≤ g
          → descend l cs m f (level_sum l cs m (suc β) - bound l m) ≡ descend l cs m g (level_sum l cs m (suc β) - bound l m))
          → (b && descend l cs m f (level_sum l cs m (suc β) - bound l m)) ≡ (b && descend l cs m g (level_sum l cs m (suc β) - bound l m))
      go false e ih = refl
      go true e ih = ih (omega (arith, leb-true (level_sum l cs m (suc β)) (bound l m + β) e)) (omega (arith, leb-true (level_sum l cs m (suc β)) (bound l m + β) e))

  -- so a loop has n for both: it stops where the last β fails, and goes on with sum - d where it holds
  pub descend_stops : (β : ℕ) → bound l m + β < level_sum l cs m (suc β) → descend l cs m (suc β) (suc β) ≡ false
  descend_stops β h =
      ap (λ (b : Bool). b && descend l cs m β (level_sum l cs m (suc β) - bound l m)) (lt-leb (level_sum l cs m (suc β)) (bound l m + β) h)

  pub descend_goes_on : (β : ℕ) → level_sum l cs m (suc β) ≤ bound l m + β
      → descend l cs m (suc β) (suc β) ≡ descend l cs m (level_sum l cs m (suc β) - bound l m) (level_sum l cs m (suc β) - bound l m)
  descend_goes_on β h =
      ap (λ (b : Bool). b && descend l cs m β (level_sum l cs m (suc β) - bound l m)) (le-leb (level_sum l cs m (suc β)) (bound l m + β) h)
      ∙ fuel_enough β (level_sum l cs m (suc β) - bound l m) (level_sum l cs m (suc β) - bound l m) (omega arith) (omega arith)

  pub quick_exact : quick_holds l cs m ≡ true ↔ LevelHolds l cs m
  unfolding quick_holds
  quick_exact = (to, from)
    where
      left : ℕ
      left = window l m - bound l m

      to : quick_holds l cs m ≡ true → LevelHolds l cs m
      to e =
          let k = and_true (leb (level_sum l cs m 0) (window l m)) (descend l cs m left left) e in
          all (leb-true _ _ k.0) (descend_true left left (omega arith) k.1)
        where
          all : Holds 0 → ((γ : ℕ) → γ < left → Holds (suc γ)) → LevelHolds l cs m
          all h f zero i = h
          all h f (suc β) i = ⊎_elim (λ j. f β j) (λ j. late_holds β (few (windowed l) refl) (omega arith) h) (split (suc β) left)
            where
              few : (b : Bool) → windowed l ≡ b → β < window l m
              few true e = omega (arith, conditions_own l e m)
              few false e = absurd (omega (arith, conditions_none l e m))

      from : LevelHolds l cs m → quick_holds l cs m ≡ true
      from h =
          and_intro (leb (level_sum l cs m 0) (window l m)) (descend l cs m left left) (le-leb _ _ (h 0 (some_condition l m)))
          (descend_intro left left (omega arith) (λ γ i. h (suc γ) (asked γ i (windowed l) refl)))
        where
          asked : (γ : ℕ) → γ < left → (b : Bool) → windowed l ≡ b → suc γ < conditions l m
          asked γ i true e = omega (arith, conditions_own l e m)
          asked γ i false e = absurd (omega (arith, window_none l e m))

  pub quick_excess_exact : quick_excess l cs m ≡ excess l cs m
  unfolding quick_excess
  quick_excess_exact =
      cond_ind (λ (n : ℕ). n ≡ excess l cs m) (quick_holds l cs m) (λ e. sym (holds_excess l cs m (quick_exact.0 e))) (λ _. sym late_left_out)

  -- ---- upward: conditions whose sums do not rise

  skip : (i k n : ℕ) → ((j : ℕ) → i ≤ j → j < i + k → Holds j) → excess_from l cs m i (k + n) ≡ excess_from l cs m (i + k) n
  skip i zero n h =
      let a : 0 + n ≡ n = omega arith in
      let b : i ≡ i + 0 = omega arith in
      ap (excess_from l cs m i) a ∙ ap (λ (j : ℕ). excess_from l cs m j n) b
  skip i (suc k) n h =
      let a : suc k + n ≡ suc (k + n) = omega arith in
      let b : suc i + k ≡ i + suc k = omega arith in
      ap (excess_from l cs m i) a
      ∙ cond_is (excess_from l cs m (suc i) (k + n)) (level_sum l cs m i - limit_at l m i) (le-leb (level_sum l cs m i) (limit_at l m i) (h i (omega arith) (omega arith)))
      ∙ skip (suc i) k n (λ j low high. h j (omega arith) (omega arith))
      ∙ ap (λ (j : ℕ). excess_from l cs m j n) b

  pub flat_left_out : (β k n : ℕ) → ((j : ℕ) → j ≤ k → level_sum l cs m (suc (β + j)) ≡ level_sum l cs m (suc β)) → Holds (suc β)
      → excess_from l cs m (suc β) (suc k + n) ≡ excess_from l cs m (suc (β + suc k)) n
  flat_left_out β k n flat h =
      let b : suc β + suc k ≡ suc (β + suc k) = omega arith in
      skip (suc β) (suc k) n holds ∙ ap (λ (j : ℕ). excess_from l cs m j n) b
    where
      holds : (j : ℕ) → suc β ≤ j → j < suc β + suc k → Holds j
      holds zero low high = absurd (omega arith)
      holds (suc γ) low high =
          let r : β + (γ - β) ≡ γ = omega arith in
          omega (arith, flat (γ - β) (omega arith), ap (λ (x : ℕ). level_sum l cs m (suc x)) r)

  -- the first that fails gives the excess
  pub first_over : (β : ℕ) → β < window l m - bound l m → Holds 0 → descend l cs m β β ≡ true → descend l cs m (suc β) (suc β) ≡ false
      → excess l cs m ≡ level_sum l cs m (suc β) - (bound l m + β)
  first_over β h first up down =
      let n : ℕ = window l m - bound l m - suc β in
      let a : suc (window l m - bound l m) ≡ suc β + suc n = omega arith in
      let b : 0 + suc β ≡ suc β = omega arith in
      late_left_out ∙ ap (excess_from l cs m 0) a ∙ skip 0 (suc β) (suc n) before ∙ ap (λ (j : ℕ). excess_from l cs m j (suc n)) b
      ∙ cond_is (excess_from l cs m (suc (suc β)) n) (level_sum l cs m (suc β) - (bound l m + β)) (lt-leb (level_sum l cs m (suc β)) (bound l m + β) fails)
    where
      before : (j : ℕ) → 0 ≤ j → j < 0 + suc β → Holds j
      before zero low high = first
      before (suc γ) low high = descend_true β β (omega arith) up γ (omega arith)

      fails : bound l m + β < level_sum l cs m (suc β)
      fails =
          ⊎_elim
          (λ i. absurd (true≢false (sym (descend_intro (suc β) (suc β) (omega arith) (λ γ k. upward γ k i)) ∙ down)))
          (λ i. i)
          (split (level_sum l cs m (suc β)) (bound l m + β))
        where
          upward : (γ : ℕ) → γ < suc β → level_sum l cs m (suc β) ≤ bound l m + β → Holds (suc γ)
          upward γ k i = ⊎_elim (λ q. rw q i) (λ q. descend_true β β (omega arith) up γ (omega (arith, q))) (same γ β)

  -- ---- where w is d

  bounds_excess : window l m ≡ bound l m → excess l cs m ≡ cond (leb (bounds_sum l cs m) (bound l m)) 0 (bounds_sum l cs m - bound l m)
  bounds_excess e =
      let none : suc (window l m - bound l m) ≡ 1 = omega arith in
      late_left_out ∙ ap (excess_from l cs m 0) none ∙ ap (λ (n : ℕ). cond (leb (level_sum l cs m 0) n) 0 (level_sum l cs m 0 - n)) e
      ∙ ap (λ (n : ℕ). cond (leb n (bound l m)) 0 (n - bound l m)) same_sum
    where
      same_sum : level_sum l cs m 0 ≡ bounds_sum l cs m
      same_sum = sum_is l cs m 0 ∙ ap (λ (d : ℕ). load_by l cs m (λ _. d) + cost l l.largest) e ∙ sym (bounds_sum_is l cs m)

-- ---- the conditions of a link with windows, sum by sum

module _ (l : Link) (cs : List Connection) (m : ℕ) where
  -- a number that depends on whether v is m, where v is at most m: that of m, or that of v before m
  apart : (v a b : ℕ) (f : ℕ → ℕ) → upto v m (f (cond (eqb v m) a b)) ≡ cond (eqb v m) (f a) 0 + upto (suc v) m (f b)
  apart v a b f = go (same v m) (split v m)
    where
      go : (v ≡ m) ⊎ (v ≡ m → ⊥) → (v ≤ m) ⊎ (m < v) → upto v m (f (cond (eqb v m) a b)) ≡ cond (eqb v m) (f a) 0 + upto (suc v) m (f b)
      go (inl i) j =
          let e = eq-eqb v m i in
          omega (arith, upto_yes v m (f (cond (eqb v m) a b)) (omega arith), ap f (cond_is a b e), cond_is (f a) 0 e, upto_no (suc v) m (f b) (omega arith))
      go (inr i) (inl j) =
          let e = ne_eqb v m i in
          omega (arith, upto_yes v m (f (cond (eqb v m) a b)) j, ap f (cond_is a b e), cond_is (f a) 0 e, upto_yes (suc v) m (f b) (omega (arith, i)))
      go (inr i) (inr j) =
          let e = ne_eqb v m i in
          omega (arith, upto_no v m (f (cond (eqb v m) a b)) j, cond_is (f a) 0 e, upto_no (suc v) m (f b) (omega arith))

  beta_sum : (β : ℕ) → level_sum l cs m (suc β) ≡ cost l l.largest + b_over l cs (λ v. eqb v m) (suc β) + b_over l cs (λ v. ltb v m) (min (bound l m + β) (window l m))
  unfolding upto
  beta_sum β =
      omega (
        arith,
        sum_is l cs m (suc β),
        sum_eq (length cs)
            {f = λ c. upto (nth cs c).level m (b_of l (nth cs c) (span l m (suc β) (nth cs c).level))}
            {g = λ c. cond (eqb (nth cs c).level m) (b_of l (nth cs c) (suc β)) 0 + upto (suc (nth cs c).level) m (b_of l (nth cs c) (min (bound l m + β) (window l m)))}
            (λ c _. apart (nth cs c).level (suc β) (min (bound l m + β) (window l m)) (b_of l (nth cs c))),
        sum_add (length cs)
            (λ c. cond (eqb (nth cs c).level m) (b_of l (nth cs c) (suc β)) 0)
            (λ c. upto (suc (nth cs c).level) m (b_of l (nth cs c) (min (bound l m + β) (window l m)))),
      )

  pub finer_says : windowed l ≡ true → LevelHolds l cs m ↔ AcceptsAt l cs m
  unfolding upto
  finer_says e = (to, from)
    where
      to : LevelHolds l cs m → AcceptsAt l cs m
      to h = record {
        within_w = omega (arith, h 0 (some_condition l m), sum_is l cs m 0);
        for_every_β = λ β k. omega (arith, h (suc β) (omega (arith, conditions_own l e m)), beta_sum β);
      }

      from : AcceptsAt l cs m → LevelHolds l cs m
      from h zero k = omega (arith, h.within_w, sum_is l cs m 0)
      from h (suc β) k = omega (arith, h.for_every_β β (omega (arith, conditions_own l e m)), beta_sum β)

module _ (l : Link) (cs : List Connection) where
  quick_shorts : (m k : ℕ) → quick_from l cs m k ≡ short_from l cs m k
  quick_shorts m zero = refl
  quick_shorts m (suc k) = rw (quick_excess_exact l cs m, quick_shorts (suc m) k) refl

  pub quick_test_exact : quick_test l cs ≡ level_test l cs
  unfolding quick_test level_test
  quick_test_exact = quick_shorts 1 l.levels

  bounds_shorts : (m k : ℕ) → ((j : ℕ) → m ≤ j → j < m + k → window l j ≡ bound l j) → short_from l cs m k ≡ bounds_from l cs m k
  bounds_shorts m zero h = refl
  bounds_shorts m (suc k) h =
      go (leb (bounds_sum l cs m) (bound l m)) refl (bounds_excess l cs m (h m (omega arith) (omega arith))) (bounds_shorts (suc m) k (λ j low high. h j (omega arith) (omega arith)))
    where
      go : (b : Bool) → leb (bounds_sum l cs m) (bound l m) ≡ b
          → excess l cs m ≡ cond (leb (bounds_sum l cs m) (bound l m)) 0 (bounds_sum l cs m - bound l m)
          → short_from l cs (suc m) k ≡ bounds_from l cs (suc m) k
          → cond (eqb (excess l cs m) 0) (short_from l cs (suc m) k) (record { level = m; units = excess l cs m })
          ≡ cond b (bounds_from l cs (suc m) k) (record { level = m; units = bounds_sum l cs m - bound l m })
      go true i e ih =
          let z : excess l cs m ≡ 0 = e ∙ cond_is 0 (bounds_sum l cs m - bound l m) i in
          cond_is (short_from l cs (suc m) k) (record { level = m; units = excess l cs m }) (eq-eqb (excess l cs m) 0 z) ∙ ih
      go false i e ih =
          let z : excess l cs m ≡ bounds_sum l cs m - bound l m = e ∙ cond_is 0 (bounds_sum l cs m - bound l m) i in
          cond_is (short_from l cs (suc m) k) (record { level = m; units = excess l cs m })
          (ne_eqb (excess l cs m) 0 (λ q. omega (arith, leb-false (bounds_sum l cs m) (bound l m) i)))
          ∙ ap (λ (u : ℕ). record { level = m; units = u }) z

  pub bounds_where_equal : ((m : ℕ) → 1 ≤ m → m ≤ l.levels → window l m ≡ bound l m) → level_test l cs ≡ bounds_test l cs
  unfolding level_test bounds_test
  bounds_where_equal h = bounds_shorts 1 l.levels (λ j low high. h j low (omega arith))

  -- it does not look at the windows
  bounds_alike : (m k : ℕ) → bounds_from l cs (suc m) k ≡ bounds_from (unwindowed l) cs (suc m) k
  unfolding bounds_sum cost
  bounds_alike m zero = refl
  bounds_alike m (suc k) = rw (bounds_alike (suc m) k) refl

-- ---- on a link without windows

module _ (l : Link) (e : windowed l ≡ false) where
  bounds_is : (cs : List Connection) (m : ℕ) → level_sum l cs m 0 ≡ bounds_sum l cs m
  bounds_is cs m = sum_is l cs m 0 ∙ ap (λ (d : ℕ). load_by l cs m (λ _. d) + cost l l.largest) (window_none l e m) ∙ sym (bounds_sum_is l cs m)

  charge_none : charge_time l ≡ largest_bound l
  unfolding charge_time
  charge_none = cond_ind (λ (n : ℕ). n ≡ largest_bound l) (windowed l) (λ i. absurd (true≢false (sym i ∙ e))) (λ _. refl)

  pub as_without : AsWithoutWindows l
  as_without = record {
    one_condition = conditions_none l e;
    sum_is = bounds_is;
    limit_is = window_none l e;
    test_is = λ cs. bounds_where_equal l cs (λ m _ _. window_none l e m);
    charge_is = charge_none;
  }

both_true : (b : Bool) → (b && true) ≡ b
both_true true = refl
both_true false = refl

-- windows that are all 0 are none, and ask for nothing
pub no_windows_asked : (l : Link) → l.windows ≡ no_windows → (windowed l ≡ false) × (link_within l ≡ bounds_link_within l)
unfolding windowed windows_within link_within
no_windows_asked l e =
    let none : windowed l ≡ false = ap (λ (ws : List ℕ). ltb 0 (get_or ws 0 0)) e in
    let asks : windows_within l ≡ true = ap (λ (ws : List ℕ). windows_from (cond (ltb 0 (get_or ws 0 0)) l.levels 0) l.bounds ws) e in
    (none, rw asks (ap (λ (b : Bool). within 1 max_levels l.levels && (within 1 max_largest l.largest && (leb l.silence max_silence && (leb l.early 1 && b)))) (both_true (rising (cost l l.largest) l.levels l.bounds))))

-- where every window is its level's bound the test is that of the link without windows
pub bounds_as_unwindowed : (l : Link) (cs : List Connection) → ((m : ℕ) → 1 ≤ m → m ≤ l.levels → window l m ≡ bound l m) → level_test l cs ≡ level_test (unwindowed l) cs
unfolding bounds_test
bounds_as_unwindowed l cs h = bounds_where_equal l cs h ∙ bounds_alike l cs 0 l.levels ∙ sym ((as_without (unwindowed l) (no_windows_asked (unwindowed l) refl).0).test_is cs)
