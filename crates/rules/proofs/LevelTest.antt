-- The laws of the level test: it holds exactly where every condition of every level holds, and else names the lowest level that is short and its first excess.
use Prim.Native.Nat.{ℕ, zero, suc, ◌+◌, ◌-◌, ◌≤◌, ◌<◌}
use native.Mathlib.Omega.{arith}
use mathlib.Core.Path.{◌≡◌, refl}
use mathlib.Core.Bool.{Bool, true, false, cond}
use mathlib.Core.Logic.{◌⊎◌, inl, inr, ⊎_elim}
use mathlib.Core.List.{List}
use lib.Dec.{leb, eqb}
use borrow.Author.Tests.{leb-true, leb-false, eqb-true, eqb-false, eq-eqb}
use Rattle.rules.specs.Model.{Link, Connection, Short}
use Rattle.rules.specs.Admission.{conditions, limit_at, level_sum, LevelHolds, excess_from, excess, short_from, level_test, passes}
use Rattle.rules.specs.Promises.{FirstExcess}
use Rattle.rules.proofs.Sums.{same, cond_ind, cond_cases}

module _ (l : Link) (cs : List Connection) where
  -- ---- one level

  module _ (m : ℕ) where
    abbrev Holds : ℕ → Type 0
    Holds i = level_sum l cs m i ≤ limit_at l m i

    none_over : (i n : ℕ) → excess_from l cs m i n ≡ 0 → (j : ℕ) → i ≤ j → j < i + n → Holds j
    none_over i zero e j low high = absurd (omega arith)
    none_over i (suc n) e j low high = go (cond_cases (λ (x : ℕ). x ≡ 0) _ e) (same i j) (none_over (suc i) n)
      where
        go : ((leb (level_sum l cs m i) (limit_at l m i) ≡ true) × (excess_from l cs m (suc i) n ≡ 0))
            ⊎ ((leb (level_sum l cs m i) (limit_at l m i) ≡ false) × (level_sum l cs m i - limit_at l m i ≡ 0))
            → (i ≡ j) ⊎ (i ≡ j → ⊥)
            → (excess_from l cs m (suc i) n ≡ 0 → (j : ℕ) → suc i ≤ j → j < suc i + n → Holds j)
            → Holds j
        go (inr z) r ih = absurd (omega (arith, leb-false (level_sum l cs m i) (limit_at l m i) z.0, z.1))
        go (inl z) (inl k) ih = rw (← k) (leb-true (level_sum l cs m i) (limit_at l m i) z.0)
        go (inl z) (inr k) ih = ih z.1 j (omega (arith, k)) (omega arith)

    pub all_hold : (i n : ℕ) → ((j : ℕ) → i ≤ j → j < i + n → Holds j) → excess_from l cs m i n ≡ 0
    all_hold i zero h = refl
    all_hold i (suc n) h =
        cond_ind (λ (x : ℕ). x ≡ 0) (leb (level_sum l cs m i) (limit_at l m i))
        (λ _. all_hold (suc i) n (λ j low high. h j (omega arith) (omega arith)))
        (λ z. absurd (omega (arith, h i (omega arith) (omega arith), leb-false (level_sum l cs m i) (limit_at l m i) z)))

    -- the first of the conditions from `low` on, below `high`, that fails
    record FirstOver (low high u : ℕ) : Type 0 where
      which : ℕ
      no_lower : low ≤ which
      below : which < high
      over : limit_at l m which < level_sum l cs m which
      before : (i : ℕ) → low ≤ i → i < which → Holds i
      by : u ≡ level_sum l cs m which - limit_at l m which

    first_over : (i n : ℕ) → (excess_from l cs m i n ≡ 0 → ⊥) → FirstOver i (i + n) (excess_from l cs m i n)
    first_over i zero k = absurd (k refl)
    first_over i (suc n) k = go (leb (level_sum l cs m i) (limit_at l m i)) refl k (first_over (suc i) n)
      where
        go : (b : Bool) → leb (level_sum l cs m i) (limit_at l m i) ≡ b
            → (cond b (excess_from l cs m (suc i) n) (level_sum l cs m i - limit_at l m i) ≡ 0 → ⊥)
            → ((excess_from l cs m (suc i) n ≡ 0 → ⊥) → FirstOver (suc i) (suc i + n) (excess_from l cs m (suc i) n))
            → FirstOver i (i + suc n) (cond b (excess_from l cs m (suc i) n) (level_sum l cs m i - limit_at l m i))
        go true e k ih =
            let r = ih k in
            record {
              which = r.which;
              no_lower = omega (arith, r.no_lower);
              below = omega (arith, r.below);
              over = r.over;
              before = λ j low high. ⊎_elim (λ q. rw (← q) (leb-true (level_sum l cs m i) (limit_at l m i) e)) (λ q. r.before j (omega (arith, q)) high) (same i j);
              by = r.by;
            }
        go false e k ih = record {
          which = i;
          no_lower = omega arith;
          below = omega arith;
          over = leb-false (level_sum l cs m i) (limit_at l m i) e;
          before = λ j low high. absurd (omega arith);
          by = refl;
        }

    pub excess_holds : excess l cs m ≡ 0 → LevelHolds l cs m
    unfolding excess
    excess_holds e i k = none_over 0 (conditions l m) e i (omega arith) (omega arith)

    pub holds_excess : LevelHolds l cs m → excess l cs m ≡ 0
    unfolding excess
    holds_excess h = all_hold 0 (conditions l m) (λ i low high. h i (omega arith))

    pub excess_first : (excess l cs m ≡ 0 → ⊥) → FirstExcess l cs m (excess l cs m)
    unfolding excess
    excess_first k =
        let r = first_over 0 (conditions l m) k in
        record { which = r.which; is_condition = omega (arith, r.below); fails = r.over; earlier_hold = λ i j. r.before i (omega arith) j; units_are = r.by }

  -- ---- all levels

  none_short : (m k : ℕ) → 1 ≤ m → (short_from l cs m k).level ≡ 0 → (j : ℕ) → m ≤ j → j < m + k → excess l cs j ≡ 0
  none_short m zero pos e j low high = absurd (omega arith)
  none_short m (suc k) pos e j low high = go (cond_cases (λ (x : Short). x.level ≡ 0) _ e) (same m j) (none_short (suc m) k (omega arith))
    where
      go : ((eqb (excess l cs m) 0 ≡ true) × ((short_from l cs (suc m) k).level ≡ 0)) ⊎ ((eqb (excess l cs m) 0 ≡ false) × (m ≡ 0))
          → (m ≡ j) ⊎ (m ≡ j → ⊥)
          → ((short_from l cs (suc m) k).level ≡ 0 → (j : ℕ) → suc m ≤ j → j < suc m + k → excess l cs j ≡ 0)
          → excess l cs j ≡ 0
      go (inr z) r ih = absurd (omega (arith, z.1))
      go (inl z) (inl i) ih = rw (← i) (eqb-true (excess l cs m) 0 z.0)
      go (inl z) (inr i) ih = ih z.1 j (omega (arith, i)) (omega arith)

  all_low : (m k : ℕ) → ((j : ℕ) → m ≤ j → j < m + k → excess l cs j ≡ 0) → (short_from l cs m k).level ≡ 0
  all_low m zero h = refl
  all_low m (suc k) h =
      cond_ind (λ (x : Short). x.level ≡ 0) (eqb (excess l cs m) 0)
      (λ _. all_low (suc m) k (λ j low high. h j (omega arith) (omega arith)))
      (λ z. absurd (eqb-false (excess l cs m) 0 z (h m (omega arith) (omega arith))))

  -- it holds: every condition of each level holds
  pub test_holds : passes l cs ≡ true → (m : ℕ) → 1 ≤ m → m ≤ l.levels → LevelHolds l cs m
  unfolding level_test
  test_holds e m low high = excess_holds m (none_short 1 l.levels (omega arith) (eqb-true (short_from l cs 1 l.levels).level 0 e) m low (omega arith))

  -- and only so
  pub holds_test : ((m : ℕ) → 1 ≤ m → m ≤ l.levels → LevelHolds l cs m) → passes l cs ≡ true
  unfolding level_test
  holds_test h = eq-eqb (short_from l cs 1 l.levels).level 0 (all_low 1 l.levels (λ j low high. holds_excess j (h j low (omega arith))))

  -- m is the lowest short level among those from `low` on, below `high`
  abbrev pub LowestShort : ℕ → ℕ → ℕ → Type 0
  LowestShort low high m = (low ≤ m) × (m < high) × (excess l cs m ≡ 0 → ⊥) × ((j : ℕ) → low ≤ j → j < m → excess l cs j ≡ 0)

  first_short : (m k : ℕ) → ((short_from l cs m k).level ≡ 0 → ⊥) → LowestShort m (m + k) (short_from l cs m k).level
  first_short m zero n = absurd (n refl)
  first_short m (suc k) n = go (eqb (excess l cs m) 0) refl n (first_short (suc m) k)
    where
      go : (b : Bool) → eqb (excess l cs m) 0 ≡ b
          → ((cond b (short_from l cs (suc m) k) (record { level = m; units = excess l cs m })).level ≡ 0 → ⊥)
          → (((short_from l cs (suc m) k).level ≡ 0 → ⊥) → LowestShort (suc m) (suc m + k) (short_from l cs (suc m) k).level)
          → LowestShort m (m + suc k) (cond b (short_from l cs (suc m) k) (record { level = m; units = excess l cs m })).level
      go true e n ih =
          let r = ih n in (
            omega (arith, r.0),
            omega (arith, r.1),
            r.2,
            λ j low high.
                ⊎_elim (λ i. rw (← i) (eqb-true (excess l cs m) 0 e)) (λ i. r.3 j (omega (arith, i)) high) (same m j),
          )
      go false e n ih = (omega arith, omega arith, eqb-false (excess l cs m) 0 e, λ j low high. absurd (omega arith))

  -- it does not hold: the level that it names is short, and every lower one holds
  pub names_lowest : ((level_test l cs).level ≡ 0 → ⊥) → LowestShort 1 (l.levels + 1) (level_test l cs).level
  unfolding level_test
  names_lowest n = let k = first_short 1 l.levels n in (k.0, omega (arith, k.1), k.2, k.3)
