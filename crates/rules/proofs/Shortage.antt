-- Which level was short, and by how many units: what the level test tells, and how much a newcomer can add.
use Prim.Native.Nat.{ℕ, zero, suc, ◌+◌, ◌*◌, ◌-◌, ◌≤◌, ◌<◌}
use native.Mathlib.Omega.{arith}
use native.Mathlib.Nat.{le_trans, mul-le-mul_left, mul-le-mul_right}
use mathlib.Core.Path.{◌≡◌, refl, sym, ap, ◌∙◌, subst}
use mathlib.Core.Bool.{Bool, true, false}
use mathlib.Core.Logic.{◌⊎◌, inl, inr, ◌↔◌, ⊎_elim}
use mathlib.Core.List.{List}
use lib.Dec.{eqb}
use lib.ListN.{length}
use borrow.Author.Tests.{eqb-true, eq-eqb}
use Rattle.rules.specs.Words.{upto, sum}
use Rattle.rules.specs.Limits.{max_largest, max_silence, max_bound, max_level_window, max_allowance, max_connections}
use Rattle.rules.specs.Model.{Link, Connection, Short, nth}
use Rattle.rules.specs.Admission.{windowed, link_within, level_within, figures_within, free_number, joining, bound, window, count, cost, load_by, conditions, span, limit_at, reservation, reserved, level_sum, excess, short_from, level_test}
use Rattle.rules.specs.Promises.{FirstExcess, NamesTheLowest, NoLevelFails}
use Rattle.rules.proofs.Sums.{same, cond_ind, sum_le, sum_add, only, only_at, sum_only, upto_le}
use Rattle.rules.proofs.Standing.{length_joining, nth_new, nth_other}
use Rattle.rules.proofs.LevelTest.{excess_holds, excess_first, test_holds, holds_test, names_lowest}
use Rattle.rules.proofs.Count.{count_le}
use Rattle.rules.proofs.Figures.{link_facts, figures_facts, conditions_none, conditions_own, connection_facts, reservation_is, sum_is}

-- a connection's own term in the sum of a condition
abbrev pub own_term : Link → Connection → ℕ → ℕ → ℕ
own_term l x m i = count x (span l m i x.level) * cost l x.size

-- ---- what the test tells

module _ (l : Link) (cs : List Connection) where
  -- the units beside a level: its excess
  abbrev Beside : Short → Type 0
  Beside t = (t.level ≡ 0 → t.units ≡ 0) × ((t.level ≡ 0 → ⊥) → t.units ≡ excess l cs t.level)

  beside_from : (m k : ℕ) → 1 ≤ m → Beside (short_from l cs m k)
  beside_from m zero p = (λ _. refl, λ n. absurd (n refl))
  beside_from m (suc k) p =
      cond_ind Beside (eqb (excess l cs m) 0) (λ _. beside_from (suc m) k (omega arith)) (λ _. (λ z. absurd (omega arith), λ _. refl))

  beside : Beside (level_test l cs)
  unfolding level_test
  beside = beside_from 1 l.levels (omega arith)

  pub names : ((level_test l cs).level ≡ 0 → ⊥) → NamesTheLowest l cs (level_test l cs)
  names n =
      let k = names_lowest l cs n in
      record {
        is_level = (k.0, omega (arith, k.1));
        lower_hold = λ m low high. excess_holds l cs m (k.3 m low high);
        first_excess = subst (FirstExcess l cs (level_test l cs).level) (sym (beside.1 n)) (excess_first l cs (level_test l cs).level k.2);
      }

  none_fails : (level_test l cs).level ≡ 0 → NoLevelFails l cs
  none_fails z = test_holds l cs (eq-eqb (level_test l cs).level 0 z)

  level_zero : NoLevelFails l cs → (level_test l cs).level ≡ 0
  level_zero h = eqb-true (level_test l cs).level 0 (holds_test l cs h)

  -- units there are exactly where a level is named
  units_zero : (level_test l cs).units ≡ 0 → (level_test l cs).level ≡ 0
  units_zero u = ⊎_elim (λ z. z) (λ n. let k = names n in absurd (omega (arith, k.first_excess.fails, k.first_excess.units_are))) (same (level_test l cs).level 0)

  pub tells : ((level_test l cs).level ≡ 0 ↔ NoLevelFails l cs) × ((level_test l cs).units ≡ 0 ↔ NoLevelFails l cs)
      × (((level_test l cs).level ≡ 0 → ⊥) → NamesTheLowest l cs (level_test l cs))
  tells = ((none_fails, level_zero), (λ u. none_fails (units_zero u), λ h. beside.0 (level_zero h)), names)

-- ---- what a newcomer adds

module _ (l : Link) (cs : List Connection) (x : Connection) (room : free_number cs < length cs) where
  -- what a connection adds to a sum of level m, with the windows w
  share : ℕ → (ℕ → ℕ) → Connection → ℕ
  share m w c = upto c.level m (count c (w c.level) * cost l c.size)

  pub load_newcomer : (m : ℕ) (w : ℕ → ℕ) → load_by l (joining cs x) m w ≤ load_by l cs m w + upto x.level m (count x (w x.level) * cost l x.size)
  unfolding share
  load_newcomer m w =
      omega (
        arith,
        ap (λ (n : ℕ). sum n (λ c. share m w (nth (joining cs x) c))) (length_joining cs x room),
        sum_le (length cs) {f = λ c. share m w (nth (joining cs x) c)} {g = λ c. share m w (nth cs c) + only (free_number cs) (share m w x) c} (λ c k. one c (same c (free_number cs))),
        sum_add (length cs) (λ c. share m w (nth cs c)) (only (free_number cs) (share m w x)),
        sum_only (free_number cs) (share m w x) (length cs) room,
      )
    where
      one : (c : ℕ) → (c ≡ free_number cs) ⊎ (c ≡ free_number cs → ⊥) → share m w (nth (joining cs x) c) ≤ share m w (nth cs c) + only (free_number cs) (share m w x) c
      one c (inl e) =
          omega (
            arith,
            ap (share m w) (ap (λ (j : ℕ). nth (joining cs x) j) e ∙ nth_new cs x room),
            only_at (free_number cs) (share m w x) (sym e),
          )
      one c (inr e) = omega (arith, ap (share m w) (nth_other cs x room c e))

  -- where the others hold, the excess is no more than the newcomer's own term
  pub excess_le : (m i : ℕ) → level_sum l cs m i ≤ limit_at l m i → level_sum l (joining cs x) m i - limit_at l m i ≤ own_term l x m i
  excess_le m i h =
      omega (
        arith,
        sum_is l cs m i,
        sum_is l (joining cs x) m i,
        load_newcomer m (span l m i),
        upto_le x.level m (count x (span l m i x.level) * cost l x.size),
      )

-- n terms, none above k
sum_most : (n k : ℕ) (f : ℕ → ℕ) → ((i : ℕ) → i < n → f i ≤ k) → sum n f ≤ n * k
sum_most zero k f h = omega arith
sum_most (suc n) k f h = omega (arith, sum_most n k f (λ i l. h i (omega arith)), h n (omega arith))

-- no window of a condition is longer than the level's
span_le : (l : Link) (m i v : ℕ) → i < conditions l m → span l m i v ≤ window l m
span_le l m zero v k = omega arith
span_le l m (suc β) v k = go (windowed l) refl
  where
    go : (b : Bool) → windowed l ≡ b → span l m (suc β) v ≤ window l m
    go true e = cond_ind (λ (n : ℕ). n ≤ window l m) (eqb v m) (λ _. omega (arith, conditions_own l e m)) (λ _. omega arith)
    go false e = absurd (omega (arith, conditions_none l e m))

-- an own term is within 69,206,016: no more packets than ticks of the longest window, none that costs more than the largest and the longest silence
pub term_le : (l : Link) (x : Connection) (m i : ℕ) → link_within l ≡ true → figures_within l x ≡ true → 1 ≤ m → m ≤ l.levels → i < conditions l m
    → own_term l x m i ≤ max_level_window * (max_largest + max_silence)
unfolding cost
term_le l x m i e f p q h =
    let F = link_facts l e in
    let G = figures_facts l x f in
    let k : x.size + l.silence ≤ max_largest + max_silence = omega (arith, G.size_le, F.largest_max, F.silence_max) in
    let w : span l m i x.level ≤ max_level_window = omega (arith, span_le l m i x.level h, (F.window_in m p q).1) in
    le_trans (mul-le-mul_right (x.size + l.silence) (le_trans (count_le x (span l m i x.level) G.some_gap) w)) (mul-le-mul_left max_level_window k)

-- ---- any connections within the limits

module _ (l : Link) (cs : List Connection) (e : link_within l ≡ true) (few : length cs ≤ max_connections)
    (f : (c : ℕ) → c < length cs → (level_within l (nth cs c) ≡ true) × (figures_within l (nth cs c) ≡ true)) where
  pub sums_le : (m : ℕ) → 1 ≤ m → m ≤ l.levels → (i : ℕ) → i < conditions l m
      → level_sum l cs m i ≤ max_connections * (max_level_window * (max_largest + max_silence)) + (max_largest + max_silence)
  unfolding cost
  sums_le m p q i h =
      let most : ℕ = max_level_window * (max_largest + max_silence) in
      let F = link_facts l e in
      let k = sum_most (length cs) most (λ c. upto (nth cs c).level m (own_term l (nth cs c) m i))
      (λ c j. le_trans (upto_le (nth cs c).level m (own_term l (nth cs c) m i)) (term_le l (nth cs c) m i e (f c j).1 p q h)) in
      omega (arith, sum_is l cs m i, le_trans k (mul-le-mul_right most few), F.largest_max, F.silence_max)

  pub reserved_most : reserved l cs ≤ max_connections * (max_allowance + max_bound)
  reserved_most = le_trans (sum_most (length cs) (max_allowance + max_bound) (λ c. reservation l (nth cs c)) one) (mul-le-mul_right (max_allowance + max_bound) few)
    where
      one : (c : ℕ) → c < length cs → reservation l (nth cs c) ≤ max_allowance + max_bound
      one c i =
          let x : Connection = nth cs c in
          let G = connection_facts l x (f c i).0 (f c i).1 in
          omega (
            arith,
            reservation_is l x,
            count_le x (x.allowance + bound l x.level) G.some_gap,
            G.allowance_le,
            (link_facts l e).bound_le x.level G.low_level G.high_level,
          )
