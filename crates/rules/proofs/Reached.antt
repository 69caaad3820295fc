-- The count is exact: for each length of window there are eligibilities, spaced as the rules ask, of which a window holds as many.
use Prim.Native.Nat.{ℕ, zero, suc, ◌+◌, ◌*◌, ◌-◌, ◌/◌, ◌%◌, ◌≤◌, ◌<◌, min}
use native.Mathlib.Omega.{arith}
use native.Mathlib.Nat.{le-div_iff_mul-le, mul-le-mul_right, div-add-mod', mod-lt, div-eq_of_lt, mod-eq_of_lt, mul-add-div_right, mul-add-mod_self_right}
use mathlib.Core.Path.{◌≡◌, refl, sym, ap, ◌∙◌, subst}
use mathlib.Core.Bool.{true}
use mathlib.Core.Logic.{◌⊎◌, inl, inr}
use mathlib.Core.List.{List, [], ◌∷◌}
use mathlib.Core.Option.{Option, none, some}
use lib.ListN.{length, get_elem?}
use Rattle.rules.specs.Model.{Link, Connection}
use Rattle.rules.specs.Admission.{figures_within, burst, rounded_up, average_count, count}
use Rattle.rules.specs.Service.{nth_before, ticks_after, earliest, Spaced}
use Rattle.rules.specs.SoundState.{in_order}
use Rattle.rules.proofs.Lists.{All, total}
use Rattle.rules.proofs.Sums.{split}
use Rattle.rules.proofs.Rows.{find_below, some_inj}
use Rattle.rules.proofs.Spacing.{earliest_is, Back, spaced_in_order}
use Rattle.rules.proofs.Count.{hit, hits, hit_yes, some_window, count_plain, count_average, no_window_more}
use Rattle.rules.proofs.Figures.{figures_facts, packets_fit}

-- ---- as early as the rules allow, k times, newest first

module _ (c : Connection) where
  greedy : ℕ → List ℕ
  greedy zero = []
  greedy (suc k) = earliest c (greedy k) ∷ greedy k

  greedy_back : (k : ℕ) → Back c (greedy k)
  unfolding greedy
  greedy_back zero = tt
  greedy_back (suc k) = (omega arith, greedy_back k)

  greedy_length : (k : ℕ) → length (greedy k) ≡ k
  unfolding greedy
  greedy_length zero = refl
  greedy_length (suc k) = ap suc (greedy_length k)

  -- each no later than B allows, by its number
  module _ (B : ℕ → ℕ) (steps : (m : ℕ) → B m + c.gap ≤ B (suc m)) (windows : (j m : ℕ) → burst c ≡ suc j → B m + c.window ≤ B (m + suc j)) where
    abbrev Bounded : ℕ → Type 0
    Bounded k = (i m a : ℕ) → i + suc m ≡ k → get_elem? (greedy k) i ≡ some a → a ≤ B m

    next_bounded : (k : ℕ) → Bounded k → earliest c (greedy k) ≤ B k
    unfolding greedy
    next_bounded k h = omega (arith, earliest_is c (greedy k), by_gap k h, by_window (burst c) refl)
      where
        by_gap : (k : ℕ) → Bounded k → ticks_after c.gap (get_elem? (greedy k) 0) ≤ B k
        by_gap zero h = omega arith
        by_gap (suc m) h = omega (arith, h 0 m (earliest c (greedy m)) (omega arith) refl, steps m)

        at : (j : ℕ) → burst c ≡ suc j → (o : Option ℕ) → get_elem? (greedy k) j ≡ o → ticks_after c.window o ≤ B k
        at j e none i = omega arith
        at j e (some a) i =
            let m = k - suc j in
            let q : j + suc m ≡ k = omega (arith, find_below (greedy k) j a i, greedy_length k) in
            let r : m + suc j ≡ k = omega (arith, find_below (greedy k) j a i, greedy_length k) in
            omega (arith, h j m a q i, windows j m e, ap B r)

        by_window : (n : ℕ) → burst c ≡ n → ticks_after c.window (nth_before n (greedy k)) ≤ B k
        by_window zero e = omega arith
        by_window (suc j) e = at j e (get_elem? (greedy k) j) refl

    bounded : (k : ℕ) → Bounded k
    unfolding greedy
    bounded zero i m a q e = absurd (omega arith)
    bounded (suc k) zero m a q e =
        let r : k ≡ m = omega arith in
        omega (arith, next_bounded k (bounded k), some_inj e, ap B r)
    bounded (suc k) (suc i) m a q e = bounded k i m a (omega arith) e

    -- so all of the first k lie within w ticks if B does
    all_at : (l : List ℕ) (P : ℕ → Type 0) → ((i a : ℕ) → get_elem? l i ≡ some a → P a) → All P l
    all_at [] P f = tt
    all_at (x ∷ l) P f = (f 0 x refl, all_at l P (λ i a e. f (suc i) a e))

    in_time : (k w : ℕ) → ((m : ℕ) → m < k → B m < w) → All (λ a. a < w) (greedy k)
    in_time k w f = all_at (greedy k) (λ a. a < w) one
      where
        one : (i a : ℕ) → get_elem? (greedy k) i ≡ some a → a < w
        one i a e =
            let l : i < k = omega (arith, find_below (greedy k) i a e, greedy_length k) in
            let m = k - suc i in
            omega (arith, bounded k i m a (omega arith) e, f m (omega arith))

  total_in_order : (w : ℕ → ℕ) (h es : List ℕ) → total w (in_order h es) ≡ total w h + total w es
  total_in_order w [] es = omega arith
  total_in_order w (e ∷ h) es = omega (arith, total_in_order w h (e ∷ es))

  hits_all : (w : ℕ) (l : List ℕ) → All (λ a. a < w) l → hits 0 w l ≡ length l
  hits_all w [] h = refl
  hits_all w (a ∷ l) h = omega (arith, hits_all w l h.1, hit_yes 0 w a (omega arith) (omega (arith, h.0)))

  -- a window that holds k
  reached_by : (k w : ℕ) → All (λ a. a < w) (greedy k) → (es : List ℕ) × Spaced c es × (hits 0 w es ≡ k)
  reached_by k w h = (
    in_order (greedy k) [],
    (spaced_in_order c (greedy k) []).1 (greedy_back k, tt),
    omega (arith, total_in_order (hit 0 w) (greedy k) [], hits_all w (greedy k) h, greedy_length k),
  )

-- ---- without an average: every X ticks

rounded_below : (g r w : ℕ) → 1 ≤ g → r < rounded_up w g → r * g < w
rounded_below g r w l h = omega (arith, (le-div_iff_mul-le {k = g} {x = suc r} {y = w + (g - 1)} l).0 h)

-- ---- with one: n, X ticks apart, at the start of every window

module _ (I X j : ℕ) (pos : 1 ≤ X) (fits : suc j * X ≤ I) where
  early : ℕ → ℕ
  early m = m / suc j * I + m % suc j * X

  early_is : (m : ℕ) → early m ≡ m / suc j * I + m % suc j * X
  unfolding early
  early_is m = refl

  early_at : (q r : ℕ) → r < suc j → early (q * suc j + r) ≡ q * I + r * X
  unfolding early
  early_at q r l =
      let d : (q * suc j + r) / suc j ≡ q = mul-add-div_right {m = suc j} (omega arith) q r ∙ ap (λ (k : ℕ). q + k) (div-eq_of_lt l) ∙ zero_more q in
      let m : (q * suc j + r) % suc j ≡ r = mul-add-mod_self_right q (suc j) r ∙ mod-eq_of_lt l in
      ap (λ (k : ℕ). k * I + (q * suc j + r) % suc j * X) d ∙ ap (λ (k : ℕ). q * I + k * X) m
    where
      zero_more : (q : ℕ) → q + 0 ≡ q
      zero_more q = omega arith

  parts : (m : ℕ) → (m / suc j * suc j + m % suc j ≡ m) × (m % suc j < suc j)
  parts m = (div-add-mod' m (suc j), mod-lt m {m = suc j} (omega arith))

  early_steps : (m : ℕ) → early m + X ≤ early (suc m)
  early_steps m = go (split (suc (suc (m % suc j))) (suc j))
    where
      go : (suc (suc (m % suc j)) ≤ suc j) ⊎ (suc j < suc (suc (m % suc j))) → early m + X ≤ early (suc m)
      go (inl l) =
          let e : m / suc j * suc j + suc (m % suc j) ≡ suc m = omega (arith, (parts m).0) in
          omega (arith, early_is m, ap early e, early_at (m / suc j) (suc (m % suc j)) l)
      go (inr l) =
          let z : m % suc j ≡ j = omega (arith, (parts m).1) in
          let e : suc (m / suc j) * suc j + 0 ≡ suc m = omega (arith, (parts m).0, z) in
          omega (arith, early_is m, ap early e, early_at (suc (m / suc j)) 0 (omega arith), ap (λ (k : ℕ). k * X) z, fits)

  early_windows : (m : ℕ) → early m + I ≤ early (m + suc j)
  early_windows m =
      let e : suc (m / suc j) * suc j + m % suc j ≡ m + suc j = omega (arith, (parts m).0) in
      omega (arith, early_is m, ap early e, early_at (suc (m / suc j)) (m % suc j) (parts m).1)

  early_enough : (w m : ℕ) → 1 ≤ I → m < w / I * suc j + min (suc j) (rounded_up (w % I) X) → early m < w
  early_enough w m positive l = go (split (suc (m / suc j)) (w / I)) (split (m / suc j) (w / I))
    where
      whole : w / I * I + w % I ≡ w
      whole = div-add-mod' w I

      go : (suc (m / suc j) ≤ w / I) ⊎ (w / I < suc (m / suc j)) → (m / suc j ≤ w / I) ⊎ (w / I < m / suc j) → early m < w
      go (inl a) b =
          omega (
            arith,
            early_is m,
            whole,
            mul-le-mul_right I a,
            mul-le-mul_right {m = suc (m % suc j)} {n = suc j} X (parts m).1,
            fits,
          )
      go (inr a) (inr b) = absurd (omega (arith, mul-le-mul_right {m = suc (w / I)} {n = m / suc j} (suc j) b, (parts m).0))
      go (inr a) (inl b) =
          let e : m / suc j ≡ w / I = omega arith in
          let k : m % suc j < rounded_up (w % I) X = omega (arith, (parts m).0, ap (λ (n : ℕ). n * suc j) e) in
          omega (arith, early_is m, whole, ap (λ (n : ℕ). n * I) e, rounded_below X (m % suc j) (w % I) pos k)

average_is : (c : Connection) (w j : ℕ) → burst c ≡ suc j → average_count c w ≡ w / c.window * suc j + min (suc j) (rounded_up (w % c.window) c.gap)
unfolding average_count
average_is c w j e = ap (λ (n : ℕ). w / c.window * n + min n (rounded_up (w % c.window) c.gap)) e

-- ---- THE COUNT IS EXACT

pub count_reached : (l : Link) (c : Connection) → figures_within l c ≡ true → (w : ℕ) → (es : List ℕ) × Spaced c es × (hits 0 w es ≡ count c w)
count_reached l c f w = go (burst c) refl
  where
    gap : 1 ≤ c.gap
    gap = (figures_facts l c f).some_gap

    go : (n : ℕ) → burst c ≡ n → (es : List ℕ) × Spaced c es × (hits 0 w es ≡ count c w)
    go zero e =
        let r = reached_by c (rounded_up w c.gap) w
        (in_time c (λ m. m * c.gap) (λ m. omega arith) (λ j m i. absurd (omega arith)) (rounded_up w c.gap) w (λ m k. rounded_below c.gap m w gap k)) in
        (r.0, r.1, r.2 ∙ sym (count_plain c w e))
    go (suc j) e =
        let fits : suc j * c.gap ≤ c.window = subst (λ (n : ℕ). n * c.gap ≤ c.window) e (packets_fit c (figures_facts l c f).average (omega arith)) in
        let a : average_count c w ≡ w / c.window * suc j + min (suc j) (rounded_up (w % c.window) c.gap) = average_is c w j e in
        let r = reached_by c (average_count c w) w
        (in_time c (early c.window c.gap j gap fits) (early_steps c.window c.gap j gap fits)
        (λ i m q. let z : j ≡ i = omega arith in subst (λ (n : ℕ). early c.window c.gap j gap fits m + c.window ≤ early c.window c.gap j gap fits (m + suc n)) z (early_windows c.window c.gap j gap fits m))
        (average_count c w) w
        (λ m k. early_enough c.window c.gap j gap fits w m (some_window c j e) (omega (arith, a)))) in
        let least : average_count c w ≤ count c w = omega (arith, no_window_more c r.0 0 w gap r.1, r.2) in
        (r.0, r.1, omega (arith, r.2, count_average c w (λ z. omega arith)))
