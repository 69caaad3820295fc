-- No window holds more than the count (law W), over all lengths of window, and the count does not fall as the window grows (law M). Nothing else opens
-- `count`.
use Prim.Native.Nat.{ℕ, zero, suc, ◌+◌, ◌*◌, ◌-◌, ◌/◌, ◌%◌, ◌≤◌, ◌<◌, min}
use native.Mathlib.Omega.{arith}
use native.Mathlib.Nat.{le-div_iff_mul-le, mul-le-mul_right, div-lt_iff_lt-mul, div-mul-le_self, div-add-mod', mod-lt, pos_of_div-pos, mul-le-mul_left, div-zero, eq-zero-or-pos}
use mathlib.Core.Path.{◌≡◌, refl, ap, ◌∙◌}
use mathlib.Core.Bool.{Bool, true, false, cond}
use mathlib.Core.Logic.{◌⊎◌, inl, inr, ⊎_elim}
use mathlib.Core.List.{List, [], ◌∷◌, ◌++◌}
use lib.Dec.{eqb}
use lib.ListN.{length, take, drop, take-append-drop, length-take}
use borrow.Author.Tests.{eq-eqb, ne_eqb}
use Rattle.rules.specs.Words.{upto}
use Rattle.rules.specs.Model.{Connection, no_connection}
use Rattle.rules.specs.Admission.{burst, rounded_up, average_count, count}
use Rattle.rules.specs.Service.{Spaced}
use Rattle.rules.proofs.Lists.{All, Pairs, all_map, all_every, total, total_le, total_add, total_none}
use Rattle.rules.proofs.Sums.{split, cond_is, upto_yes, upto_no, upto_le}
use Rattle.rules.proofs.Figures.{burst_none}
use Rattle.rules.proofs.Spacing.{Windows, spaced_pairs, spaced_windows}

-- ---- the ticks of a window

-- 1 if e is one of the ticks b .. t
abbrev pub inside : ℕ → ℕ → ℕ → ℕ
inside b t e = upto b e (upto e t 1)

-- how many of these lie within b .. t
abbrev pub among : ℕ → ℕ → List ℕ → ℕ
among b t es = total (inside b t) es

inside_le : (b t e : ℕ) → inside b t e ≤ 1
inside_le b t e = omega (arith, upto_le b e (upto e t 1), upto_le e t 1)

-- 1 if e is one of the w ticks from b on, and how many of these are
abbrev pub hit : ℕ → ℕ → ℕ → ℕ
hit b w e = upto b e (upto (suc e) (b + w) 1)

abbrev pub hits : ℕ → ℕ → List ℕ → ℕ
hits b w es = total (hit b w) es

hit_le : (b w e : ℕ) → hit b w e ≤ 1
hit_le b w e = omega (arith, upto_le b e (upto (suc e) (b + w) 1), upto_le (suc e) (b + w) 1)

pub hit_yes : (b w e : ℕ) → b ≤ e → e < b + w → hit b w e ≡ 1
hit_yes b w e l k = upto_yes b e (upto (suc e) (b + w) 1) l ∙ upto_yes (suc e) (b + w) 1 k

hit_early : (b w e : ℕ) → e < b → hit b w e ≡ 0
hit_early b w e l = upto_no b e (upto (suc e) (b + w) 1) l

hit_late : (b w e : ℕ) → b + w ≤ e → hit b w e ≡ 0
hit_late b w e l =
    let k = upto_no (suc e) (b + w) 1 (omega arith) in
    omega (arith, upto_le b e (upto (suc e) (b + w) 1))

-- a hit where there is none, or there it is too
hit_into : (b w b' w' e : ℕ) → (b ≤ e → e < b + w → (b' ≤ e) × (e < b' + w')) → hit b w e ≤ hit b' w' e
hit_into b w b' w' e f = go (split b e) (split (suc e) (b + w))
  where
    go : (b ≤ e) ⊎ (e < b) → (suc e ≤ b + w) ⊎ (b + w < suc e) → hit b w e ≤ hit b' w' e
    go (inr l) k = omega (arith, hit_early b w e l)
    go (inl l) (inr k) = omega (arith, hit_late b w e (omega arith))
    go (inl l) (inl k) = let q = f l k in omega (arith, hit_le b w e, hit_yes b' w' e q.0 q.1)

-- a window of u + v ticks is one of u and one of v
hit_split : (b u v e : ℕ) → hit b (u + v) e ≤ hit b u e + hit (b + u) v e
hit_split b u v e = go (split (suc e) (b + u))
  where
    go : (suc e ≤ b + u) ⊎ (b + u < suc e) → hit b (u + v) e ≤ hit b u e + hit (b + u) v e
    go (inl l) = omega (arith, hit_into b (u + v) b u e (λ i j. (i, l)))
    go (inr l) = omega (arith, hit_into b (u + v) (b + u) v e (λ i j. (omega arith, omega arith)))

module _ (es : List ℕ) where
  hits_split : (b u v : ℕ) → hits b (u + v) es ≤ hits b u es + hits (b + u) v es
  hits_split b u v =
      omega (
        arith,
        total_le (hit b (u + v)) (λ e. hit b u e + hit (b + u) v e) es (all_every (hit_split b u v) es),
        total_add (hit b u) (hit (b + u) v) es,
      )

  hits_mono : (b w v : ℕ) → w ≤ v → hits b w es ≤ hits b v es
  hits_mono b w v l = total_le (hit b w) (hit b v) es (all_every (λ e. hit_into b w b v e (λ i j. (i, omega arith))) es)

  among_hits : (b t w : ℕ) → t < b + w → among b t es ≤ hits b w es
  among_hits b t w l = total_le (inside b t) (hit b w) es (all_every one es)
    where
      one : (e : ℕ) → inside b t e ≤ hit b w e
      one e = go (split b e) (split e t)
        where
          go : (b ≤ e) ⊎ (e < b) → (e ≤ t) ⊎ (t < e) → inside b t e ≤ hit b w e
          go (inr i) j = omega (arith, upto_no b e (upto e t 1) i)
          go (inl i) (inr j) = omega (arith, upto_le b e (upto e t 1), upto_no e t 1 j)
          go (inl i) (inl j) = omega (arith, inside_le b t e, hit_yes b w e i (omega arith))

  hits_among : (b w : ℕ) → hits b (suc w) es ≤ among b (b + w) es
  hits_among b w = total_le (hit b (suc w)) (inside b (b + w)) es (all_every one es)
    where
      one : (e : ℕ) → hit b (suc w) e ≤ inside b (b + w) e
      one e = go (split b e) (split e (b + w))
        where
          go : (b ≤ e) ⊎ (e < b) → (e ≤ b + w) ⊎ (b + w < e) → hit b (suc w) e ≤ inside b (b + w) e
          go (inr i) j = omega (arith, hit_early b (suc w) e i)
          go (inl i) (inr j) = omega (arith, hit_late b (suc w) e (omega arith))
          go (inl i) (inl j) = omega (arith, hit_le b (suc w) e, upto_yes b e (upto e (b + w) 1) i, upto_yes e (b + w) 1 j)

  hits_none : (b : ℕ) → hits b 0 es ≡ 0
  hits_none b = total_none (hit b 0) es (all_every one es)
    where
      one : (e : ℕ) → hit b 0 e ≡ 0
      one e = go (split b e)
        where
          go : (b ≤ e) ⊎ (e < b) → hit b 0 e ≡ 0
          go (inl l) = hit_late b 0 e (omega arith)
          go (inr l) = hit_early b 0 e l

-- ---- the gap: no more than the ticks divided by X, rounded up

rounded_up_law : (g w k : ℕ) → 1 ≤ g → k * g < w + g → k ≤ rounded_up w g
rounded_up_law g w k l h = (le-div_iff_mul-le l).1 (omega arith)

-- one more in front: n of the rest lie from b on, n' from a gap after e
step : (x n n' g b e t : ℕ) → x ≤ 1 → n ≤ n' → b ≤ e → e ≤ t → n' * g ≤ t + g - (e + g) → (x + n) * g ≤ t + g - b
step x n n' g b e t hx hn hb he h = omega (arith, mul-le-mul_right g hx, mul-le-mul_right g hn)

module _ (g t : ℕ) where
  -- what lies a gap after e lies from there on
  moved_on : (b b' : ℕ) (es : List ℕ) → All (λ e. b' ≤ e) es → among b t es ≤ among b' t es
  moved_on b b' es h =
      total_le (inside b t) (inside b' t) es
      (all_map (λ e k. omega (arith, upto_le b e (upto e t 1), upto_yes b' e (upto e t 1) k)) es h)

  in_gaps : (es : List ℕ) (b : ℕ) → Pairs (λ a b. a + g ≤ b) es → among b t es * g ≤ t + g - b
  in_gaps [] b h = omega arith
  in_gaps (e ∷ es) b h = go (split b e) (split e t) (in_gaps es b h.1) (in_gaps es (e + g) h.1)
    where
      skipped : inside b t e ≡ 0 → among b t es * g ≤ t + g - b → (inside b t e + among b t es) * g ≤ t + g - b
      skipped z ih = omega (arith, mul-le-mul_right {m = inside b t e} {n = 0} g (omega arith))

      go : (b ≤ e) ⊎ (e < b) → (e ≤ t) ⊎ (t < e)
          → among b t es * g ≤ t + g - b
          → among (e + g) t es * g ≤ t + g - (e + g)
          → (inside b t e + among b t es) * g ≤ t + g - b
      go (inr l) k ih ih' = skipped (upto_no b e (upto e t 1) l) ih
      go (inl l) (inr k) ih ih' = skipped (upto_yes b e (upto e t 1) l ∙ upto_no e t 1 k) ih
      go (inl l) (inl k) ih ih' =
          step (inside b t e) (among b t es) (among (e + g) t es) g b e t (inside_le b t e) (moved_on b (e + g) es h.0) l k ih'

gap_law : (g : ℕ) (es : List ℕ) → 1 ≤ g → Pairs (λ a b. a + g ≤ b) es → (b w : ℕ) → hits b w es ≤ rounded_up w g
gap_law g es l h b zero = omega (arith, hits_none es b)
gap_law g es l h b (suc w) =
    rounded_up_law g (suc w) (hits b (suc w) es) l (omega (arith, mul-le-mul_right g (hits_among es b w), in_gaps g (b + w) es b h))

-- ---- the average: no window I holds more than n

total_append : (w : ℕ → ℕ) (xs ys : List ℕ) → total w (xs ++ ys) ≡ total w xs + total w ys
total_append w [] ys = omega arith
total_append w (x ∷ xs) ys = omega (arith, total_append w xs ys)

hits_length : (b w : ℕ) (es : List ℕ) → hits b w es ≤ length es
hits_length b w [] = omega arith
hits_length b w (e ∷ es) = omega (arith, hit_le b w e, hits_length b w es)

module _ (c : Connection) (k b : ℕ) where
  -- once e lies in the window, all that stand k + 1 or more behind it lie past it
  first_hit : (e : ℕ) (es : List ℕ) → b ≤ e → All (λ f. e + c.window ≤ f) (drop k es) → hits b c.window es ≤ k
  first_hit e es l h =
      omega (
        arith,
        ap (hits b c.window) (take-append-drop k es),
        total_append (hit b c.window) (take k es) (drop k es),
        hits_length b c.window (take k es),
        length-take k es,
        total_none (hit b c.window) (drop k es) (all_map (λ f q. hit_late b c.window f (omega arith)) (drop k es) h),
      )

  in_window : (es : List ℕ) → Windows c k es → hits b c.window es ≤ suc k
  in_window [] h = omega arith
  in_window (e ∷ es) h = go (split b e) (in_window es h.1)
    where
      go : (b ≤ e) ⊎ (e < b) → hits b c.window es ≤ suc k → hits b c.window (e ∷ es) ≤ suc k
      go (inl l) ih = omega (arith, hit_le b c.window e, first_hit e es l h.0)
      go (inr l) ih = omega (arith, hit_early b c.window e l)

-- q whole windows, and a rest
module _ (I n m : ℕ) (es : List ℕ) (whole : (b : ℕ) → hits b I es ≤ n) where
  in_windows : (q r : ℕ) → ((b : ℕ) → hits b r es ≤ m) → (b : ℕ) → hits b (q * I + r) es ≤ q * n + m
  in_windows zero r rest b = omega (arith, rest b, hits_mono es b (0 * I + r) r (omega arith))
  in_windows (suc q) r rest b =
      omega (
        arith,
        hits_mono es b (suc q * I + r) (I + (q * I + r)) (omega arith),
        hits_split es b I (q * I + r),
        whole b,
        in_windows q r rest (b + I),
      )

module _ (c : Connection) where
  -- a connection with an average has a window
  pub some_window : (k : ℕ) → burst c ≡ suc k → 1 ≤ c.window
  unfolding burst
  some_window k e = pos_of_div-pos {n = c.window} c.average (omega (arith, e))

  average_law : (k : ℕ) (es : List ℕ) → burst c ≡ suc k → 1 ≤ c.gap → Spaced c es → (b w : ℕ) → hits b w es ≤ average_count c w
  unfolding average_count
  average_law k es n g s b w =
      omega (
        arith,
        in_windows c.window (burst c) (min (burst c) (rounded_up (w % c.window) c.gap)) es whole (w / c.window) (w % c.window) rest b,
        hits_mono es b w (w / c.window * c.window + w % c.window) (omega (arith, div-add-mod' w c.window)),
      )
    where
      whole : (b : ℕ) → hits b c.window es ≤ burst c
      whole b = omega (arith, n, in_window c k b es (spaced_windows c k es n s))

      rest : (b : ℕ) → hits b (w % c.window) es ≤ min (burst c) (rounded_up (w % c.window) c.gap)
      rest b =
          omega (
            arith,
            whole b,
            hits_mono es b (w % c.window) c.window (omega (arith, mod-lt w {m = c.window} (some_window k n))),
            gap_law c.gap es g (spaced_pairs c es s) b (w % c.window),
          )

  -- without an average the count is document 01's
  pub count_plain : (w : ℕ) → burst c ≡ 0 → count c w ≡ rounded_up w c.gap
  unfolding count
  count_plain w e = cond_is (rounded_up w c.gap) (min (rounded_up w c.gap) (average_count c w)) (eq-eqb (burst c) 0 e)

  pub count_average : (w : ℕ) → (burst c ≡ 0 → ⊥) → count c w ≡ min (rounded_up w c.gap) (average_count c w)
  unfolding count
  count_average w e = cond_is (rounded_up w c.gap) (min (rounded_up w c.gap) (average_count c w)) (ne_eqb (burst c) 0 e)

  -- LAW W: of a connection's eligibilities, no w ticks hold more than the count
  pub no_window_more : (es : List ℕ) (b w : ℕ) → 1 ≤ c.gap → Spaced c es → hits b w es ≤ count c w
  no_window_more es b w g s = go (burst c) refl
    where
      go : (n : ℕ) → burst c ≡ n → hits b w es ≤ count c w
      go zero e = omega (arith, count_plain w e, gap_law c.gap es g (spaced_pairs c es s) b w)
      go (suc k) e = omega (arith, count_average w (λ z. omega arith), gap_law c.gap es g (spaced_pairs c es s) b w, average_law k es e g s b w)

  -- .. said of the ticks b .. t
  pub window_law : (t : ℕ) (es : List ℕ) (b w : ℕ) → 1 ≤ c.gap → Spaced c es → t < b + w → among b t es ≤ count c w
  window_law t es b w g s lt = omega (arith, among_hits es b t w lt, no_window_more es b w g s)

-- ---- the count does not fall

quotient_mono : (a b g : ℕ) → 1 ≤ g → a ≤ b → a / g ≤ b / g
quotient_mono a b g l h = (le-div_iff_mul-le l).1 (omega (arith, div-mul-le_self a g))

rounded_up_mono : (g w v : ℕ) → 1 ≤ g → w ≤ v → rounded_up w g ≤ rounded_up v g
rounded_up_mono g w v l h = quotient_mono (w + (g - 1)) (v + (g - 1)) g l (omega arith)

module _ (c : Connection) (g : 1 ≤ c.gap) where
  average_mono : (k : ℕ) → burst c ≡ suc k → (w v : ℕ) → w ≤ v → average_count c w ≤ average_count c v
  unfolding average_count
  average_mono k e w v h = go (split (v / c.window) (w / c.window))
    where
      quotient : w / c.window ≤ v / c.window
      quotient = quotient_mono w v c.window (some_window c k e) h

      go : (v / c.window ≤ w / c.window) ⊎ (w / c.window < v / c.window) → average_count c w ≤ average_count c v
      go (inl l) =
          let q : w / c.window ≡ v / c.window = omega (arith, quotient) in
          omega (
            arith,
            ap (λ (n : ℕ). n * burst c) q,
            rounded_up_mono c.gap (w % c.window) (v % c.window) g
                (omega (arith, div-add-mod' w c.window, div-add-mod' v c.window, ap (λ (n : ℕ). n * c.window) q)),
          )
      go (inr l) = omega (arith, mul-le-mul_right {m = suc (w / c.window)} {n = v / c.window} (burst c) l)

  -- LAW M
  pub count_mono : (w v : ℕ) → w ≤ v → count c w ≤ count c v
  count_mono w v h = go (burst c) refl
    where
      go : (n : ℕ) → burst c ≡ n → count c w ≤ count c v
      go zero e = omega (arith, count_plain c w e, count_plain c v e, rounded_up_mono c.gap w v g h)
      go (suc k) e =
          omega (arith, count_average c w (λ z. omega arith), count_average c v (λ z. omega arith), rounded_up_mono c.gap w v g h, average_mono k e w v h)

-- ---- and is no more than the ticks

-- a quotient rounded up is no more than what is divided
pub rounded_up_le : (w g : ℕ) → 1 ≤ g → rounded_up w g ≤ w
rounded_up_le w g h = let k : rounded_up w g < suc w = (div-lt_iff_lt-mul h).1 (omega (arith, mul-le-mul_left w h)) in omega arith

pub count_le : (x : Connection) (w : ℕ) → 1 ≤ x.gap → count x w ≤ w
unfolding count
count_le x w g = go (eqb (burst x) 0)
  where
    go : (t : Bool) → cond t (rounded_up w x.gap) (min (rounded_up w x.gap) (average_count x w)) ≤ w
    go true = rounded_up_le w x.gap g
    go false = omega (arith, rounded_up_le w x.gap g)

-- so many gaps take no more than the ticks and one gap
pub count_gaps : (x : Connection) (w : ℕ) → count x w * x.gap ≤ w + x.gap
unfolding count
count_gaps x w = go (eqb (burst x) 0)
  where
    go : (t : Bool) → cond t (rounded_up w x.gap) (min (rounded_up w x.gap) (average_count x w)) * x.gap ≤ w + x.gap
    go true = omega (arith, div-mul-le_self (w + (x.gap - 1)) x.gap)
    go false =
        omega (
          arith,
          div-mul-le_self (w + (x.gap - 1)) x.gap,
          mul-le-mul_right {m = min (rounded_up w x.gap) (average_count x w)} {n = rounded_up w x.gap} x.gap (omega arith),
        )

-- .. and without an average no fewer than the ticks
rounded_up_covers : (w g : ℕ) → 1 ≤ g → w ≤ rounded_up w g * g
rounded_up_covers w g l = omega (arith, div-add-mod' (w + (g - 1)) g, mod-lt (w + (g - 1)) {m = g} l)

pub count_covers : (x : Connection) (w : ℕ) → 1 ≤ x.gap → burst x ≡ 0 → w ≤ count x w * x.gap
count_covers x w l e = omega (arith, ap (λ (n : ℕ). n * x.gap) (count_plain x w e), rounded_up_covers w x.gap l)

-- the law for any gap at all: with none nothing is counted
pub count_rises : (c : Connection) {a b : ℕ} → a ≤ b → count c a ≤ count c b
unfolding count
count_rises c {a} {b} h = ⊎_elim (λ z. none z) (λ g. count_mono c g a b h) (eq-zero-or-pos c.gap)
  where
    nothing : c.gap ≡ 0 → rounded_up a c.gap ≡ 0
    nothing z = ap (λ (g : ℕ). rounded_up a g) z ∙ div-zero (a + (0 - 1))

    none : c.gap ≡ 0 → count c a ≤ count c b
    none z = go (eqb (burst c) 0)
      where
        go : (t : Bool) → cond t (rounded_up a c.gap) (min (rounded_up a c.gap) (average_count c a)) ≤ cond t (rounded_up b c.gap) (min (rounded_up b c.gap) (average_count c b))
        go true = omega (arith, nothing z)
        go false = omega (arith, nothing z)

-- a free number counts nothing
pub count_none : (w : ℕ) → count no_connection w ≡ 0
count_none w = count_plain no_connection w (burst_none no_connection refl) ∙ div-zero (w + (0 - 1))
