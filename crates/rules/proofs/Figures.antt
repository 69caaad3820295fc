-- What the limits of a link and of a connection say as plain facts; nothing else opens them, nor `burst` (but Count), `reservation`, `cost`, `level_sum`.
use Prim.Native.Nat.{ℕ, zero, suc, ◌+◌, ◌*◌, ◌/◌, ◌%◌, ◌≤◌, ◌<◌}
use native.Mathlib.Omega.{arith}
use native.Mathlib.Nat.{le_refl, zero-div, div-mul-le_self, mul-le-mul_left, mul-le-mul_right}
use mathlib.Core.Path.{◌≡◌, refl, sym, ap, ◌∙◌}
use mathlib.Core.Bool.{Bool, true, false, cond, not, ◌&&◌, ◌||◌}
use mathlib.Core.List.{List, [], ◌∷◌}
use mathlib.Core.Option.{Option, none, some}
use lib.Dec.{leb, eqb}
use lib.ListN.{get_or}
use borrow.Author.Tests.{leb-true, eqb-true, eq-eqb, ne_eqb, not-true}
use Rattle.rules.specs.Words.{within}
use Rattle.rules.specs.Limits.{max_levels, max_largest, max_silence, max_bound, max_level_window, max_gap, max_window, max_allowance, max_remembered}
use Rattle.rules.specs.Model.{Link, Connection}
use Rattle.rules.specs.Admission.{rising, windowed, windows_from, windows_within, link_within, level_within, burst, average_within, stamped, kind_within, figures_within, bound, own_window, window, largest_of, largest_bound, charge_time, count, reservation, cost, load, load_by, conditions, span, limit_at, level_sum, stand_by_on, goes_early, distance, ahead}
use Rattle.rules.specs.WithoutWindows.{bounds_sum}
use Rattle.rules.specs.SoundTest.{reach}
use Rattle.rules.proofs.Sums.{cond_is, cond_ind}
use Rattle.rules.proofs.Tests.{never, and_true, or_cases, within_true}

-- ---- the link

rising_low : (low n : ℕ) (ds : List ℕ) → rising low n ds ≡ true → (k : ℕ) → k < n → low ≤ get_or ds k 0
rising_low low zero ds e k l = absurd (omega arith)
rising_low low (suc n) [] e k l = never e
rising_low low (suc n) (d ∷ ds) e zero l = leb-true low d (and_true (leb low d) (leb d max_bound && rising (suc d) n ds) e).0
rising_low low (suc n) (d ∷ ds) e (suc k) l =
    let a = and_true (leb low d) (leb d max_bound && rising (suc d) n ds) e in
    let b = and_true (leb d max_bound) (rising (suc d) n ds) a.1 in
    omega (arith, leb-true low d a.0, rising_low (suc d) n ds b.1 k (omega arith))

rising_high : (low n : ℕ) (ds : List ℕ) → rising low n ds ≡ true → (k : ℕ) → k < n → get_or ds k 0 ≤ max_bound
rising_high low zero ds e k l = absurd (omega arith)
rising_high low (suc n) [] e k l = never e
rising_high low (suc n) (d ∷ ds) e zero l =
    leb-true d max_bound (and_true (leb d max_bound) (rising (suc d) n ds) (and_true (leb low d) (leb d max_bound && rising (suc d) n ds) e).1).0
rising_high low (suc n) (d ∷ ds) e (suc k) l =
    rising_high (suc d) n ds (and_true (leb d max_bound) (rising (suc d) n ds) (and_true (leb low d) (leb d max_bound && rising (suc d) n ds) e).1).1 k (omega arith)

rising_le : (low n : ℕ) (ds : List ℕ) → rising low n ds ≡ true → (k j : ℕ) → k ≤ j → j < n → get_or ds k 0 ≤ get_or ds j 0
rising_le low zero ds e k j h l = absurd (omega arith)
rising_le low (suc n) [] e k j h l = never e
rising_le low (suc n) (d ∷ ds) e zero zero h l = omega arith
rising_le low (suc n) (d ∷ ds) e zero (suc j) h l =
    let r = (and_true (leb d max_bound) (rising (suc d) n ds) (and_true (leb low d) (leb d max_bound && rising (suc d) n ds) e).1).1 in
    omega (arith, rising_low (suc d) n ds r j (omega arith))
rising_le low (suc n) (d ∷ ds) e (suc k) zero h l = absurd (omega arith)
rising_le low (suc n) (d ∷ ds) e (suc k) (suc j) h l =
    rising_le (suc d) n ds (and_true (leb d max_bound) (rising (suc d) n ds) (and_true (leb low d) (leb d max_bound && rising (suc d) n ds) e).1).1 k j (omega arith) (omega arith)

-- ---- the windows

windows_low : (n : ℕ) (ds ws : List ℕ) → windows_from n ds ws ≡ true → (k : ℕ) → k < n → get_or ds k 0 ≤ get_or ws k 0
windows_low zero ds ws e k l = absurd (omega arith)
windows_low (suc n) ds [] e k l = never e
windows_low (suc n) [] (w ∷ ws) e k l = never e
windows_low (suc n) (d ∷ ds) (w ∷ ws) e zero l = leb-true d w (and_true (leb d w) (leb w max_level_window && windows_from n ds ws) e).0
windows_low (suc n) (d ∷ ds) (w ∷ ws) e (suc k) l =
    windows_low n ds ws (and_true (leb w max_level_window) (windows_from n ds ws) (and_true (leb d w) (leb w max_level_window && windows_from n ds ws) e).1).1 k (omega arith)

windows_high : (n : ℕ) (ds ws : List ℕ) → windows_from n ds ws ≡ true → (k : ℕ) → k < n → get_or ws k 0 ≤ max_level_window
windows_high zero ds ws e k l = absurd (omega arith)
windows_high (suc n) ds [] e k l = never e
windows_high (suc n) [] (w ∷ ws) e k l = never e
windows_high (suc n) (d ∷ ds) (w ∷ ws) e zero l =
    leb-true w max_level_window (and_true (leb w max_level_window) (windows_from n ds ws) (and_true (leb d w) (leb w max_level_window && windows_from n ds ws) e).1).0
windows_high (suc n) (d ∷ ds) (w ∷ ws) e (suc k) l =
    windows_high n ds ws (and_true (leb w max_level_window) (windows_from n ds ws) (and_true (leb d w) (leb w max_level_window && windows_from n ds ws) e).1).1 k (omega arith)

-- the largest one
largest_high : (n : ℕ) (ds ws : List ℕ) → windows_from n ds ws ≡ true → largest_of ws ≤ max_level_window
largest_high zero ds [] e = omega arith
largest_high zero ds (w ∷ ws) e =
    let k = and_true (eqb w 0) (windows_from zero ds ws) e in
    omega (arith, eqb-true w 0 k.0, largest_high zero ds ws k.1)
largest_high (suc n) ds [] e = never e
largest_high (suc n) [] (w ∷ ws) e = never e
largest_high (suc n) (d ∷ ds) (w ∷ ws) e =
    let k = and_true (leb w max_level_window) (windows_from n ds ws) (and_true (leb d w) (leb w max_level_window && windows_from n ds ws) e).1 in
    omega (arith, leb-true w max_level_window k.0, largest_high n ds ws k.1)

within_most : (l : Link) → windows_within l ≡ true → largest_of l.windows ≤ max_level_window
unfolding windows_within
within_most l e = largest_high (cond (windowed l) l.levels 0) l.bounds l.windows e

module _ (l : Link) where
  pub window_none : windowed l ≡ false → (m : ℕ) → window l m ≡ bound l m
  unfolding window
  window_none e m = cond_is (own_window l m) (bound l m) e

  pub window_own : windowed l ≡ true → (m : ℕ) → window l m ≡ own_window l m
  unfolding window
  window_own e m = cond_is (own_window l m) (bound l m) e

  -- a link without windows has one condition at each level, one with windows as many more as its window has ticks
  pub conditions_none : windowed l ≡ false → (m : ℕ) → conditions l m ≡ 1
  unfolding conditions
  conditions_none e m = cond_is (suc (window l m)) 1 e

  pub conditions_own : windowed l ≡ true → (m : ℕ) → conditions l m ≡ suc (window l m)
  unfolding conditions
  conditions_own e m = cond_is (suc (window l m)) 1 e

  pub some_condition : (m : ℕ) → 0 < conditions l m
  some_condition m = go (windowed l) refl
    where
      go : (b : Bool) → windowed l ≡ b → 0 < conditions l m
      go true e = omega (arith, conditions_own e m)
      go false e = omega (arith, conditions_none e m)

-- a window is at least its bound and within its limit; without windows it is the bound
window_facts : (l : Link) → windows_within l ≡ true → ((k : ℕ) → 1 ≤ k → k ≤ l.levels → bound l k ≤ max_bound)
    → (m : ℕ) → 1 ≤ m → m ≤ l.levels → (bound l m ≤ window l m) × (window l m ≤ max_level_window)
unfolding windows_within
window_facts l e h m low high = go (windowed l) refl e m low high
  where
    go : (b : Bool) → windowed l ≡ b → windows_from (cond b l.levels 0) l.bounds l.windows ≡ true
        → (m : ℕ) → 1 ≤ m → m ≤ l.levels → (bound l m ≤ window l m) × (window l m ≤ max_level_window)
    go b i k zero p q = absurd (omega arith)
    go true i k (suc m) p q = (
      omega (arith, window_own l i (suc m), windows_low l.levels l.bounds l.windows k m q),
      omega (arith, window_own l i (suc m), windows_high l.levels l.bounds l.windows k m q),
    )
    go false i k (suc m) p q = (omega (arith, window_none l i (suc m)), omega (arith, window_none l i (suc m), h (suc m) p q))

pub record LinkFacts (l : Link) : Type 0 where
  pub some_level : 1 ≤ l.levels
  pub few_levels : l.levels ≤ max_levels
  pub some_largest : 1 ≤ l.largest
  pub largest_max : l.largest ≤ max_largest
  pub silence_max : l.silence ≤ max_silence
  pub bound_le : (m : ℕ) → 1 ≤ m → m ≤ l.levels → bound l m ≤ max_bound
  pub bound_rises : (m : ℕ) → 1 ≤ m → m ≤ l.levels → bound l m ≤ largest_bound l
  pub largest_le : (m : ℕ) → 1 ≤ m → m ≤ l.levels → cost l l.largest ≤ bound l m
  pub window_in : (m : ℕ) → 1 ≤ m → m ≤ l.levels → (bound l m ≤ window l m) × (window l m ≤ max_level_window)
  pub largest_window : largest_of l.windows ≤ max_level_window

pub link_facts : (l : Link) → link_within l ≡ true → LinkFacts l
unfolding link_within
link_facts l e =
    let rises = rising (cost l l.largest) l.levels l.bounds in
    let a = and_true (within 1 max_levels l.levels) (within 1 max_largest l.largest && (leb l.silence max_silence && (leb l.early 1 && (rises && windows_within l)))) e in
    let b = and_true (within 1 max_largest l.largest) (leb l.silence max_silence && (leb l.early 1 && (rises && windows_within l))) a.1 in
    let c = and_true (leb l.silence max_silence) (leb l.early 1 && (rises && windows_within l)) b.1 in
    let y = and_true (leb l.early 1) (rises && windows_within l) c.1 in
    let r = and_true rises (windows_within l) y.1 in
    record {
      some_level = (within_true 1 max_levels l.levels a.0).0;
      few_levels = (within_true 1 max_levels l.levels a.0).1;
      some_largest = (within_true 1 max_largest l.largest b.0).0;
      largest_max = (within_true 1 max_largest l.largest b.0).1;
      silence_max = leb-true l.silence max_silence c.0;
      bound_le = high r.0;
      bound_rises = rises_to r.0;
      largest_le = low r.0;
      window_in = window_facts l r.1 (high r.0);
      largest_window = within_most l r.1;
    }
  where
    rises_to : rising (cost l l.largest) l.levels l.bounds ≡ true → (m : ℕ) → 1 ≤ m → m ≤ l.levels → bound l m ≤ largest_bound l
    rises_to r zero p q = absurd (omega arith)
    rises_to r (suc m) p q = last l.levels refl
      where
        last : (n : ℕ) → l.levels ≡ n → get_or l.bounds m 0 ≤ bound l n
        last zero e = absurd (omega arith)
        last (suc n) e = rising_le (cost l l.largest) l.levels l.bounds r m n (omega arith) (omega arith)

    high : rising (cost l l.largest) l.levels l.bounds ≡ true → (m : ℕ) → 1 ≤ m → m ≤ l.levels → bound l m ≤ max_bound
    high r zero p q = absurd (omega arith)
    high r (suc m) p q = rising_high (cost l l.largest) l.levels l.bounds r m q

    low : rising (cost l l.largest) l.levels l.bounds ≡ true → (m : ℕ) → 1 ≤ m → m ≤ l.levels → cost l l.largest ≤ bound l m
    low r zero p q = absurd (omega arith)
    low r (suc m) p q = rising_low (cost l l.largest) l.levels l.bounds r m q

-- ---- a connection

-- n is 0 without a window, and a window that holds one packet is at least an average gap long
pub burst_none : (c : Connection) → c.window ≡ 0 → burst c ≡ 0
unfolding burst
burst_none c e = ap (λ (w : ℕ). w / c.average) e ∙ zero-div c.average

average_le : (c : Connection) → 1 ≤ burst c → c.average ≤ c.window
unfolding burst
average_le c h = omega (arith, div-mul-le_self c.window c.average, mul-le-mul_right c.average h)

pub record ConnectionFacts (l : Link) (c : Connection) : Type 0 where
  pub low_level : 1 ≤ c.level
  pub high_level : c.level ≤ l.levels
  pub some_gap : 1 ≤ c.gap
  pub gap_le : c.gap ≤ max_gap
  pub size_le : c.size ≤ l.largest
  pub burst_le : burst c ≤ max_remembered
  pub window_le : c.window ≤ max_window
  pub gap_le_reach : c.gap ≤ reach c
  pub allowance_le : c.allowance ≤ max_allowance
  pub no_average : stamped c ≡ true → burst c ≡ 0

-- no average, or one within its limits
record AverageFacts (c : Connection) : Type 0 where
  burst_le : burst c ≤ max_remembered
  window_le : c.window ≤ max_window
  gap_le_reach : c.gap ≤ reach c

without_average : (c : Connection) → c.window ≡ 0 → c.average ≡ 0 → AverageFacts c
without_average c i j = record { burst_le = omega (arith, none); window_le = omega arith; gap_le_reach = omega (arith, cond_is c.gap c.window (eq-eqb (burst c) 0 none)) }
  where
    none : burst c ≡ 0
    none = burst_none c i

-- a window is at least as long as the average gap that divides it, once it is not 0
some_average : (c : Connection) → c.window ≤ max_window → c.gap ≤ c.average → 1 ≤ burst c → burst c ≤ max_remembered → AverageFacts c
some_average c w g low high = record {
  burst_le = high;
  window_le = w;
  gap_le_reach = omega (arith, cond_is c.gap c.window (ne_eqb (burst c) 0 (λ z. omega arith)), average_le c low);
}

average_facts : (c : Connection) → average_within c ≡ true → AverageFacts c
average_facts c e =
    or_cases (eqb c.window 0 && eqb c.average 0) _ e
    (λ z. let k = and_true (eqb c.window 0) (eqb c.average 0) z in without_average c (eqb-true _ 0 k.0) (eqb-true _ 0 k.1))
    (λ _ z.
    let a = and_true (leb c.window max_window) _ z in
    let b = and_true (leb c.gap c.average) _ a.1 in
    let d = and_true (eqb (c.window % c.average) 0) (within 1 max_remembered (burst c)) b.1 in
    let n = within_true 1 max_remembered (burst c) d.1 in
    some_average c (leb-true _ _ a.0) (leb-true _ _ b.0) n.0 n.1)

-- n packets a gap apart fit a window
pub packets_fit : (c : Connection) → average_within c ≡ true → 1 ≤ burst c → burst c * c.gap ≤ c.window
unfolding burst
packets_fit c e many =
    or_cases (eqb c.window 0 && eqb c.average 0) _ e
    (λ z. let k = and_true (eqb c.window 0) (eqb c.average 0) z in absurd (omega (arith, burst_none c (eqb-true _ 0 k.0))))
    (λ _ z.
    let a = and_true (leb c.window max_window) _ z in
    let b = and_true (leb c.gap c.average) _ a.1 in
    omega (arith, div-mul-le_self c.window c.average, mul-le-mul_left (c.window / c.average) (leb-true c.gap c.average b.0)))

-- the kind: the average is within its limits whatever it is, and the second kind has none
record KindFacts (c : Connection) : Type 0 where
  average : average_within c ≡ true
  allowance_le : c.allowance ≤ max_allowance
  none_stamped : stamped c ≡ true → burst c ≡ 0

kind_facts : (c : Connection) → kind_within c ≡ true → KindFacts c
unfolding stamped
kind_facts c e =
    or_cases (eqb c.kind 0 && (eqb c.allowance 0 && average_within c)) (eqb c.kind 1 && (leb c.allowance max_allowance && (eqb c.window 0 && eqb c.average 0))) e
    (λ z.
    let a = and_true (eqb c.kind 0) (eqb c.allowance 0 && average_within c) z in
    let b = and_true (eqb c.allowance 0) (average_within c) a.1 in
    record {
      average = b.1;
      allowance_le = omega (arith, eqb-true c.allowance 0 b.0);
      none_stamped = λ q. absurd (omega (arith, eqb-true c.kind 0 a.0, eqb-true c.kind 1 q));
    })
    (λ _ z.
    let a = and_true (eqb c.kind 1) (leb c.allowance max_allowance && (eqb c.window 0 && eqb c.average 0)) z in
    let b = and_true (leb c.allowance max_allowance) (eqb c.window 0 && eqb c.average 0) a.1 in
    let d = and_true (eqb c.window 0) (eqb c.average 0) b.1 in
    record {
      average = either_way (eqb c.window 0 && eqb c.average 0) _ b.1;
      allowance_le = leb-true c.allowance max_allowance b.0;
      none_stamped = λ _. burst_none c (eqb-true c.window 0 d.0);
    })
  where
    either_way : (a b : Bool) → a ≡ true → (a || b) ≡ true
    either_way true b e = e
    either_way false b e = never e

-- gap, size and average alone, whatever the level
pub record FiguresFacts (l : Link) (c : Connection) : Type 0 where
  pub some_gap : 1 ≤ c.gap
  pub gap_le : c.gap ≤ max_gap
  pub size_le : c.size ≤ l.largest
  pub average : average_within c ≡ true
  pub kind : kind_within c ≡ true

pub figures_facts : (l : Link) (c : Connection) → figures_within l c ≡ true → FiguresFacts l c
unfolding figures_within
figures_facts l c f =
    let a = and_true (within 1 max_gap c.gap) (within 1 l.largest c.size && kind_within c) f in
    let b = and_true (within 1 l.largest c.size) (kind_within c) a.1 in
    let g = within_true 1 max_gap c.gap a.0 in
    record { some_gap = g.0; gap_le = g.1; size_le = (within_true 1 l.largest c.size b.0).1; average = (kind_facts c b.1).average; kind = b.1 }

pub few_at_once : (l : Link) (c : Connection) → figures_within l c ≡ true → burst c ≤ max_remembered
few_at_once l c f = (average_facts c (figures_facts l c f).average).burst_le

pub connection_facts : (l : Link) (c : Connection) → level_within l c ≡ true → figures_within l c ≡ true → ConnectionFacts l c
unfolding level_within
connection_facts l c e f =
    let v = within_true 1 l.levels c.level e in
    let F = figures_facts l c f in
    let A = average_facts c F.average in
    let K = kind_facts c F.kind in
    record {
      low_level = v.0;
      high_level = v.1;
      some_gap = F.some_gap;
      gap_le = F.gap_le;
      size_le = F.size_le;
      burst_le = A.burst_le;
      window_le = A.window_le;
      gap_le_reach = A.gap_le_reach;
      allowance_le = K.allowance_le;
      no_average = K.none_stamped;
    }

-- ---- the reservation, the cost and the sum

pub reservation_is : (l : Link) (c : Connection) → reservation l c ≡ count c (c.allowance + bound l c.level)
unfolding reservation
reservation_is l c = refl

-- whose packets may go early, and how far past the clock an eligibility may lie then (document 02, R-11)
module _ (l : Link) (c : Connection) where
  pub early_parts : goes_early l c ≡ true → (stand_by_on l ≡ true) × (stamped c ≡ false)
  unfolding goes_early
  early_parts e = let k = and_true (stand_by_on l) (not (stamped c)) e in (k.0, not-true (stamped c) k.1)

  pub early_made : stand_by_on l ≡ true → stamped c ≡ false → goes_early l c ≡ true
  unfolding goes_early
  early_made i j = rw (i, j) refl

  pub never_stamped : stamped c ≡ true → goes_early l c ≡ false
  unfolding goes_early
  never_stamped e = rw e (go (stand_by_on l))
    where
      go : (b : Bool) → (b && false) ≡ false
      go true = refl
      go false = refl

  pub never_off : stand_by_on l ≡ false → goes_early l c ≡ false
  unfolding goes_early
  never_off e = rw e refl

  pub ahead_on : goes_early l c ≡ true → ahead l c ≡ some (distance l c)
  unfolding ahead
  ahead_on e = cond_is (some (distance l c)) none e

  pub ahead_off : goes_early l c ≡ false → ahead l c ≡ none
  unfolding ahead
  ahead_off e = cond_is (some (distance l c)) none e

  pub off_ahead : ahead l c ≡ none → goes_early l c ≡ false
  off_ahead e = go (goes_early l c) refl
    where
      go : (b : Bool) → goes_early l c ≡ b → goes_early l c ≡ false
      go true i = let z : ◌≡◌ {A = ℕ} 0 1 = cc (sym (ahead_on i) ∙ e) in absurd (omega arith)
      go false i = i

  -- what is `ahead` is the distance, of the first kind while the queue is on
  pub ahead_is : (r : ℕ) → ahead l c ≡ some r → (goes_early l c ≡ true) × (r ≡ distance l c)
  ahead_is r e = go (goes_early l c) refl
    where
      value : Option ℕ → ℕ
      value none = 0
      value (some x) = x

      go : (b : Bool) → goes_early l c ≡ b → (goes_early l c ≡ true) × (r ≡ distance l c)
      go true i = (i, ap value (sym e ∙ ahead_on i))
      go false i = let z : ◌≡◌ {A = ℕ} 0 1 = cc (sym e ∙ ahead_off i) in absurd (omega arith)

-- a closed connection is charged for no less than any window, and for no more than the two limits together
largest_le_of : (ws : List ℕ) (k : ℕ) → get_or ws k 0 ≤ largest_of ws
largest_le_of [] k = omega arith
largest_le_of (w ∷ ws) zero = omega arith
largest_le_of (w ∷ ws) (suc k) = omega (arith, largest_le_of ws k)

pub window_charged : (l : Link) → LinkFacts l → (m : ℕ) → 1 ≤ m → m ≤ l.levels → window l m ≤ charge_time l
unfolding charge_time
window_charged l F zero low high = absurd (omega arith)
window_charged l F (suc m) low high =
    cond_ind (λ (n : ℕ). window l (suc m) ≤ n) (windowed l)
    (λ e. omega (arith, window_own l e (suc m), largest_le_of l.windows m))
    (λ e. omega (arith, window_none l e (suc m), F.bound_rises (suc m) low high))

pub charge_le : (l : Link) → link_within l ≡ true → charge_time l ≤ max_bound + max_level_window
unfolding charge_time
charge_le l e =
    let F = link_facts l e in
    let d : largest_bound l ≤ max_bound = F.bound_le l.levels F.some_level (le_refl l.levels) in
    cond_ind (λ (n : ℕ). n ≤ max_bound + max_level_window) (windowed l) (λ _. omega (arith, d, F.largest_window)) (λ _. omega (arith, d))

-- what a packet takes of the line: something, more than the silence, and a longer one no less
pub cost_pos : (l : Link) (len : ℕ) → 1 ≤ len → 1 ≤ cost l len
unfolding cost
cost_pos l len h = omega arith

pub silence_below : (l : Link) (len : ℕ) → 1 ≤ len → l.silence < cost l len
unfolding cost
silence_below l len h = omega arith

pub cost_mono : (l : Link) {a b : ℕ} → a ≤ b → cost l a ≤ cost l b
unfolding cost
cost_mono l h = omega arith

pub sum_is : (l : Link) (cs : List Connection) (m i : ℕ) → level_sum l cs m i ≡ load_by l cs m (span l m i) + cost l l.largest
unfolding level_sum
sum_is l cs m i = refl

pub bounds_sum_is : (l : Link) (cs : List Connection) (m : ℕ) → bounds_sum l cs m ≡ load l cs m (bound l m) + cost l l.largest
unfolding bounds_sum
bounds_sum_is l cs m = refl

-- no condition has a limit below the bound
pub limit_some : (l : Link) → link_within l ≡ true → (m i : ℕ) → 1 ≤ m → m ≤ l.levels → bound l m ≤ limit_at l m i
limit_some l e m zero p q = omega (arith, ((link_facts l e).window_in m p q).0)
limit_some l e m (suc β) p q = omega arith

-- the largest packet alone fits every bound
pub cost_largest : (l : Link) → link_within l ≡ true → (m : ℕ) → 1 ≤ m → m ≤ l.levels → cost l l.largest ≤ bound l m
cost_largest l e m p q = (link_facts l e).largest_le m p q
