-- Laws of the level test of a link with windows: the sum of a condition, the conditions of a level, level by level.
use Prim.Native.Nat.{ℕ, zero, suc, ◌+◌, ◌*◌, ◌-◌, ◌≤◌, ◌<◌, min, max}
use native.Mathlib.Omega.{arith}
use mathlib.Core.Path.{◌≡◌, refl, sym, ap, ◌∙◌}
use mathlib.Core.Bool.{true, false, true≢false}
use mathlib.Core.List.{List, [], ◌∷◌}
use Rattle.std.specs.List.{fold}
use lib.Dec.{leb, ltb, eqb}
use lib.ListN.{length, get_or}
use borrow.Author.Tests.{le-leb, lt-leb, eq-eqb, ne_eqb}
use Rattle.rules.specs.declared.Link.{Link}
use Rattle.rules.specs.declared.Connection.{Connection}
use Rattle.rules.specs.Words.{upto}
use Rattle.rules.specs.Limits.{max_bound, max_level_window}
use Rattle.rules.specs.Model.{nth}
use Rattle.rules.specs.Admission.{link_within, windowed, bound, own_window, window, largest_of, largest_bound, charge_time, count, cost, load_by, span, level_sum, excess_from, excess}
use Rattle.rules.specs.QuickTest.{descend, quick_holds}
use Rattle.rules.proofs.Sums.{cond_is, cond_ind, sum_eq}
use Rattle.rules.proofs.Figures.{link_facts, window_own}
use Rattle.rules.proofs.Tests.{and_intro}
use Rattle.rules.proofs.LevelTest.{holds_excess}
use Rattle.rules.proofs.Finer.{descend_stops, descend_goes_on, quick_exact, late_left_out, first_over}
use Rattle.connections.specs.Within.{SumsWith, bound_in, share_of, own_span, before_span, seen}

-- ---- the figures of a link

-- the first window tells whether there are any
pub windowed_is : (l : Link) → ltb 0 (get_or l.windows 0 0) ≡ windowed l
unfolding windowed
windowed_is l = refl

pub window_is : (l : Link) (m : ℕ) → bound_in l.windows m ≡ own_window l m
window_is l zero = refl
window_is l (suc m) = refl

-- the largest of some numbers, one by one
largest_behind : (a : ℕ) (ws : List ℕ) → fold max a ws ≡ max a (largest_of ws)
largest_behind a [] = omega arith
largest_behind a (w ∷ ws) = largest_behind (max a w) ws ∙ omega arith

pub largest_is : (ws : List ℕ) → fold max 0 ws ≡ largest_of ws
largest_is ws = largest_behind 0 ws ∙ omega arith

-- the time of a charge
pub charge_bound : (l : Link) → windowed l ≡ false → bound l l.levels ≡ charge_time l
unfolding charge_time
charge_bound l e = sym (cond_is (largest_bound l + largest_of l.windows) (largest_bound l) e)

pub charge_both : (l : Link) → windowed l ≡ true → bound l l.levels + largest_of l.windows ≡ charge_time l
unfolding charge_time
charge_both l e = sym (cond_is (largest_bound l + largest_of l.windows) (largest_bound l) e)

pub cost_is : (l : Link) → cost l l.largest ≡ l.largest + l.silence
unfolding cost
cost_is l = refl

-- a level's window: no less than its bound, and within its limit
module _ (l : Link) (within : link_within l ≡ true) (own : windowed l ≡ true) (m : ℕ) (low : 1 ≤ m) (high : m ≤ l.levels) where
  pub window_low : bound l m ≤ own_window l m
  window_low = omega (arith, ((link_facts l within).window_in m low high).0, window_own l own m)

  pub window_high : own_window l m ≤ max_level_window
  window_high = omega (arith, ((link_facts l within).window_in m low high).1, window_own l own m)

  -- how many conditions besides the first can decide
  pub left_is : (w d : ℕ) → w ≡ own_window l m → d ≡ bound l m → w - d ≡ window l m - bound l m
  left_is w d e f = rw (e ∙ sym (window_own l own m), f)

  pub own_is : (w : ℕ) → w ≡ own_window l m → w ≡ window l m
  own_is w e = e ∙ sym (window_own l own m)

-- ---- the sum of a condition

pub own_le : (w i : ℕ) → w ≤ max_bound → i ≤ w → own_span w i ≤ max_bound
own_le w zero h k = h
own_le w (suc β) h k = omega arith

pub before_le : (d w i : ℕ) → w ≤ max_bound → before_span d w i ≤ max_bound
before_le d w zero h = h
before_le d w (suc β) h = omega arith

pub own_first : (w i : ℕ) → i ≡ 0 → w ≡ own_span w i
own_first w zero e = refl
own_first w (suc β) e = absurd (omega arith)

pub own_later : (w i : ℕ) → (i ≡ 0 → ⊥) → i ≡ own_span w i
own_later w zero n = absurd (n refl)
own_later w (suc β) n = refl

pub before_later : (d w i : ℕ) → (i ≡ 0 → ⊥) → min w (d + (i - 1)) ≡ before_span d w i
before_later d w zero n = absurd (n refl)
before_later d w (suc β) n = omega arith

pub spans_fit : (l : Link) → link_within l ≡ true → windowed l ≡ true → (m : ℕ) → 1 ≤ m → m ≤ l.levels → (w i d o u : ℕ) → w ≡ own_window l m → i ≤ window l m
    → o ≡ own_span w i → u ≡ before_span d w i → (o ≤ max_bound) × (u ≤ max_bound)
spans_fit l within own m low high w i d o u e h f g =
    let k = window_high l within own m low high in
    let q = window_own l own m in
    (omega (arith, f, own_le w i (omega arith) (omega arith)), omega (arith, g, before_le d w i (omega arith)))

span_seen : (l : Link) (m i v : ℕ) → seen m (own_span (window l m) i) (before_span (bound l m) (window l m) i) v ≡ span l m i v
span_seen l m zero v = cond_ind (λ (n : ℕ). n ≡ window l m) (eqb v m) (λ _. refl) (λ _. refl)
span_seen l m (suc β) v = refl

load_spans : (l : Link) (cs : List Connection) (m i : ℕ) → load_by l cs m (seen m (own_span (window l m) i) (before_span (bound l m) (window l m) i)) ≡ load_by l cs m (span l m i)
load_spans l cs m i =
    sum_eq (length cs)
    {f = λ c. upto (nth cs c).level m (count (nth cs c) (seen m (own_span (window l m) i) (before_span (bound l m) (window l m) i) (nth cs c).level) * cost l (nth cs c).size)}
    {g = λ c. upto (nth cs c).level m (count (nth cs c) (span l m i (nth cs c).level) * cost l (nth cs c).size)}
    (λ c _. ap (λ (v : ℕ). upto (nth cs c).level m (count (nth cs c) v * cost l (nth cs c).size)) (span_seen l m i (nth cs c).level))

pub share_own : (l : Link) (x : Connection) (m own before r : ℕ) → x.level ≡ m → r ≡ share_of l m own x → r ≡ share_of l m (seen m own before x.level) x
share_own l x m own before r h e = e ∙ ap (λ (w : ℕ). share_of l m w x) (sym (cond_is own before (eq-eqb x.level m h)))

pub share_before : (l : Link) (x : Connection) (m own before r : ℕ) → (x.level ≡ m → ⊥) → r ≡ share_of l m before x → r ≡ share_of l m (seen m own before x.level) x
share_before l x m own before r h e = e ∙ ap (λ (w : ℕ). share_of l m w x) (sym (cond_is own before (ne_eqb x.level m h)))

-- the load, the share of a newcomer and the largest packet, for any connections whose sums these are
module _ (l : Link) (cs js : List Connection) (x : Connection) (S : SumsWith l cs x js) (m i : ℕ) (h : m ≤ l.levels) (own : windowed l ≡ true) where
  spans_sum : load_by l cs m (seen m (own_span (window l m) i) (before_span (bound l m) (window l m) i)) + share_of l m (seen m (own_span (window l m) i) (before_span (bound l m) (window l m) i) x.level) x + cost l l.largest ≡ level_sum l js m i
  spans_sum =
      ap (λ (n : ℕ). n + share_of l m (seen m (own_span (window l m) i) (before_span (bound l m) (window l m) i) x.level) x + cost l l.largest) (load_spans l cs m i)
      ∙ ap (λ (w : ℕ). load_by l cs m (span l m i) + share_of l m w x + cost l l.largest) (span_seen l m i x.level)
      ∙ sym (S m i h)

  pub sum_seen : (d w o b u v q : ℕ) → d ≡ bound l m → w ≡ own_window l m → o ≡ own_span w i → b ≡ before_span d w i
      → u ≡ load_by l cs m (seen m o b) → v ≡ share_of l m (seen m o b x.level) x → q ≡ l.largest + l.silence → u + v + q ≡ level_sum l js m i
  unfolding cost
  sum_seen d w o b u v q e f g k a c y = rw (y, c, a, k, g, e, f ∙ sym (window_own l own m)) spans_sum

-- ---- the conditions of a level, from the last down

module _ (l : Link) (js : List Connection) (m : ℕ) where
  pub descent_stops : (i s d : ℕ) → 1 ≤ i → s ≡ level_sum l js m i → d ≡ bound l m → d + (i - 1) < s → false ≡ descend l js m i i
  descent_stops zero s d h e f lt = absurd (omega arith)
  descent_stops (suc β) s d h e f lt = sym (descend_stops l js m β (omega arith))

  pub descent_goes_on : (i s d : ℕ) → 1 ≤ i → s ≡ level_sum l js m i → d ≡ bound l m → s ≤ d + (i - 1) → descend l js m (s - d) (s - d) ≡ descend l js m i i
  descent_goes_on zero s d h e f le = absurd (omega arith)
  descent_goes_on (suc β) s d h e f le = rw (e, f) (sym (descend_goes_on l js m β (omega arith)))

  pub descent_ends : (i : ℕ) → i ≡ 0 → true ≡ descend l js m i i
  descent_ends zero e = refl
  descent_ends (suc β) e = absurd (omega arith)

  -- where one fails there is one
  pub some_left : (k : ℕ) → descend l js m k k ≡ false → 0 < k
  some_left zero e = absurd (true≢false e)
  some_left (suc k) e = omega arith

  -- ---- its first excess

  pub excess_first : (s w : ℕ) → s ≡ level_sum l js m 0 → w ≡ window l m → w < s → s - w ≡ excess l js m
  excess_first s w e f lt =
      sym (late_left_out l js m ∙ cond_is (excess_from l js m 1 (window l m - bound l m)) (level_sum l js m 0 - window l m) (lt-leb (level_sum l js m 0) (window l m) (omega arith)) ∙ rw (e, f) refl)

  module _ (s w : ℕ) (e : s ≡ level_sum l js m 0) (f : w ≡ window l m) (le : s ≤ w) where
    pub excess_none : (k : ℕ) → k ≡ window l m - bound l m → true ≡ descend l js m k k → 0 ≡ excess l js m
    unfolding quick_holds
    excess_none k g h =
        sym (holds_excess l js m ((quick_exact l js m).0 (and_intro (leb (level_sum l js m 0) (window l m)) (descend l js m (window l m - bound l m) (window l m - bound l m)) (le-leb (level_sum l js m 0) (window l m) (omega arith)) (rw (← g) (sym h)))))

    pub excess_at : (i u d : ℕ) → 1 ≤ i → i ≤ window l m - bound l m → d ≡ bound l m → u ≡ level_sum l js m i
        → descend l js m (i - 1) (i - 1) ≡ true → descend l js m i i ≡ false → u - (d + i - 1) ≡ excess l js m
    excess_at zero u d low high g q up down = absurd (omega arith)
    excess_at (suc β) u d low high g q up down =
        let b : suc β - 1 ≡ β = omega arith in
        let o : d + suc β - 1 ≡ bound l m + β = omega arith in
        rw (q, o) (sym (first_over l js m β (omega arith) (omega arith) (rw b at up) down))
