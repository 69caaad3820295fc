-- Laws that the figures of connections give the code: bounds by level, counts, shares and sums.
use mathlib.Core.Path.{◌≡◌, refl, sym, ap, ◌∙◌, subst}
use mathlib.Core.Bool.{Bool, true, false, cond, ◌&&◌}
use mathlib.Core.List.{List, [], ◌∷◌}
use mathlib.Core.Logic.{⊎_elim}
use Prim.Native.Nat.{ℕ, zero, suc, ◌+◌, ◌*◌, ◌-◌, ◌/◌, ◌%◌, ◌≤◌, ◌<◌, min}
use native.Mathlib.Nat.{mul-le-mul_right, mul-le-mul_left, le_trans, pos_of_div-pos}
use native.Mathlib.Omega.{arith}
use native.Mathlib.Numerals.{add-one}
use lib.Dec.{leb, eqb}
use borrow.Author.Tests.{leb-true, eqb-true, eq-eqb, ne_eqb}
use lib.ListN.{length, get_or, get_or-eq_default}
use Rattle.rules.specs.declared.Link.{Link}
use Rattle.rules.specs.declared.Connection.{Connection}
use Rattle.rules.specs.Words.{within, sum}
use Rattle.rules.specs.Limits.{max_levels, max_largest, max_silence, max_bound, max_gap, max_allowance, beyond_32_bits, max_remembered}
use Rattle.rules.specs.Model.{nth, no_connection}
use Rattle.rules.specs.Admission.{rising, windowed, windows_within, link_within, burst, average_within, kind_within, figures_within, free_number, joining, bound, rounded_up, average_count, count, reservation, reserved, cost, load, span, conditions, level_sum, excess_from, excess, short_from, level_test, passes}
use Rattle.rules.proofs.Tests.{never, and_true, or_cases, within_true}
use Rattle.rules.proofs.Sums.{split, same, upto_yes, upto_no, upto_le, cond_is}
use Rattle.rules.proofs.Standing.{level_owned, level_free}
use Rattle.rules.proofs.Figures.{few_at_once, reservation_is, sum_is, window_none, conditions_none}
use Rattle.rules.proofs.LevelTest.{test_holds, holds_excess}
use Rattle.rules.proofs.Count.{count_plain, count_average, count_none}
use Rattle.connections.specs.Within.{Within, SumsWith, bound_in, share_of, share_in, most_share}
use Rattle.connections.proofs.OwnerLaws.{sum_joining}

-- ---- bounds

pub bound_low : (ds : List ℕ) (m : ℕ) → m < 1 → 0 ≡ bound_in ds m
bound_low ds zero h = refl
bound_low ds (suc m) h = absurd (omega arith)

pub bound_high : (ds : List ℕ) (m : ℕ) → length ds ≡ max_levels → max_levels < m → 0 ≡ bound_in ds m
bound_high ds zero e h = refl
bound_high ds (suc m) e h = sym (get_or-eq_default ds 0 {n = m} (omega arith))

pub bound_at : (ds : List ℕ) (m : ℕ) → 1 ≤ m → get_or ds (m - 1) 0 ≡ bound_in ds m
bound_at ds zero h = absurd (omega arith)
bound_at ds (suc m) h = let e : suc m - 1 ≡ m = omega arith in rw e

pub bound_is : (l : Link) (m : ℕ) → bound_in l.bounds m ≡ bound l m
bound_is l zero = refl
bound_is l (suc m) = refl

rising_high : (low n : ℕ) (ds : List ℕ) → rising low n ds ≡ true → (k : ℕ) → get_or ds k 0 ≤ max_bound
rising_high low zero [] e k = omega (arith, get_or-eq_default {A = ℕ} [] 0 {n = k} (omega arith))
rising_high low zero (d ∷ ds) e zero = omega (arith, eqb-true d 0 (and_true (eqb d 0) (rising low zero ds) e).0)
rising_high low zero (d ∷ ds) e (suc k) = rising_high low zero ds (and_true (eqb d 0) (rising low zero ds) e).1 k
rising_high low (suc n) [] e k = never e
rising_high low (suc n) (d ∷ ds) e zero = leb-true d max_bound (and_true (leb d max_bound) (rising (suc d) n ds) (and_true (leb low d) (leb d max_bound && rising (suc d) n ds) e).1).0
rising_high low (suc n) (d ∷ ds) e (suc k) =
    rising_high (suc d) n ds (and_true (leb d max_bound) (rising (suc d) n ds) (and_true (leb low d) (leb d max_bound && rising (suc d) n ds) e).1).1 k

pub record LinkLimits (l : Link) : Type 0 where
  pub levels_le : l.levels ≤ max_levels
  pub largest_le : l.largest ≤ max_largest
  pub silence_le : l.silence ≤ max_silence
  pub bounds_le : (m : ℕ) → bound l m ≤ max_bound

pub link_limits : (l : Link) → link_within l ≡ true → LinkLimits l
unfolding link_within
link_limits l e =
    let first = cost l l.largest in
    let rises = rising first l.levels l.bounds in
    let rest = leb l.early 1 && (rises && windows_within l) in
    let a = and_true (within 1 max_levels l.levels) (within 1 max_largest l.largest && (leb l.silence max_silence && rest)) e in
    let b = and_true (within 1 max_largest l.largest) (leb l.silence max_silence && rest) a.1 in
    let k = and_true (leb l.silence max_silence) rest b.1 in
    record {
      levels_le = (within_true 1 max_levels l.levels a.0).1;
      largest_le = (within_true 1 max_largest l.largest b.0).1;
      silence_le = leb-true l.silence max_silence k.0;
      bounds_le = below (and_true rises (windows_within l) (and_true (leb l.early 1) (rises && windows_within l) k.1).1).0;
    }
  where
    below : rising (cost l l.largest) l.levels l.bounds ≡ true → (m : ℕ) → bound l m ≤ max_bound
    below r zero = omega arith
    below r (suc m) = rising_high (cost l l.largest) l.levels l.bounds r m

pub record FigureLimits (l : Link) (x : Connection) : Type 0 where
  pub some_gap : 1 ≤ x.gap
  pub some_size : 1 ≤ x.size
  pub size_le : x.size ≤ l.largest
  pub burst_le : burst x ≤ max_remembered
  pub allowance_le : x.allowance ≤ max_allowance

-- an allowance within its limit, of either kind
allowance_high : (x : Connection) → kind_within x ≡ true → x.allowance ≤ max_allowance
allowance_high x e =
    or_cases (eqb x.kind 0 && (eqb x.allowance 0 && average_within x)) (eqb x.kind 1 && (leb x.allowance max_allowance && (eqb x.window 0 && eqb x.average 0))) e
    (λ z. omega (arith, eqb-true x.allowance 0 (and_true (eqb x.allowance 0) (average_within x) (and_true (eqb x.kind 0) (eqb x.allowance 0 && average_within x) z).1).0))
    (λ _ z.
    leb-true x.allowance max_allowance
    (and_true (leb x.allowance max_allowance) (eqb x.window 0 && eqb x.average 0)
    (and_true (eqb x.kind 1) (leb x.allowance max_allowance && (eqb x.window 0 && eqb x.average 0)) z).1).0)

pub figure_limits : (l : Link) (x : Connection) → figures_within l x ≡ true → FigureLimits l x
unfolding figures_within
figure_limits l x e =
    let a = and_true (within 1 max_gap x.gap) (within 1 l.largest x.size && kind_within x) e in
    let k = and_true (within 1 l.largest x.size) (kind_within x) a.1 in
    let b = within_true 1 l.largest x.size k.0 in
    record { some_gap = (within_true 1 max_gap x.gap a.0).0; some_size = b.0; size_le = b.1; burst_le = few_at_once l x e; allowance_le = allowance_high x k.1 }

-- ---- counts and shares

pub burst_is : (x : Connection) → x.window / x.average ≡ burst x
unfolding burst
burst_is x = refl

-- the quotient of a window that is not 0
pub window_some : (x : Connection) → 1 ≤ burst x → 1 ≤ x.window
unfolding burst
window_some x h = pos_of_div-pos x.average h

pub average_is : (x : Connection) (w n q r : ℕ) → n ≡ burst x → q ≡ w / x.window → r ≡ min n (rounded_up (w % x.window) x.gap) → q * n + r ≡ average_count x w
unfolding average_count
average_is x w n q r e f g = rw (g, f, e)

-- two numbers of 32 bits, and a third
pub product_fits : (q n r : ℕ) → q < beyond_32_bits → n < beyond_32_bits → r < beyond_32_bits → q * n + r < beyond_32_bits * beyond_32_bits
product_fits q n r a b c = omega (arith, mul-le-mul_right {m = q} {n = beyond_32_bits - 1} n (omega arith), mul-le-mul_left {m = n} {n = beyond_32_bits - 1} (beyond_32_bits - 1) (omega arith))

pub count_by_gap : (x : Connection) (w r n : ℕ) → r ≡ rounded_up w x.gap → n ≡ burst x → n ≡ 0 → r ≡ count x w
count_by_gap x w r n e f z = e ∙ sym (count_plain x w (sym f ∙ z))

pub count_by_both : (x : Connection) (w r a n : ℕ) → r ≡ rounded_up w x.gap → a ≡ average_count x w → n ≡ burst x → (n ≡ 0 → ⊥) → min r a ≡ count x w
count_by_both x w r a n e f g z = rw (e, f) (sym (count_average x w (λ k. z (g ∙ k))))

pub share_is : (l : Link) (m d : ℕ) (x : Connection) → x.level ≤ m → count x d * (x.size + l.silence) ≡ share_of l m d x
unfolding cost
share_is l m d x h = sym (upto_yes x.level m (count x d * (x.size + l.silence)) h)

pub share_none : (l : Link) (m d : ℕ) (x : Connection) → m < x.level → 0 ≡ share_of l m d x
share_none l m d x h = sym (upto_no x.level m (count x d * cost l x.size) h)

-- a share within the limits
pub share_fits : (n k : ℕ) → n ≤ max_bound → k ≤ max_largest + max_silence → n * k ≤ most_share
share_fits n k a b = le_trans (mul-le-mul_right k a) (mul-le-mul_left max_bound b)

-- a free number costs nothing
pub share_free : (l : Link) (m d : ℕ) → share_of l m d no_connection ≡ 0
share_free l m d = omega (arith, upto_le 0 m (count no_connection d * cost l 0), ap (λ (k : ℕ). k * cost l 0) (count_none d))

pub reservation_free : (l : Link) → reservation l no_connection ≡ 0
reservation_free l = reservation_is l no_connection ∙ count_none (0 + bound l 0)

-- .. and reserves nothing
pub none_free : (x : Connection) (w : ℕ) → x ≡ no_connection → 0 ≡ count x w
none_free x w e = sym (ap (λ (y : Connection). count y w) e ∙ count_none w)

-- an owner has a gap, and a free number has none
pub free_by_gap : (x : Connection) → (x.level ≡ 0 → x ≡ no_connection) → ((x.level ≡ 0 → ⊥) → 1 ≤ x.gap) → x.gap ≡ 0 → x ≡ no_connection
free_by_gap x blank some z = ⊎_elim blank (λ n. absurd (omega (arith, some n))) (same x.level 0)

pub owner_by_gap : (x : Connection) → (x.level ≡ 0 → x ≡ no_connection) → (x.gap ≡ 0 → ⊥) → 1 ≤ x.level
owner_by_gap x blank n = ⊎_elim (λ z. absurd (n (ap (λ (y : Connection). y.gap) (blank z)))) (λ k. omega (arith, k)) (same x.level 0)

-- the reservation of a connection of a link with these bounds
abbrev pub reservation_in : List ℕ → Connection → ℕ
reservation_in ds x = count x (x.allowance + bound_in ds x.level)

pub reserved_is : (l : Link) (cs : List Connection) (n : ℕ) → sum n (λ (k : ℕ). reservation_in l.bounds (nth cs k)) ≡ sum n (λ (k : ℕ). reservation l (nth cs k))
reserved_is l cs zero = refl
reserved_is l cs (suc n) =
    let x = nth cs n in
    let e : reservation_in l.bounds x ≡ reservation l x = ap (λ (d : ℕ). count x (x.allowance + d)) (bound_is l x.level) ∙ sym (reservation_is l x) in
    omega (arith, e, reserved_is l cs n)

-- ---- sums

-- the figures of an entry within the limits
pub record EntryLimits (l : Link) (x : Connection) : Type 0 where
  pub free_blank : x.level ≡ 0 → x ≡ no_connection
  pub owner_gap : (x.level ≡ 0 → ⊥) → 1 ≤ x.gap
  pub size_most : x.size ≤ max_largest
  pub reach_fits : x.allowance + bound l x.level < beyond_32_bits
  pub silence_most : l.silence ≤ max_silence

pub entry_limits : (l : Link) (cs : List Connection) → Within l cs → (c : ℕ) (x : Connection) → x ≡ nth cs c → EntryLimits l x
entry_limits l cs W c x e = subst (EntryLimits l) (sym e) (record { free_blank = blank; owner_gap = λ n. (owner n).some_gap; size_most = size; reach_fits = reach; silence_most = k.silence_le })
  where
    k : LinkLimits l
    k = link_limits l W.link_in

    blank : (nth cs c).level ≡ 0 → nth cs c ≡ no_connection
    blank z = W.blank_in c (level_free cs c z)

    owner : ((nth cs c).level ≡ 0 → ⊥) → FigureLimits l (nth cs c)
    owner n = figure_limits l (nth cs c) (W.figures_in c (level_owned cs c n))

    size : (nth cs c).size ≤ max_largest
    size = ⊎_elim (λ z. omega (arith, ap (λ (y : Connection). y.size) (blank z))) (λ n. omega (arith, (owner n).size_le, k.largest_le)) (same (nth cs c).level 0)

    reach : (nth cs c).allowance + bound l (nth cs c).level < beyond_32_bits
    reach =
        ⊎_elim (λ z. omega (arith, ap (λ (y : Connection). y.allowance) (blank z), k.bounds_le (nth cs c).level)) (λ n. omega (arith, (owner n).allowance_le, k.bounds_le (nth cs c).level))
        (same (nth cs c).level 0)

-- a running sum, one entry further
pub sum_more : (i s r : ℕ) (f : ℕ → ℕ) → s ≡ sum i f → r ≡ f i → s + r ≡ sum (i + 1) f
sum_more i s r f e g = rw (add-one i, e, g)

-- ---- the level test, level by level

module _ (l : Link) (cs : List Connection) where
  pub test_start : short_from l cs 1 (l.levels + 1 - 1) ≡ level_test l cs
  unfolding level_test
  test_start = let e : l.levels + 1 - 1 ≡ l.levels = omega arith in ap (short_from l cs 1) e

  module _ (m : ℕ) where
    rest : m ≤ l.levels → l.levels + 1 - m ≡ suc (l.levels - m)
    rest h = omega arith

    -- a level with an excess
    pub test_over : m ≤ l.levels → (u : ℕ) → u ≡ excess l cs m → (u ≡ 0 → ⊥) → record { level = m; units = u } ≡ short_from l cs m (l.levels + 1 - m)
    test_over h u e n =
        sym
        (ap (short_from l cs m) (rest h)
        ∙ cond_is (short_from l cs (suc m) (l.levels - m)) (record { level = m; units = excess l cs m }) (ne_eqb (excess l cs m) 0 (λ z. n (e ∙ z)))
        ∙ ap (λ (k : ℕ). record { level = m; units = k }) (sym e))

    -- one without
    pub test_pass : m ≤ l.levels → excess l cs m ≡ 0 → short_from l cs (m + 1) (l.levels + 1 - (m + 1)) ≡ short_from l cs m (l.levels + 1 - m)
    test_pass h e =
        let k : l.levels + 1 - (m + 1) ≡ l.levels - m = omega arith in
        rw (k, add-one m)
        (sym
        (ap (short_from l cs m) (rest h)
        ∙ cond_is (short_from l cs (suc m) (l.levels - m)) (record { level = m; units = excess l cs m }) (eq-eqb (excess l cs m) 0 e)))

    pub test_end : l.levels < m → record { level = 0; units = 0 } ≡ short_from l cs m (l.levels + 1 - m)
    test_end h = let e : l.levels + 1 - m ≡ 0 = omega arith in ap (short_from l cs m) (sym e)

  -- levels from m on without an excess
  tests_next : (m k : ℕ) → ((j : ℕ) → m ≤ j → j < m + k → j ≤ l.levels → excess l cs j ≡ 0)
      → short_from l cs (m + k) (l.levels + 1 - (m + k)) ≡ short_from l cs m (l.levels + 1 - m)
  tests_next m zero h = let e : m + 0 ≡ m = omega arith in rw e
  tests_next m (suc k) h =
      let e : m + suc k ≡ m + k + 1 = omega arith in
      rw e (⊎_elim within_levels above (split (m + k) l.levels) ∙ tests_next m k (λ j a b. h j a (omega arith)))
    where
      within_levels : m + k ≤ l.levels → short_from l cs (m + k + 1) (l.levels + 1 - (m + k + 1)) ≡ short_from l cs (m + k) (l.levels + 1 - (m + k))
      within_levels a = test_pass (m + k) a (h (m + k) (omega arith) (omega arith) a)

      above : l.levels < m + k → short_from l cs (m + k + 1) (l.levels + 1 - (m + k + 1)) ≡ short_from l cs (m + k) (l.levels + 1 - (m + k))
      above a = sym (test_end (m + k + 1) (omega arith)) ∙ test_end (m + k) a

-- it hangs on the sums alone
module _ (l : Link) (cs ds : List Connection) (e : (m i : ℕ) → m ≤ l.levels → level_sum l cs m i ≡ level_sum l ds m i) where
  excess_same : (m i n : ℕ) → m ≤ l.levels → excess_from l cs m i n ≡ excess_from l ds m i n
  excess_same m i zero h = refl
  excess_same m i (suc n) h = rw (e m i h, excess_same m (suc i) n h)

  over_same : (m : ℕ) → m ≤ l.levels → excess l cs m ≡ excess l ds m
  unfolding excess
  over_same m h = excess_same m 0 (conditions l m) h

  short_same : (m k : ℕ) → m + k ≤ l.levels + 1 → short_from l cs m k ≡ short_from l ds m k
  short_same m zero h = refl
  short_same m (suc k) h = rw (over_same m (omega arith), short_same (suc m) k (omega arith))

  pub test_same : level_test l cs ≡ level_test l ds
  unfolding level_test
  test_same = short_same 1 l.levels (omega arith)

-- ---- without windows: one condition a level, within the bound

module _ (l : Link) (none : windowed l ≡ false) where
  module _ (cs : List Connection) (m : ℕ) where
    excess_by_bound : excess l cs m ≡ cond (leb (level_sum l cs m 0) (bound l m)) 0 (level_sum l cs m 0 - bound l m)
    unfolding excess
    excess_by_bound =
        ap (excess_from l cs m 0) (conditions_none l none m)
        ∙ ap (λ (n : ℕ). cond (leb (level_sum l cs m 0) n) 0 (level_sum l cs m 0 - n)) (window_none l none m)

    -- by how much its sum is above its bound
    pub over_bound : (s d : ℕ) → s ≡ level_sum l cs m 0 → d ≡ bound l m → s - d ≡ excess l cs m
    over_bound s d e f = rw (e, f) (sym (excess_by_bound ∙ either (leb (level_sum l cs m 0) (bound l m)) refl))
      where
        either : (b : Bool) → leb (level_sum l cs m 0) (bound l m) ≡ b → cond b 0 (level_sum l cs m 0 - bound l m) ≡ level_sum l cs m 0 - bound l m
        either true h = omega (arith, leb-true (level_sum l cs m 0) (bound l m) h)
        either false h = refl

  -- the sum of level m with a newcomer, for any connections whose sums these are
  pub sum_with : (cs js : List Connection) (x : Connection) → SumsWith l cs x js → (m s : ℕ) → m ≤ l.levels
      → s ≡ load l cs m (bound l m) + share_of l m (bound l m) x + cost l l.largest → s ≡ level_sum l js m 0
  sum_with cs js x S m s h e =
      e ∙ ap (λ (d : ℕ). load l cs m d + share_of l m d x + cost l l.largest) (sym (window_none l none m)) ∙ sym (S m 0 h)

-- ---- a newcomer

-- levels below its own, whose sums it leaves as they are, pass with it where they pass without it
pub test_low : (l : Link) (cs js : List Connection) (x : Connection) → passes l cs ≡ true → 1 ≤ x.level → SumsWith l cs x js → short_from l js x.level (l.levels + 1 - x.level) ≡ level_test l js
test_low l cs js x p o S =
    let e : 1 + (x.level - 1) ≡ x.level = omega arith in
    subst (λ (k : ℕ). short_from l js k (l.levels + 1 - k) ≡ short_from l js 1 (l.levels + 1 - 1)) e (tests_next l js 1 (x.level - 1) low) ∙ test_start l js
  where
    low : (j : ℕ) → 1 ≤ j → j < 1 + (x.level - 1) → j ≤ l.levels → excess l js j ≡ 0
    low j a b h = holds_excess l js j (λ i k. omega (arith, S j i h, sum_is l cs j i, share_none l j (span l j i x.level) x (omega arith), test_holds l cs p j a h i k))

-- a level above all others adds to no sum
pub sums_above : (l : Link) (cs : List Connection) (x : Connection) → l.levels < x.level → SumsWith l cs x cs
sums_above l cs x above m i h = omega (arith, sum_is l cs m i, share_none l m (span l m i x.level) x (omega arith))

-- at the lowest free number, of which nothing is left, it adds its own share and its own reservation
module _ (l : Link) (cs : List Connection) (x : Connection) (room : free_number cs < length cs) (blank : nth cs (free_number cs) ≡ no_connection) where
  pub sums_joining : SumsWith l cs x (joining cs x)
  sums_joining m i h = sum_is l (joining cs x) m i ∙ ap (λ (k : ℕ). k + cost l l.largest) (sum_joining cs (share_in l m i) (share_free l m (span l m i 0)) x room blank)

  pub reserved_joining : reserved l (joining cs x) ≡ reserved l cs + reservation l x
  reserved_joining = sum_joining cs (reservation l) (reservation_free l) x room blank
