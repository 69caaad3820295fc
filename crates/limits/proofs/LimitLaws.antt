-- The limits of links and connections, test by test in the order of the code.
use Prim.Native.Nat.{ℕ, zero, suc, ◌+◌, ◌-◌, ◌/◌, ◌%◌, ◌≤◌, ◌<◌}
use native.Mathlib.Omega.{arith}
use native.Mathlib.Numerals.{add-one}
use mathlib.Core.Path.{◌≡◌, refl, sym, ap, ◌∙◌}
use native.Mathlib.Nat.{zero-div}
use mathlib.Core.Bool.{and_assoc, Bool, true, false, ◌&&◌, ◌||◌}
use mathlib.Core.List.{List, [], ◌∷◌}
use lib.Dec.{leb, eqb}
use lib.ListN.{length, get_or, drop, take, length-take}
use lib.Seq.{get_or-take, drop-cons}
use borrow.Author.Tests.{le-leb, lt-leb, eq-eqb, ne_eqb, le-ltb, lt-ltb}
use Rattle.rules.specs.declared.Link.{Link}
use Rattle.rules.specs.declared.Connection.{Connection}
use Rattle.rules.specs.Words.{within}
use Rattle.rules.specs.Limits.{max_levels, max_largest, max_silence, max_bound, max_level_window, max_gap, max_window, max_allowance, max_remembered}
use Rattle.rules.specs.Admission.{rising, windowed, windows_from, windows_within, cost, link_within, level_within, burst, average_within, kind_within, figures_within}
use Rattle.rules.proofs.Tests.{within_intro}
use Rattle.std.specs.List.{list_all, zip}
use Rattle.limits.specs.Zeros.{zeros}
use Rattle.limits.proofs.ChainLaws.{fails, goes_on, and_false, too_low, too_high}

-- ---- a connection

module _ (l : Link) (x : Connection) where
  pub level_low : x.level < 1 → false ≡ level_within l x
  unfolding level_within
  level_low h = sym (too_low 1 l.levels x.level h)

  pub level_rest : 1 ≤ x.level → leb x.level l.levels ≡ level_within l x
  unfolding level_within
  level_rest h = goes_on (leb 1 x.level) _ _ (le-leb 1 x.level h) refl

  pub gap_low : x.gap < 1 → false ≡ figures_within l x
  unfolding figures_within
  gap_low h = fails (within 1 max_gap x.gap) _ (too_low 1 max_gap x.gap h)

  module _ (g : 1 ≤ x.gap) where
    pub gap_high : max_gap < x.gap → false ≡ figures_within l x
    unfolding figures_within
    gap_high h = fails (within 1 max_gap x.gap) _ (too_high 1 max_gap x.gap g h)

    module _ (h : x.gap ≤ max_gap) where
      pub size_low : x.size < 1 → false ≡ figures_within l x
      unfolding figures_within
      size_low k = goes_on (within 1 max_gap x.gap) _ false (within_intro 1 max_gap x.gap g h) (fails (within 1 l.largest x.size) _ (too_low 1 l.largest x.size k))

      module _ (k : 1 ≤ x.size) where
        pub size_high : l.largest < x.size → false ≡ figures_within l x
        unfolding figures_within
        size_high m = goes_on (within 1 max_gap x.gap) _ false (within_intro 1 max_gap x.gap g h) (fails (within 1 l.largest x.size) _ (too_high 1 l.largest x.size k m))

        pub kind_rest : x.size ≤ l.largest → (r : Bool) → r ≡ kind_within x → r ≡ figures_within l x
        unfolding figures_within
        kind_rest m r e = goes_on (within 1 max_gap x.gap) _ r (within_intro 1 max_gap x.gap g h) (goes_on (within 1 l.largest x.size) _ r (within_intro 1 l.largest x.size k m) e)

-- ---- an average

module _ (x : Connection) where
  -- without a window
  pub no_window : x.window ≡ 0 → eqb x.average 0 ≡ average_within x
  unfolding burst
  no_window e = rw e (go (eqb x.average 0))
    where
      none : within 1 max_remembered (0 / x.average) ≡ false
      none = rw (zero-div x.average) refl

      go : (b : Bool) → b ≡ (b || (leb 0 max_window && (leb x.gap x.average && (eqb (0 % x.average) 0 && within 1 max_remembered (0 / x.average)))))
      go true = refl
      go false = sym (and_false (leb 0 max_window) _ (and_false (leb x.gap x.average) _ (and_false (eqb (0 % x.average) 0) _ none)))

  module _ (some : x.window ≡ 0 → ⊥) where
    behind_none : (r : Bool) → r ≡ (leb x.window max_window && (leb x.gap x.average && (eqb (x.window % x.average) 0 && within 1 max_remembered (burst x)))) → r ≡ average_within x
    behind_none r e = rw (ne_eqb x.window 0 some) e

    pub window_high : max_window < x.window → false ≡ average_within x
    window_high h = behind_none false (fails (leb x.window max_window) _ (lt-leb x.window max_window h))

    module _ (w : x.window ≤ max_window) where
      pub average_low : x.average < x.gap → false ≡ average_within x
      average_low h = behind_none false (goes_on (leb x.window max_window) _ false (le-leb x.window max_window w) (fails (leb x.gap x.average) _ (lt-leb x.gap x.average h)))

      module _ (g : x.gap ≤ x.average) where
        behind_gap : (r : Bool) → r ≡ (eqb (x.window % x.average) 0 && within 1 max_remembered (burst x)) → r ≡ average_within x
        behind_gap r e = behind_none r (goes_on (leb x.window max_window) _ r (le-leb x.window max_window w) (goes_on (leb x.gap x.average) _ r (le-leb x.gap x.average g) e))

        pub uneven : (x.window % x.average ≡ 0 → ⊥) → false ≡ average_within x
        uneven n = behind_gap false (fails (eqb (x.window % x.average) 0) _ (ne_eqb (x.window % x.average) 0 n))

        pub burst_rest : x.window % x.average ≡ 0 → within 1 max_remembered (x.window / x.average) ≡ average_within x
        unfolding burst
        burst_rest e = behind_gap (within 1 max_remembered (x.window / x.average)) (goes_on (eqb (x.window % x.average) 0) _ _ (eq-eqb (x.window % x.average) 0 e) refl)

-- ---- a kind

or_false : (b : Bool) → b ≡ (b || false)
or_false true = refl
or_false false = refl

module _ (x : Connection) where
  -- by its gap
  module _ (z : x.kind ≡ 0) where
    by_gap : (r : Bool) → r ≡ (eqb x.allowance 0 && average_within x) → r ≡ kind_within x
    by_gap r e = rw (eq-eqb x.kind 0 z, other) (e ∙ or_false (eqb x.allowance 0 && average_within x))
      where
        other : eqb x.kind 1 ≡ false
        other = ne_eqb x.kind 1 (omega arith)

    pub allowance_none : (x.allowance ≡ 0 → ⊥) → false ≡ kind_within x
    allowance_none n = by_gap false (fails (eqb x.allowance 0) _ (ne_eqb x.allowance 0 n))

    pub average_rest : x.allowance ≡ 0 → (r : Bool) → r ≡ average_within x → r ≡ kind_within x
    average_rest a r e = by_gap r (goes_on (eqb x.allowance 0) _ r (eq-eqb x.allowance 0 a) e)

  -- by stamps
  module _ (n : x.kind ≡ 0 → ⊥) where
    not_by_gap : (r : Bool) → r ≡ (eqb x.kind 1 && (leb x.allowance max_allowance && (eqb x.window 0 && eqb x.average 0))) → r ≡ kind_within x
    not_by_gap r e = rw (ne_eqb x.kind 0 n) e

    pub no_kind : (x.kind ≡ 1 → ⊥) → false ≡ kind_within x
    no_kind m = not_by_gap false (fails (eqb x.kind 1) _ (ne_eqb x.kind 1 m))

    module _ (o : x.kind ≡ 1) where
      by_stamps : (r : Bool) → r ≡ (leb x.allowance max_allowance && (eqb x.window 0 && eqb x.average 0)) → r ≡ kind_within x
      by_stamps r e = not_by_gap r (goes_on (eqb x.kind 1) _ r (eq-eqb x.kind 1 o) e)

      pub allowance_high : max_allowance < x.allowance → false ≡ kind_within x
      allowance_high h = by_stamps false (fails (leb x.allowance max_allowance) _ (lt-leb x.allowance max_allowance h))

      pub no_average_rest : x.allowance ≤ max_allowance → (eqb x.window 0 && eqb x.average 0) ≡ kind_within x
      no_average_rest h = by_stamps _ (goes_on (leb x.allowance max_allowance) _ _ (le-leb x.allowance max_allowance h) refl)

-- ---- a link

module _ (l : Link) where
  pub levels_out : within 1 max_levels l.levels ≡ false → false ≡ link_within l
  unfolding link_within
  levels_out e = fails (within 1 max_levels l.levels) _ e

  module _ (n : within 1 max_levels l.levels ≡ true) where
    pub largest_out : within 1 max_largest l.largest ≡ false → false ≡ link_within l
    unfolding link_within
    largest_out e = goes_on (within 1 max_levels l.levels) _ false n (fails (within 1 max_largest l.largest) _ e)

    module _ (e : within 1 max_largest l.largest ≡ true) where
      behind : (r : Bool) → r ≡ (leb l.silence max_silence && (leb l.early 1 && (rising (cost l l.largest) l.levels l.bounds && windows_within l))) → r ≡ link_within l
      unfolding link_within
      behind r h = goes_on (within 1 max_levels l.levels) _ r n (goes_on (within 1 max_largest l.largest) _ r e h)

      pub silence_out : max_silence < l.silence → false ≡ link_within l
      silence_out h = behind false (fails (leb l.silence max_silence) _ (lt-leb l.silence max_silence h))

      module _ (k : l.silence ≤ max_silence) where
        behind_silence : (r : Bool) → r ≡ (leb l.early 1 && (rising (l.largest + l.silence) l.levels l.bounds && windows_within l)) → r ≡ link_within l
        unfolding cost
        behind_silence r h = behind r (goes_on (leb l.silence max_silence) _ r (le-leb l.silence max_silence k) h)

        pub early_out : 1 < l.early → false ≡ link_within l
        early_out h = behind_silence false (fails (leb l.early 1) _ (lt-leb l.early 1 h))

        module _ (j : l.early ≤ 1) where
          behind_early : (r : Bool) → r ≡ (rising (l.largest + l.silence) l.levels l.bounds && windows_within l) → r ≡ link_within l
          behind_early r h = behind_silence r (goes_on (leb l.early 1) _ r (le-leb l.early 1 j) h)

          pub bounds_out : rising (l.largest + l.silence) l.levels l.bounds ≡ false → false ≡ link_within l
          bounds_out h = behind_early false (fails (rising (l.largest + l.silence) l.levels l.bounds) _ h)

          pub windows_rest : rising (l.largest + l.silence) l.levels l.bounds ≡ true → (r : Bool) → r ≡ windows_within l → r ≡ link_within l
          windows_rest e r h = behind_early r (goes_on (rising (l.largest + l.silence) l.levels l.bounds) _ r e h)

-- ---- bounds

-- past the n-th bound: zeros, whatever came before
rising_zeros : (low : ℕ) (ds : List ℕ) → rising low 0 ds ≡ zeros ds
rising_zeros low [] = refl
rising_zeros low (d ∷ ds) = ap (λ (b : Bool). eqb d 0 && b) (rising_zeros low ds)

-- the i-th of them, looked at among the first n
module _ (low n i : ℕ) (ds : List ℕ) (h : i < length (take n ds)) where
  abbrev it : ℕ
  it = get_or (take n ds) i 0

  here : rising low (n - i) (drop i ds) ≡ (within low max_bound it && rising (it + 1) (n - (i + 1)) (drop (i + 1) ds))
  here =
      let e : n - i ≡ suc (n - (i + 1)) = omega (arith, length-take n ds) in
      let l : i < n = omega (arith, length-take n ds) in
      rw (get_or-take n ds i 0 l, e, drop-cons ds i 0 (omega (arith, length-take n ds)), and_assoc (leb low (get_or ds i 0)), add-one i, add-one (get_or ds i 0)) refl

  pub bound_out : within low max_bound it ≡ false → false ≡ rising low (n - i) (drop i ds)
  bound_out e = fails (within low max_bound it) _ e ∙ sym here

  pub bound_next : within low max_bound it ≡ true → rising (it + 1) (n - (i + 1)) (drop (i + 1) ds) ≡ rising low (n - i) (drop i ds)
  bound_next e = goes_on (within low max_bound it) _ _ e refl ∙ sym here

pub bounds_end : (low n i : ℕ) (ds : List ℕ) → i ≡ n → zeros (drop n ds) ≡ rising low (n - i) (drop i ds)
bounds_end low n i ds e =
    let z : n - i ≡ 0 = omega arith in
    rw (z, e) (sym (rising_zeros low (drop n ds)))

-- ---- windows

-- a window is within its limits: not below its bound
abbrev pub window_fits : ℕ × ℕ → Bool
window_fits p = within p.0 max_level_window p.1

-- the first n of each fit, and the windows behind them are zeros
windows_fit : (n : ℕ) (ds ws : List ℕ) → n ≤ length ds → n ≤ length ws → (list_all window_fits (zip (take n ds) (take n ws)) && zeros (drop n ws)) ≡ windows_from n ds ws
windows_fit zero ds [] h k = refl
windows_fit zero ds (w ∷ ws) h k = ap (λ (b : Bool). eqb w 0 && b) (windows_fit zero ds ws (omega arith) (omega arith))
windows_fit (suc n) [] ws h k = absurd (omega arith)
windows_fit (suc n) (d ∷ ds) [] h k = absurd (omega arith)
windows_fit (suc n) (d ∷ ds) (w ∷ ws) h k =
    let ih = windows_fit n ds ws (omega arith) (omega arith) in
    rw (and_assoc (window_fits (d, w)), ih, and_assoc (leb d w)) refl

module _ (n : ℕ) (ds ws : List ℕ) (h : n ≤ length ds) (k : n ≤ length ws) where
  pub all_fit : list_all window_fits (zip (take n ds) (take n ws)) ≡ true → zeros (drop n ws) ≡ windows_from n ds ws
  all_fit e = rw e at (windows_fit n ds ws h k)

  pub one_not : list_all window_fits (zip (take n ds) (take n ws)) ≡ false → false ≡ windows_from n ds ws
  one_not e = rw e at (windows_fit n ds ws h k)

module _ (l : Link) where
  -- the first window tells whether there are any
  pub with_none : get_or l.windows 0 0 ≡ 0 → windows_from 0 l.bounds l.windows ≡ windows_within l
  unfolding windowed windows_within
  with_none e = rw (le-ltb 0 (get_or l.windows 0 0) (omega arith))

  pub with_own : (get_or l.windows 0 0 ≡ 0 → ⊥) → windows_from l.levels l.bounds l.windows ≡ windows_within l
  unfolding windowed windows_within
  with_own n = rw (lt-ltb 0 (get_or l.windows 0 0) (omega (arith, n)))
