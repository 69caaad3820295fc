-- Links: how many bounds there are, and windows, is one of their numbers.
use Rattle.std.specs.Prelude.{None}
use mathlib.Core.Path.{◌≡◌, refl, sym, ap, ◌∙◌, subst}
use mathlib.Core.Bool.{Bool, true, false, cond, ◌&&◌, ◌||◌}
use mathlib.Core.List.{List, [], ◌∷◌, ◌++◌, append_assoc}
use Prim.Native.Nat.{ℕ, zero, suc, ◌+◌, ◌*◌, ◌-◌, ◌<◌, ◌≤◌}
use native.Mathlib.Omega.{arith}
use borrow.Author.Tests.{le-leb, lt-leb, leb-true, ltb-true, ltb-false}
use lib.ListN.{length, get_or, take, drop, replicate, length-replicate, length-append}
use native.Mathlib.Numerals.{add-one}
use lib.Dec.{leb, ltb, eqb}
use Rattle.std.specs.List.{list_all}
use Rattle.fields.specs.Numbers.{little, number, put_fields, get_fields, sum, none_lost}
use Rattle.traces.specs.Kinds.{levels, eight, LK, LE, LW}
use Rattle.traces.specs.declared.Record.{Record}
use Rattle.traces.specs.declared.Record.TheVariants.{Link, LinkStandBy, LinkWindows}
use Rattle.fields.specs.Formats.{read_kind}
use Rattle.fields.proofs.Parts.{whole}
use Rattle.fields.proofs.MarkLaws.{both}
use Rattle.fields.proofs.NumberLaws.{one_byte, length_get, get_both, sum_both, sum_pairs, pair_within, pair_past}

abbrev pub levels_allowed : ℕ → Bool
levels_allowed n = leb 1 n && leb n 8

-- Which n are allowed behind the mark.
pub small_unallowed : (n : ℕ) → n < 1 → levels_allowed n ≡ false
small_unallowed n h = let z : n ≡ 0 = omega arith in rw z

pub large_unallowed : (n : ℕ) → 8 < n → levels_allowed n ≡ false
large_unallowed n h = rw (le-leb 1 n (omega arith), lt-leb n 8 h)

pub range_allowed : (n : ℕ) → 1 ≤ n → n ≤ 8 → levels_allowed n ≡ true
range_allowed n h k = rw (le-leb 1 n h, le-leb n 8 k)

pub allowed_range : (n : ℕ) → levels_allowed n ≡ true → (1 ≤ n) × (n ≤ 8)
allowed_range n h =
    let t = both (leb 1 n) (leb n 8) h in
    (leb-true 1 n t.0, leb-true n 8 t.1)

-- The lengths of an `LK`, of an `LE` and of an `LW`.
sum_zeros : (n : ℕ) → sum (replicate n 0) ≡ 0
unfolding sum
sum_zeros zero = refl
sum_zeros (suc n) = omega (arith, sum_zeros n)

sum_levels : (n : ℕ) → sum (levels n) ≡ 2 * n
sum_levels n = omega (arith, sum_both (replicate n 2) (replicate (8 - n) 0), sum_pairs n, sum_zeros (8 - n))

pub sum_link : (n : ℕ) → 2 + sum (LK.widths n) ≡ 6 + 2 * n
unfolding sum
sum_link n = omega (arith, sum_levels n)

pub sum_stand_by : (n : ℕ) → 2 + sum (LE.widths n) ≡ 7 + 2 * n
unfolding sum
sum_stand_by n = omega (arith, sum_levels n)

pub sum_windows : (n : ℕ) → 2 + sum (LW.widths n) ≡ 7 + 4 * n
unfolding sum
sum_windows n = omega (arith, sum_both (levels n) (levels n), sum_levels n)

-- What is read of the levels: the numbers of the first n, and 0 past them.
zeros_got : (m : ℕ) (bs : List ℕ) (at : ℕ) → get_fields (replicate m 0) bs at ≡ replicate m 0
unfolding get_fields number
zeros_got zero bs at = refl
zeros_got (suc m) bs at = ap (λ l. 0 ∷ l) (zeros_got m bs (at + 0))

levels_got : (n : ℕ) (bs : List ℕ) (at : ℕ) → get_fields (levels n) bs at ≡ get_fields (replicate n 2) bs at ++ replicate (8 - n) 0
levels_got n bs at =
    get_both (replicate n 2) (replicate (8 - n) 0) bs at
    ∙ ap (λ l. get_fields (replicate n 2) bs at ++ l) (zeros_got (8 - n) bs (at + sum (replicate n 2)))

padded_same : (xs : List ℕ) (m i : ℕ) → get_or (xs ++ replicate m 0) i 0 ≡ get_or xs i 0
padded_same [] zero i = refl
padded_same [] (suc m) zero = refl
padded_same [] (suc m) (suc i) = padded_same [] m i
padded_same (x ∷ xs) m zero = refl
padded_same (x ∷ xs) m (suc i) = padded_same xs m i

-- .. as the code has them: the k-th, where it is one of the first n
abbrev pub level : ℕ → List ℕ → ℕ → ℕ → ℕ
level n bs at k = cond (ltb k n) (number 2 bs (at + 2 * k)) 0

level_got : (n : ℕ) (bs : List ℕ) (at k : ℕ) → get_or (get_fields (levels n) bs at) k 0 ≡ level n bs at k
level_got n bs at k =
    ap (λ l. get_or l k 0) (levels_got n bs at) ∙ padded_same (get_fields (replicate n 2) bs at) (8 - n) k ∙ go (ltb k n) refl
  where
    go : (b : Bool) → ltb k n ≡ b → get_or (get_fields (replicate n 2) bs at) k 0 ≡ cond b (number 2 bs (at + 2 * k)) 0
    go true e = pair_within n k bs at (ltb-true k n e)
    go false e = pair_past n k bs at (ltb-false k n e)

eight_got : (n : ℕ) (bs : List ℕ) (at : ℕ) → eight 0 (level n bs at) ≡ eight 0 (λ k. get_or (get_fields (levels n) bs at) k 0)
eight_got n bs at =
    rw (
      level_got n bs at 0,
      level_got n bs at 1,
      level_got n bs at 2,
      level_got n bs at 3,
      level_got n bs at 4,
      level_got n bs at 5,
      level_got n bs at 6,
      level_got n bs at 7,
    )

-- There are eight levels.
count_levels : (n : ℕ) → n ≤ 8 → length (levels n) ≡ 8
count_levels n h = omega (arith, length-append {A = ℕ} (replicate n 2) (replicate (8 - n) 0), length-replicate {A = ℕ} n 2, length-replicate {A = ℕ} (8 - n) 0)

pub length_levels : (bs : List ℕ) → levels_allowed (get_or bs 2 0) ≡ true → (at : ℕ) → length (get_fields (levels (get_or bs 2 0)) bs at) ≡ 8
length_levels bs a at = length_get (levels (get_or bs 2 0)) bs at ∙ count_levels (get_or bs 2 0) (allowed_range (get_or bs 2 0) a).1

pub length_both : (bs : List ℕ) → levels_allowed (get_or bs 2 0) ≡ true → (at : ℕ)
    → length (get_fields (levels (get_or bs 2 0) ++ levels (get_or bs 2 0)) bs at) ≡ 16
length_both bs a at =
    let n = get_or bs 2 0 in
    omega (arith, length_get (levels n ++ levels n) bs at, length-append (levels n) (levels n), count_levels n (allowed_range n a).1)

-- A list of so many numbers, number by number.
unfoldable spread : ℕ → ℕ → List ℕ → List ℕ
spread zero i xs = []
spread (suc k) i xs = get_or xs i 0 ∷ spread k (i + 1) xs

spread_on : (k i x : ℕ) (xs : List ℕ) → spread k (i + 1) (x ∷ xs) ≡ spread k i xs
unfolding spread
spread_on zero i x xs = refl
spread_on (suc k) i x xs = rw (add-one i) (ap (λ l. get_or xs i 0 ∷ l) (rw (add-one i) at (spread_on k (i + 1) x xs)))

spread_all : (xs : List ℕ) → spread (length xs) 0 xs ≡ xs
unfolding spread
spread_all [] = refl
spread_all (x ∷ xs) = ap (λ l. x ∷ l) (spread_on (length xs) 0 x xs ∙ spread_all xs)

pub eight_of : (xs : List ℕ) → length xs ≡ 8
    → get_or xs 0 0 ∷ get_or xs 1 0 ∷ get_or xs 2 0 ∷ get_or xs 3 0 ∷ get_or xs 4 0 ∷ get_or xs 5 0 ∷ get_or xs 6 0 ∷ get_or xs 7 0 ∷ [] ≡ xs
unfolding spread
eight_of xs e = ap (λ n. spread n 0 xs) (sym e) ∙ spread_all xs

pub sixteen_of : (xs : List ℕ) → length xs ≡ 16
    → get_or xs 0 0 ∷ get_or xs 1 0 ∷ get_or xs 2 0 ∷ get_or xs 3 0 ∷ get_or xs 4 0 ∷ get_or xs 5 0 ∷ get_or xs 6 0 ∷ get_or xs 7 0
    ∷ get_or xs 8 0 ∷ get_or xs 9 0 ∷ get_or xs 10 0 ∷ get_or xs 11 0 ∷ get_or xs 12 0 ∷ get_or xs 13 0 ∷ get_or xs 14 0 ∷ get_or xs 15 0 ∷ []
    ≡ xs
unfolding spread
sixteen_of xs e = ap (λ n. spread n 0 xs) (sym e) ∙ spread_all xs

-- The first eight of sixteen numbers, and the last.
pub first_eight : (xs ys : List ℕ) → length xs ≡ 8 → eight 0 (λ k. get_or (xs ++ ys) k 0) ≡ eight 0 (λ k. get_or xs k 0)
first_eight xs ys e = subst (λ l. eight 0 (λ k. get_or (l ++ ys) k 0) ≡ eight 0 (λ k. get_or l k 0)) (eight_of xs e) refl

pub last_eight : (xs ys : List ℕ) → length xs ≡ 8 → eight 8 (λ k. get_or (xs ++ ys) k 0) ≡ eight 0 (λ k. get_or ys k 0)
last_eight xs ys e = subst (λ l. eight 8 (λ k. get_or (l ++ ys) k 0) ≡ eight 0 (λ k. get_or ys k 0)) (eight_of xs e) refl

-- What is read of each.
pub link_read : (bs : List ℕ) (n : ℕ) → n ≡ number 1 bs 2
    → cond (levels_allowed n) (whole (6 + 2 * n) (Link n (number 2 bs 3) (number 1 bs 5) (eight 0 (level n bs 6))) bs) None
    ≡ read_kind LK (get_or bs 2 0) bs
unfolding read_kind get_fields
link_read bs n e =
    rw (← one_byte bs 2, ← e, sum_link n)
    (ap (λ ds. cond (levels_allowed n) (whole (6 + 2 * n) (Link n (number 2 bs 3) (number 1 bs 5) ds) bs) None) (eight_got n bs 6))

pub stand_by_read : (bs : List ℕ) (n : ℕ) → n ≡ number 1 bs 2
    → cond (levels_allowed n) (whole (7 + 2 * n) (LinkStandBy n (number 2 bs 3) (number 1 bs 5) (number 1 bs 6) (eight 0 (level n bs 7))) bs) None
    ≡ read_kind LE (get_or bs 2 0) bs
unfolding read_kind get_fields
stand_by_read bs n e =
    rw (← one_byte bs 2, ← e, sum_stand_by n)
    (ap (λ ds. cond (levels_allowed n) (whole (7 + 2 * n) (LinkStandBy n (number 2 bs 3) (number 1 bs 5) (number 1 bs 6) ds) bs) None) (eight_got n bs 7))

module _ (bs : List ℕ) (n : ℕ) (few : n ≤ 8) where
  abbrev xs : List ℕ
  xs = get_fields (levels n) bs 7

  abbrev ys : List ℕ
  ys = get_fields (levels n) bs (7 + 2 * n)

  both_got : xs ++ ys ≡ get_fields (levels n ++ levels n) bs 7
  both_got = sym (get_both (levels n) (levels n) bs 7 ∙ ap (λ m. xs ++ get_fields (levels n) bs (7 + m)) (sum_levels n))

  eight_first : length xs ≡ 8
  eight_first = length_get (levels n) bs 7 ∙ count_levels n few

  bounds_got : eight 0 (level n bs 7) ≡ eight 0 (λ k. get_or (get_fields (levels n ++ levels n) bs 7) k 0)
  bounds_got = eight_got n bs 7 ∙ sym (first_eight xs ys eight_first) ∙ ap (λ l. eight 0 (λ k. get_or l k 0)) both_got

  windows_got : eight 0 (level n bs (7 + 2 * n)) ≡ eight 8 (λ k. get_or (get_fields (levels n ++ levels n) bs 7) k 0)
  windows_got = eight_got n bs (7 + 2 * n) ∙ sym (last_eight xs ys eight_first) ∙ ap (λ l. eight 8 (λ k. get_or l k 0)) both_got

pub windows_read : (bs : List ℕ) (n : ℕ) → n ≡ number 1 bs 2
    → cond (levels_allowed n)
    (whole (7 + 2 * n + 2 * n)
    (LinkWindows n (number 2 bs 3) (number 1 bs 5) (number 1 bs 6) (eight 0 (level n bs 7)) (eight 0 (level n bs (7 + 2 * n)))) bs) None
    ≡ read_kind LW (get_or bs 2 0) bs
unfolding read_kind get_fields
windows_read bs n e =
    let four : 7 + 2 * n + 2 * n ≡ 7 + 4 * n = omega arith in
    rw (← one_byte bs 2, ← e, sum_windows n, four) (go (levels_allowed n) refl)
  where
    made : List ℕ → List ℕ → Record
    made ds ws = LinkWindows n (number 2 bs 3) (number 1 bs 5) (number 1 bs 6) ds ws

    both : List ℕ
    both = get_fields (levels n ++ levels n) bs 7

    go : (t : Bool) → levels_allowed n ≡ t
        → cond t (whole (7 + 4 * n) (made (eight 0 (level n bs 7)) (eight 0 (level n bs (7 + 2 * n)))) bs) None
        ≡ cond t (whole (7 + 4 * n) (made (eight 0 (λ k. get_or both k 0)) (eight 8 (λ k. get_or both k 0))) bs) None
    go false a = refl
    go true a = let few = (allowed_range n a).1 in rw (bounds_got bs n few, windows_got bs n few)

-- Of the levels the numbers past n have no byte: none of them is lost where all are 0, and nothing is put of them.
split_lost : (n m : ℕ) (ds : List ℕ) → length ds ≡ n + m → none_lost (replicate n 2 ++ replicate m 0) ds ≡ list_all (λ d. eqb d 0) (drop n ds)
unfolding none_lost
split_lost zero zero [] e = refl
split_lost zero zero (d ∷ ds) e = absurd (omega arith)
split_lost zero (suc m) [] e = absurd (omega arith)
split_lost zero (suc m) (d ∷ ds) e = ap (λ t. eqb d 0 && t) (split_lost zero m ds (omega arith))
split_lost (suc n) m [] e = absurd (omega arith)
split_lost (suc n) m (d ∷ ds) e = split_lost n m ds (omega arith)

pub levels_lost : (n : ℕ) (ds : List ℕ) → length ds ≡ 8 → n ≤ 8 → none_lost (levels n) ds ≡ list_all (λ d. eqb d 0) (drop n ds)
levels_lost n ds e few = split_lost n (8 - n) ds (omega arith)

and_assoc : (a b c : Bool) → (a && (b && c)) ≡ ((a && b) && c)
and_assoc true b c = refl
and_assoc false b c = refl

lost_both : (ws vs xs ys : List ℕ) → length xs ≡ length ws → none_lost (ws ++ vs) (xs ++ ys) ≡ (none_lost ws xs && none_lost vs ys)
unfolding none_lost
lost_both [] vs [] ys e = refl
lost_both [] vs (x ∷ xs) ys e = absurd (omega arith)
lost_both (w ∷ ws) vs [] ys e = absurd (omega arith)
lost_both (w ∷ ws) vs (x ∷ xs) ys e =
    ap (λ t. (ltb 0 w || eqb x 0) && t) (lost_both ws vs xs ys (omega arith)) ∙ and_assoc (ltb 0 w || eqb x 0) (none_lost ws xs) (none_lost vs ys)

-- What is tested of an `LW` is what is tested of its bounds, and of its windows.
pub both_tested : (n : ℕ) (ds ws : List ℕ) → length ds ≡ 8
    → (levels_allowed n && none_lost (levels n ++ levels n) (ds ++ ws)) ≡ ((levels_allowed n && none_lost (levels n) ds) && (levels_allowed n && none_lost (levels n) ws))
both_tested n ds ws e = go (levels_allowed n) refl
  where
    go : (t : Bool) → levels_allowed n ≡ t
        → (t && none_lost (levels n ++ levels n) (ds ++ ws)) ≡ ((t && none_lost (levels n) ds) && (t && none_lost (levels n) ws))
    go true a = lost_both (levels n) (levels n) ds ws (e ∙ sym (count_levels n (allowed_range n a).1))
    go false a = refl

put_zeros : (m : ℕ) (ds : List ℕ) → put_fields (replicate m 0) ds ≡ []
unfolding put_fields little
put_zeros zero ds = refl
put_zeros (suc m) ds = put_zeros m (drop 1 ds)

put_split : (n m : ℕ) (ds : List ℕ) → n ≤ length ds → put_fields (replicate n 2 ++ replicate m 0) ds ≡ put_fields (replicate n 2) (take n ds)
unfolding put_fields
put_split zero m ds h = put_zeros m ds
put_split (suc n) m [] h = absurd (omega arith)
put_split (suc n) m (d ∷ ds) h = ap (λ l. little 2 d ++ l) (put_split n m ds (omega arith))

put_both : (ws xs vs ys : List ℕ) → length xs ≡ length ws → put_fields (ws ++ vs) (xs ++ ys) ≡ put_fields ws xs ++ put_fields vs ys
unfolding put_fields
put_both [] [] vs ys e = refl
put_both [] (x ∷ xs) vs ys e = absurd (omega arith)
put_both (w ∷ ws) [] vs ys e = absurd (omega arith)
put_both (w ∷ ws) (x ∷ xs) vs ys e =
    ap (λ l. little w x ++ l) (put_both ws xs vs ys (omega arith)) ∙ sym (append_assoc (little w x) (put_fields ws xs) (put_fields vs ys))

-- The numbers of the levels, put behind one another.
pub levels_put : (n : ℕ) (ds : List ℕ) → length ds ≡ 8 → n ≤ 8 → put_fields (levels n) ds ≡ put_fields (replicate n 2) (take n ds)
levels_put n ds e few = put_split n (8 - n) ds (omega arith)

pub both_put : (n : ℕ) (ds ws : List ℕ) → length ds ≡ 8 → length ws ≡ 8 → n ≤ 8
    → put_fields (levels n ++ levels n) (ds ++ ws) ≡ put_fields (replicate n 2) (take n ds) ++ put_fields (replicate n 2) (take n ws)
both_put n ds ws e f few =
    put_both (levels n) ds (levels n) ws (e ∙ sym (count_levels n few)) ∙ rw (levels_put n ds e few, levels_put n ws f few)

-- Bytes behind one another.
pub in_order : (m a b c d : List ℕ) → (((m ++ a) ++ b) ++ c) ++ d ≡ m ++ (a ++ (b ++ (c ++ d)))
in_order m a b c d = simp append_assoc

pub behind : (m a b c d x y : List ℕ) → (m ++ (a ++ (b ++ (c ++ (d ++ x))))) ++ y ≡ m ++ (a ++ (b ++ (c ++ (d ++ (x ++ y)))))
behind m a b c d x y = simp append_assoc
