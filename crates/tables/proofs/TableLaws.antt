-- Laws of reading and writing a table, for rows of any width.
use mathlib.Core.Path.{◌≡◌, refl, sym, ap, ◌∙◌}
use mathlib.Core.Bool.{Bool, true, false, cond}
use mathlib.Core.Logic.{◌⊎◌, inl, inr}
use mathlib.Core.List.{List, [], ◌∷◌, ◌++◌, map, append_assoc, append-nil}
use Prim.Native.Nat.{ℕ, zero, suc, ◌+◌, ◌*◌, ◌-◌, ◌/◌, ◌≤◌, ◌<◌, suc-le-suc}
use native.Mathlib.Nat.{le_of_suc-le-suc, mul-zero, mul-suc, mul-le-mul_left, mul-div-le, mul-add-div, le_trans}
use native.Mathlib.Omega.{arith}
use lib.Dec.{eqb}
use borrow.Author.Tests.{eqb-true, eq-eqb, ne_eqb}
use lib.ListN.{length, get_or, set, take, drop, replicate, length-append, length-drop, length-map, length-replicate, take-append-drop, get_or-map}
use lib.Seq.{paste, sets, sets-eq, set_split, take-length, take_at, drop_at, drop-drop, drop-cons, length-take-le, get_or-take, get_or-drop}
use Rattle.rules.specs.Words.{All, each}
use Rattle.rules.proofs.Lists.{all_every}
use Rattle.rules.proofs.Tests.{never, and_true, and_intro}
use Rattle.rules.proofs.Sums.{split, cond_is}
use Rattle.limits.specs.Zeros.{zeros}
use Rattle.limits.proofs.ZeroLaws.{zeros_are, zeros_rep, zero_at, zeros_left, drop_zeros, zeros_parts}
use Rattle.tables.specs.Table.{row_in, rows_in, numbers, until, used, read, formed, write, padded}

-- ---- a row, number by number

abbrev pub listed : ℕ → (ℕ → ℕ) → List ℕ
listed zero f = []
listed (suc n) f = f 0 ∷ listed n (λ k. f (suc k))

listed_all : (r : List ℕ) → listed (length r) (λ k. get_or r k 0) ≡ r
listed_all [] = refl
listed_all (x ∷ r) = ap (λ (l : List ℕ). x ∷ l) (listed_all r)

pub listed_row : (w : ℕ) (r : List ℕ) → length r ≡ w → listed w (λ k. get_or r k 0) ≡ r
listed_row w r e = ap (λ (n : ℕ). listed n (λ k. get_or r k 0)) (sym e) ∙ listed_all r

-- ---- the first n numbers of a row

pub numbers_all : (n : ℕ) (l : List ℕ) → length l ≡ n → numbers n l ≡ l
numbers_all zero [] e = refl
numbers_all zero (x ∷ l) e = absurd (omega arith)
numbers_all (suc n) [] e = absurd (omega arith)
numbers_all (suc n) (x ∷ l) e = ap (λ (k : List ℕ). x ∷ k) (numbers_all n l (omega arith))

pub length_numbers : (n : ℕ) (l : List ℕ) → length (numbers n l) ≡ n
length_numbers zero l = refl
length_numbers (suc n) l = ap suc (length_numbers n (drop 1 l))

-- of a row that is not longer: it, and zeros behind it
pub numbers_front : (n : ℕ) (l : List ℕ) → length l ≤ n → take (length l) (numbers n l) ≡ l
numbers_front n [] h = refl
numbers_front zero (x ∷ l) h = absurd (omega arith)
numbers_front (suc n) (x ∷ l) h = ap (λ (k : List ℕ). x ∷ k) (numbers_front n l (omega arith))

numbers_none : (n : ℕ) → numbers n [] ≡ replicate n 0
numbers_none zero = refl
numbers_none (suc n) = ap (λ (k : List ℕ). 0 ∷ k) (numbers_none n)

pub numbers_zero : (n : ℕ) (l : List ℕ) → length l ≤ n → zeros (drop (length l) (numbers n l)) ≡ true
numbers_zero n [] h = ap zeros (numbers_none n) ∙ zeros_rep n
numbers_zero zero (x ∷ l) h = absurd (omega arith)
numbers_zero (suc n) (x ∷ l) h = numbers_zero n l (omega arith)

-- of the first k of n numbers, where zeros are behind them: all n
pub numbers_again : (k n : ℕ) (l : List ℕ) → length l ≡ n → zeros (drop k l) ≡ true → numbers n (take k l) ≡ l
numbers_again zero n l e z = numbers_none n ∙ sym (zeros_are l z ∙ zeros_left (length l) n e)
numbers_again (suc k) zero [] e z = refl
numbers_again (suc k) zero (x ∷ l) e z = absurd (omega arith)
numbers_again (suc k) (suc n) [] e z = absurd (omega arith)
numbers_again (suc k) (suc n) (x ∷ l) e z = ap (λ (r : List ℕ). x ∷ r) (numbers_again k n l (omega arith) z)

-- ---- a copy

pub copied : (t s : List ℕ) (at : ℕ) → at + length s ≤ length t → paste t at s (length s) ≡ sets t at s
copied t s at h = ap (λ (l : List ℕ). take at t ++ l ++ drop (at + length s) t) (take-length s) ∙ sym (sets-eq s t at h)

-- ---- rows of a table

module _ (w : ℕ) where
  next_row : (n : ℕ) (t : List ℕ) → drop (w * n) (drop w t) ≡ drop (w * suc n) t
  next_row n t = let e : w + w * n ≡ w * suc n = omega (arith, mul-suc w n) in drop-drop (w * n) w t ∙ ap (λ (k : ℕ). drop k t) e

  pub length_rows : (n : ℕ) (t : List ℕ) → length (rows_in w n t) ≡ n
  length_rows zero t = refl
  length_rows (suc n) t = ap suc (length_rows n (drop w t))

  -- a row lies where its number says
  pub rows_in_at : (n : ℕ) (t : List ℕ) (i : ℕ) (d : List ℕ) → i < n → get_or (rows_in w n t) i d ≡ row_in w t i
  rows_in_at zero t i d h = absurd (omega arith)
  rows_in_at (suc n) t zero d h = ap (λ (k : ℕ). take w (drop k t)) (sym (mul-zero w))
  rows_in_at (suc n) t (suc i) d h = rows_in_at n (drop w t) i d (le_of_suc-le-suc h) ∙ ap (take w) (next_row i t)

  zero_rows : (n : ℕ) (t : List ℕ) → zeros t ≡ true → each zeros (rows_in w n t) ≡ true
  zero_rows zero t h = refl
  zero_rows (suc n) t h = let k = zeros_parts w t h in and_intro (zeros (take w t)) (each zeros (rows_in w n (drop w t))) k.0 (zero_rows n (drop w t) k.1)

  take_first : (n k : ℕ) (t : List ℕ) → k ≤ n → take k (rows_in w n t) ≡ rows_in w k t
  take_first n zero t h = refl
  take_first zero (suc k) t h = absurd (omega arith)
  take_first (suc n) (suc k) t h = ap (λ (l : List (List ℕ)). take w t ∷ l) (take_first n k (drop w t) (le_of_suc-le-suc h))

  pub length_row : (t : List ℕ) (i : ℕ) → w * i + w ≤ length t → length (row_in w t i) ≡ w
  length_row t i h = length-take-le w (drop (w * i) t) (omega (arith, length-drop (w * i) t))

  pub number_in : (t : List ℕ) (i k : ℕ) → k < w → get_or (row_in w t i) k 0 ≡ get_or t (w * i + k) 0
  number_in t i k h = get_or-take w (drop (w * i) t) k 0 h ∙ get_or-drop (w * i) t k 0

  -- the rows fit into the table
  rows_fit : (t : List ℕ) (n : ℕ) → n ≤ length t / w → w * n ≤ length t
  rows_fit t n h = le_trans (mul-le-mul_left w h) (mul-div-le (length t) w)

  pub row_fits : (t : List ℕ) (i : ℕ) → i < length t / w → w * i + w ≤ length t
  row_fits t i h = omega (arith, rows_fit t (suc i) h, mul-suc w i)

-- .. and so does what is read of it
pub made_at : {A : Type 0} (w n : ℕ) (make : List ℕ → A) (t : List ℕ) (i : ℕ) → i < n → get_or (map make (rows_in w n t)) i (make []) ≡ make (row_in w t i)
made_at w n make t i h = get_or-map make (rows_in w n t) i [] ∙ ap make (rows_in_at w n t i [] h)

-- ---- the rows in use

-- a row that is none of them, and all behind it
abbrev ends : List (List ℕ) → Bool
ends rs = eqb (get_or (get_or rs 0 []) 1 0) 0

-- the whole rows of a table
abbrev whole : ℕ → List ℕ → List (List ℕ)
whole w t = rows_in w (length t / w) t

until_first : (rs : List (List ℕ)) → until rs ≡ take (length (until rs)) rs
until_first [] = refl
until_first (r ∷ rs) = go (ends (r ∷ rs)) (until_first rs)
  where
    go : (u : Bool) → until rs ≡ take (length (until rs)) rs → cond u [] (r ∷ until rs) ≡ take (length (cond u [] (r ∷ until rs))) (r ∷ rs)
    go true h = refl
    go false h = ap (λ (l : List (List ℕ)). r ∷ l) h

until_le : (rs : List (List ℕ)) → length (until rs) ≤ length rs
until_le [] = omega arith
until_le (r ∷ rs) = go (ends (r ∷ rs)) (until_le rs)
  where
    go : (u : Bool) → length (until rs) ≤ length rs → length (cond u [] (r ∷ until rs)) ≤ length (r ∷ rs)
    go true h = omega arith
    go false h = omega arith

-- the place where they end is the first
until_stop : (rs : List (List ℕ)) (i : ℕ) → i ≤ length (until rs) → (i < length rs → ends (drop i rs) ≡ true) → length (until rs) ≡ i
until_stop [] i h z = omega arith
until_stop (r ∷ rs) i h z = go (ends (r ∷ rs)) refl i h z (until_stop rs)
  where
    go : (u : Bool) → ends (r ∷ rs) ≡ u → (i : ℕ) → i ≤ length (cond u [] (r ∷ until rs)) → (i < length (r ∷ rs) → ends (drop i (r ∷ rs)) ≡ true)
        → ((j : ℕ) → j ≤ length (until rs) → (j < length rs → ends (drop j rs) ≡ true) → length (until rs) ≡ j)
        → length (cond u [] (r ∷ until rs)) ≡ i
    go true q i h z ih = omega arith
    go false q zero h z ih = never (sym q ∙ z (omega arith))
    go false q (suc i) h z ih = ap suc (ih i (le_of_suc-le-suc h) (λ l. z (suc-le-suc l)))

until_end : (rs : List (List ℕ)) → length (until rs) < length rs → ends (drop (length (until rs)) rs) ≡ true
until_end [] h = absurd (omega arith)
until_end (r ∷ rs) h = go (ends (r ∷ rs)) refl h (until_end rs)
  where
    go : (u : Bool) → ends (r ∷ rs) ≡ u → length (cond u [] (r ∷ until rs)) < length (r ∷ rs)
        → (length (until rs) < length rs → ends (drop (length (until rs)) rs) ≡ true)
        → ends (drop (length (cond u [] (r ∷ until rs))) (r ∷ rs)) ≡ true
    go true q h ih = q
    go false q h ih = ih (le_of_suc-le-suc h)

module _ (w : ℕ) (t : List ℕ) where
  pub used_le : length (used w t) ≤ length t / w
  used_le = omega (arith, until_le (whole w t), length_rows w (length t / w) t)

  used_first : used w t ≡ rows_in w (length (used w t)) t
  used_first = until_first (whole w t) ∙ take_first w (length t / w) (length (used w t)) t used_le

  pub used_end : w * length (used w t) ≤ length t
  used_end = rows_fit w t (length (used w t)) used_le

-- a row that is read lies where its number says
pub read_at : {A : Type 0} (w : ℕ) (make : List ℕ → A) (t : List ℕ) (i : ℕ) → i < length (used w t) → get_or (read w make t) i (make []) ≡ make (row_in w t i)
read_at w make t i h = ap (λ (rs : List (List ℕ)). get_or (map make rs) i (make [])) (used_first w t) ∙ made_at w (length (used w t)) make t i h

module _ (w : ℕ) (t : List ℕ) (wide : 2 ≤ w) where
  ends_here : (i : ℕ) → i < length t / w → ends (drop i (whole w t)) ≡ eqb (get_or t (w * i + 1) 0) 0
  ends_here i h =
      ap ends (drop-cons (whole w t) i [] (omega (arith, length_rows w (length t / w) t)))
      ∙ ap (λ (r : List ℕ). eqb (get_or r 1 0) 0) (rows_in_at w (length t / w) t i [] h)
      ∙ ap (λ (n : ℕ). eqb n 0) (number_in w t i 1 (omega arith))

  pub held_stop : (i : ℕ) → i ≤ length (used w t) → get_or t (w * i + 1) 0 ≡ 0 → length (used w t) ≡ i
  held_stop i h z = until_stop (whole w t) i h (λ l. ends_here i (omega (arith, length_rows w (length t / w) t)) ∙ eq-eqb (get_or t (w * i + 1) 0) 0 z)

  pub held_more : (i : ℕ) → i < length t / w → (get_or t (w * i + 1) 0 ≡ 0 → ⊥) → i ≤ length (used w t) → i < length (used w t)
  held_more i l z h = go (split (length (used w t)) i)
    where
      go : (length (used w t) ≤ i) ⊎ (i < length (used w t)) → i < length (used w t)
      go (inr k) = k
      go (inl k) =
          let e : length (used w t) ≡ i = omega arith in
          absurd (z (eqb-true (get_or t (w * i + 1) 0) 0 (sym (ends_here i l) ∙ ap (λ (j : ℕ). ends (drop j (whole w t))) (sym e) ∙ until_end (whole w t) (omega (arith, length_rows w (length t / w) t)))))

pub formed_length : (w n : ℕ) (t : List ℕ) → formed w n t ≡ true → length t ≡ n
formed_length w n t h = eqb-true (length t) n (and_true (eqb (length t) n) (zeros (drop (w * length (used w t)) t)) h).0

-- ---- a table is the rows read of it, and what is behind them

module _ {A : Type 0} (w : ℕ) (make : List ℕ → A) (parts : A → List ℕ) (back : (r : List ℕ) → length r ≡ w → parts (make r) ≡ r) where
  pub write_rows : (n : ℕ) (t : List ℕ) → w * n ≤ length t → write parts (map make (rows_in w n t)) ++ drop (w * n) t ≡ t
  write_rows zero t h = ap (λ (k : ℕ). drop k t) (mul-zero w)
  write_rows (suc n) t h =
      let ws : List ℕ = write parts (map make (rows_in w n (drop w t))) in
      append_assoc (parts (make (take w t))) ws (drop (w * suc n) t)
      ∙ ap (λ (l : List ℕ). parts (make (take w t)) ++ (ws ++ l)) (sym (next_row w n t))
      ∙ ap (λ (l : List ℕ). parts (make (take w t)) ++ l) (write_rows n (drop w t) (omega (arith, mul-suc w n, length-drop w t)))
      ∙ ap (λ (l : List ℕ). l ++ drop w t) (back (take w t) (length-take-le w t (omega (arith, mul-suc w n))))
      ∙ take-append-drop w t

  -- writing what was read of a table with zeros behind its rows gives it back
  pub formed_written : (n : ℕ) (t : List ℕ) → formed w n t ≡ true → t ≡ padded w parts n (read w make t)
  formed_written n t f =
      let k : ℕ = length (used w t) in
      let h = and_true (eqb (length t) n) (zeros (drop (w * k) t)) f in
      let e : length t ≡ n = eqb-true (length t) n h.0 in
      sym
      (ap (λ (m : ℕ). write parts (read w make t) ++ replicate (n - w * m) 0) (length-map (used w t) make)
      ∙ ap (λ (l : List ℕ). write parts (read w make t) ++ l) (sym (zeros_are (drop (w * k) t) h.1 ∙ zeros_left (length (drop (w * k) t)) (n - w * k) (omega (arith, length-drop (w * k) t))))
      ∙ ap (λ (rs : List (List ℕ)). write parts (map make rs) ++ drop (w * k) t) (used_first w t)
      ∙ write_rows k t (used_end w t))

-- ---- what is written is read back

until_zeros : (zs : List (List ℕ)) → each zeros zs ≡ true → until zs ≡ []
until_zeros [] h = refl
until_zeros (z ∷ zs) h = cond_is [] (z ∷ until zs) (eq-eqb (get_or z 1 0) 0 (zero_at z 1 (and_true (zeros z) (each zeros zs) h).0))

until_all : (rs zs : List (List ℕ)) → All (λ r. 0 < get_or r 1 0) rs → each zeros zs ≡ true → until (rs ++ zs) ≡ rs
until_all [] zs h z = until_zeros zs z
until_all (r ∷ rs) zs h z = cond_is [] (r ∷ until (rs ++ zs)) (ne_eqb (get_or r 1 0) 0 (λ e. omega arith)) ∙ ap (λ (l : List (List ℕ)). r ∷ l) (until_all rs zs h.1 z)

all_parts : {A : Type 0} (parts : A → List ℕ) (xs : List A) → All (λ x. 0 < get_or (parts x) 1 0) xs → All (λ r. 0 < get_or r 1 0) (map parts xs)
all_parts parts [] h = tt
all_parts parts (x ∷ xs) h = (h.0, all_parts parts xs h.1)

module _ {A : Type 0} (w : ℕ) (parts : A → List ℕ) (wide : (x : A) → length (parts x) ≡ w) where
  pub length_write : (xs : List A) → length (write parts xs) ≡ w * length xs
  length_write [] = sym (mul-zero w)
  length_write (x ∷ xs) = omega (arith, length-append (parts x) (write parts xs), wide x, length_write xs, mul-suc w (length xs))

  pub write_append : (xs ys : List A) → write parts (xs ++ ys) ≡ write parts xs ++ write parts ys
  write_append [] ys = refl
  write_append (x ∷ xs) ys = ap (λ (l : List ℕ). parts x ++ l) (write_append xs ys) ∙ sym (append_assoc (parts x) (write parts xs) (write parts ys))

  -- what is behind some rows
  pub drop_write : (xs : List A) (r : List ℕ) → drop (w * length xs) (write parts xs ++ r) ≡ r
  drop_write xs r = drop_at (write parts xs) r (w * length xs) (length_write xs)

  module _ (r : List ℕ) (xs : List A) (i : ℕ) (h : i ≤ length xs) where
    parted : write parts xs ++ r ≡ write parts (take i xs) ++ (write parts (drop i xs) ++ r)
    parted =
        ap (λ (ys : List A). write parts ys ++ r) (sym (take-append-drop i xs))
        ∙ ap (λ (l : List ℕ). l ++ r) (write_append (take i xs) (drop i xs))
        ∙ append_assoc (write parts (take i xs)) (write parts (drop i xs)) r

    length_taken : length (write parts (take i xs)) ≡ w * i
    length_taken = length_write (take i xs) ∙ ap (λ (k : ℕ). w * k) (length-take-le i xs h)

    pub take_rows : take (w * i) (write parts xs ++ r) ≡ write parts (take i xs)
    take_rows = ap (take (w * i)) parted ∙ take_at (write parts (take i xs)) (write parts (drop i xs) ++ r) (w * i) length_taken

    pub drop_rows : drop (w * i) (write parts xs ++ r) ≡ write parts (drop i xs) ++ r
    drop_rows = ap (drop (w * i)) parted ∙ drop_at (write parts (take i xs)) (write parts (drop i xs) ++ r) (w * i) length_taken

  -- a row in place of another
  pub put_at : (r : List ℕ) (xs : List A) (i : ℕ) (x : A) → i < length xs → sets (write parts xs ++ r) (w * i) (parts x) ≡ write parts (set xs i x) ++ r
  put_at r xs i x h =
      let e : w * i + length (parts x) ≡ w * suc i = omega (arith, wide x, mul-suc w i) in
      sets-eq (parts x) (write parts xs ++ r) (w * i) (omega (arith, length-append (write parts xs) r, length_write xs, wide x, mul-suc w i, mul-le-mul_left w h))
      ∙ ap (λ (l : List ℕ). l ++ parts x ++ drop (w * i + length (parts x)) (write parts xs ++ r)) (take_rows r xs i (omega arith))
      ∙ ap (λ (l : List ℕ). write parts (take i xs) ++ parts x ++ l) (ap (λ (k : ℕ). drop k (write parts xs ++ r)) e ∙ drop_rows r xs (suc i) h)
      ∙ sym (append_assoc (write parts (take i xs) ++ parts x) (write parts (drop (suc i) xs)) r)
      ∙ ap (λ (l : List ℕ). l ++ r) (append_assoc (write parts (take i xs)) (parts x) (write parts (drop (suc i) xs)) ∙ sym (write_append (take i xs) (x ∷ drop (suc i) xs)))
      ∙ ap (λ (ys : List A). write parts ys ++ r) (sym (set_split xs i x h))

  module _ (size : ℕ) where
    pub length_padded : (xs : List A) → w * length xs ≤ size → length (padded w parts size xs) ≡ size
    length_padded xs h = omega (arith, length-append (write parts xs) (replicate (size - w * length xs) 0), length_write xs, length-replicate {A = ℕ} (size - w * length xs) 0)

    -- a row put behind the others
    pub put_last : (xs : List A) (x : A) → w * length xs + w ≤ size → sets (padded w parts size xs) (w * length xs) (parts x) ≡ padded w parts size (xs ++ x ∷ [])
    put_last xs x h =
        let n : ℕ = size - w * length xs in
        let z : List ℕ = replicate n 0 in
        let e : n - w ≡ size - w * length (xs ++ x ∷ []) = omega (arith, ap (λ (k : ℕ). w * k) (length-append xs (x ∷ [])), mul-suc w (length xs)) in
        sets-eq (parts x) (write parts xs ++ z) (w * length xs) (omega (arith, length_padded xs (omega arith), wide x))
        ∙ ap (λ (l : List ℕ). l ++ parts x ++ drop (w * length xs + length (parts x)) (write parts xs ++ z)) (take_at (write parts xs) z (w * length xs) (length_write xs))
        ∙ ap (λ (k : ℕ). write parts xs ++ parts x ++ drop (w * length xs + k) (write parts xs ++ z)) (wide x)
        ∙ ap (λ (l : List ℕ). write parts xs ++ parts x ++ l) (sym (drop-drop w (w * length xs) (write parts xs ++ z)) ∙ ap (drop w) (drop_write xs z) ∙ drop_zeros w n ∙ zeros_left _ _ e)
        ∙ ap (λ (l : List ℕ). l ++ replicate (size - w * length (xs ++ x ∷ [])) 0) (ap (λ (l : List ℕ). write parts xs ++ l) (sym (append-nil (parts x))) ∙ sym (write_append xs (x ∷ [])))

  first_written : (xs : List A) (n : ℕ) (r : List ℕ) → rows_in w (length xs + n) (write parts xs ++ r) ≡ map parts xs ++ rows_in w n r
  first_written [] n r = let e : 0 + n ≡ n = omega arith in ap (λ (k : ℕ). rows_in w k r) e
  first_written (x ∷ xs) n r =
      let e : suc (length xs) + n ≡ suc (length xs + n) = omega arith in
      let t : List ℕ = parts x ++ (write parts xs ++ r) in
      ap (λ (k : ℕ). rows_in w k (parts x ++ write parts xs ++ r)) e
      ∙ ap (rows_in w (suc (length xs + n))) (append_assoc (parts x) (write parts xs) r)
      ∙ ap (λ (l : List ℕ). l ∷ rows_in w (length xs + n) (drop w t)) (take_at (parts x) (write parts xs ++ r) w (wide x))
      ∙ ap (λ (l : List ℕ). parts x ∷ rows_in w (length xs + n) l) (drop_at (parts x) (write parts xs ++ r) w (wide x))
      ∙ ap (λ (rs : List (List ℕ)). parts x ∷ rs) (first_written xs n r)

  whole_written : 0 < w → (xs : List A) (r : List ℕ) → whole w (write parts xs ++ r) ≡ map parts xs ++ whole w r
  whole_written some_width xs r =
      ap (λ (k : ℕ). rows_in w (k / w) (write parts xs ++ r)) (length-append (write parts xs) r ∙ ap (λ (k : ℕ). k + length r) (length_write xs))
      ∙ ap (λ (k : ℕ). rows_in w k (write parts xs ++ r)) (mul-add-div some_width (length xs) (length r))
      ∙ first_written xs (length r / w) r

  module _ (make : List ℕ → A) where
    made_again : (xs : List A) → All (λ x. make (parts x) ≡ x) xs → map make (map parts xs) ≡ xs
    made_again [] h = refl
    made_again (x ∷ xs) h = rw (h.0, made_again xs h.1)

    -- reading what was written gives it back: the first rows, whatever is behind them, and the rows in use
    pub first_back : (n : ℕ) (xs : List A) (r : List ℕ) → length xs ≡ n → All (λ x. make (parts x) ≡ x) xs → map make (rows_in w n (write parts xs ++ r)) ≡ xs
    first_back n xs r e again =
        let k : n ≡ length xs + 0 = omega arith in
        ap (map make) (ap (λ (j : ℕ). rows_in w j (write parts xs ++ r)) k ∙ first_written xs 0 r ∙ append-nil (map parts xs)) ∙ made_again xs again

  module _ (some_width : 0 < w) (make : List ℕ → A) (again : (x : A) → make (parts x) ≡ x) where
    pub read_back : (xs : List A) (n : ℕ) → All (λ x. 0 < get_or (parts x) 1 0) xs → read w make (write parts xs ++ replicate n 0) ≡ xs
    read_back xs n h =
        ap (map make)
        (ap until (whole_written some_width xs (replicate n 0))
        ∙ until_all (map parts xs) (whole w (replicate n 0)) (all_parts parts xs h) (zero_rows w (length (replicate {A = ℕ} n 0) / w) (replicate n 0) (zeros_rep n)))
        ∙ made_again make xs (all_every again xs)

    pub formed_back : (xs : List A) (n : ℕ) → All (λ x. 0 < get_or (parts x) 1 0) xs → w * length xs ≤ n → formed w n (padded w parts n xs) ≡ true
    formed_back xs n h l =
        let t : List ℕ = padded w parts n xs in
        let e : length (used w t) ≡ length xs = sym (length-map (used w t) make) ∙ ap length (read_back xs (n - w * length xs) h) in
        rw (eq-eqb (length t) n (length_padded n xs l), e, drop_write xs (replicate (n - w * length xs) 0)) (zeros_rep (n - w * length xs))
