-- Laws of numbers that are all 0.
use Prim.Native.Nat.{ℕ, zero, suc, ◌+◌, ◌*◌, ◌-◌}
use native.Mathlib.Omega.{arith}
use mathlib.Core.Path.{◌≡◌, refl, sym, ap, ◌∙◌}
use mathlib.Core.Bool.{and_assoc, Bool, true, false, ◌&&◌}
use mathlib.Core.List.{List, [], ◌∷◌, ◌++◌}
use lib.Dec.{eqb}
use borrow.Author.Tests.{eqb-true}
use lib.ListN.{length, get_or, take, drop, replicate, replicate-append-replicate, take-append-drop}
use lib.Seq.{drop-drop}
use Rattle.rules.proofs.Tests.{and_true, and_intro}
use Rattle.std.specs.Cmp.Lexicographic.{pointwise}
use Rattle.std.specs.List.{list_all}
use Rattle.std.proofs.lemmas.List.{take_rest}
use Rattle.std.proofs.lemmas.List.Folds.{list_all-append}
use Rattle.std.specs.Simd.{first_chunks}
use Rattle.limits.specs.Zeros.{zeros}

pub zeros_are : (t : List ℕ) → zeros t ≡ true → t ≡ replicate (length t) 0
zeros_are [] h = refl
zeros_are (x ∷ t) h =
    let k = and_true (eqb x 0) (zeros t) h in
    rw (eqb-true x 0 k.0) (ap (λ (l : List ℕ). 0 ∷ l) (zeros_are t k.1))

pub zeros_rep : (n : ℕ) → zeros (replicate n 0) ≡ true
zeros_rep zero = refl
zeros_rep (suc n) = zeros_rep n

pub zero_at : (l : List ℕ) (i : ℕ) → zeros l ≡ true → get_or l i 0 ≡ 0
zero_at [] i h = refl
zero_at (x ∷ l) zero h = eqb-true x 0 (and_true (eqb x 0) (zeros l) h).0
zero_at (x ∷ l) (suc i) h = zero_at l i (and_true (eqb x 0) (zeros l) h).1

-- ---- so many zeros

pub zeros_left : (m n : ℕ) → m ≡ n → replicate {A = ℕ} m 0 ≡ replicate n 0
zeros_left m n e = ap (λ (k : ℕ). replicate {A = ℕ} k 0) e

pub zeros_more : (k n m : ℕ) → k + n ≡ m → replicate k 0 ++ replicate n 0 ≡ replicate {A = ℕ} m 0
zeros_more k n m e = replicate-append-replicate k n 0 ∙ zeros_left (k + n) m e

pub drop_zeros : (k n : ℕ) → drop k (replicate {A = ℕ} n 0) ≡ replicate (n - k) 0
drop_zeros zero n = zeros_left n (n - 0) (omega arith)
drop_zeros (suc k) zero = zeros_left 0 (0 - suc k) (omega arith)
drop_zeros (suc k) (suc n) = drop_zeros k n ∙ zeros_left (n - k) (suc n - suc k) (omega arith)

-- ---- the first k, and the rest

pub zeros_parts : (k : ℕ) (l : List ℕ) → zeros l ≡ true → (zeros (take k l) ≡ true) × (zeros (drop k l) ≡ true)
zeros_parts zero l h = (refl, h)
zeros_parts (suc k) [] h = (refl, refl)
zeros_parts (suc k) (x ∷ l) h =
    let a = and_true (eqb x 0) (zeros l) h in
    let b = zeros_parts k l a.1 in
    (and_intro (eqb x 0) (zeros (take k l)) a.0 b.0, b.1)

-- ---- in blocks

all_zeros : (xs : List ℕ) → pointwise eqb xs (replicate (length xs) 0) ≡ zeros xs
all_zeros [] = refl
all_zeros (x ∷ xs) = ap (λ (b : Bool). eqb x 0 && b) (all_zeros xs)

pub is_zeros : (n : ℕ) (xs : List ℕ) → length xs ≡ n → pointwise eqb xs (replicate n 0) ≡ zeros xs
is_zeros n xs e = ap (λ (k : ℕ). pointwise eqb xs (replicate k 0)) (sym e) ∙ all_zeros xs

-- sixteen numbers, so many times, and what is left
pub zeros_chunks : (n : ℕ) (xs : List ℕ) → (list_all zeros (first_chunks 16 n xs) && zeros (drop (n * 16) xs)) ≡ zeros xs
zeros_chunks zero xs = refl
zeros_chunks (suc n) xs =
    let more : suc n * 16 ≡ 16 + n * 16 = omega arith in
    let left : drop (suc n * 16) xs ≡ drop (n * 16) (drop 16 xs) = ap (λ (k : ℕ). drop k xs) more ∙ sym (drop-drop (n * 16) 16 xs) in
    rw (left, and_assoc (zeros (take 16 xs))) (ap (λ (b : Bool). zeros (take 16 xs) && b) (zeros_chunks n (drop 16 xs)) ∙ sym (list_all-append (λ x. eqb x 0) (take 16 xs) (drop 16 xs)) ∙ ap zeros (take-append-drop 16 xs))

-- .. from the i-th on: all blocks of zeros, or one that is not
module _ (t : List ℕ) (i : ℕ) where
  abbrev from_there : List ℕ
  from_there = take (length t - i) (drop i t)

  there : zeros from_there ≡ zeros (drop i t)
  there = ap zeros (take_rest t i)

  pub blocks_zero : (n : ℕ) → list_all zeros (first_chunks 16 n from_there) ≡ true → zeros (drop (n * 16) from_there) ≡ zeros (drop i t)
  blocks_zero n e = rw e at (zeros_chunks n from_there) ∙ there

  pub block_stop : (n : ℕ) → list_all zeros (first_chunks 16 n from_there) ≡ false → false ≡ zeros (drop i t)
  block_stop n e = rw e at (zeros_chunks n from_there) ∙ there
