-- Laws of a choice, and of numbers in bytes: specs/Numbers.
use mathlib.Core.Path.{◌≡◌, refl, ap, ◌∙◌}
use mathlib.Core.Bool.{Bool, true, false, cond}
use mathlib.Core.List.{List, [], ◌∷◌, ◌++◌}
use Prim.Native.Nat.{ℕ, zero, suc, ◌+◌, ◌*◌, ◌/◌, ◌<◌, ◌≤◌}
use native.Mathlib.Omega.{arith}
use lib.ListN.{length, get_or, replicate, length-replicate, length-append, drop, get_or-eq_default}
use Rattle.fields.specs.Numbers.{little, number, put_fields, get_fields, sum}

-- A property of a choice.
pub cond_by : {A : Type 0} (P : A → Type 0) (b : Bool) (x y : A) → (b ≡ true → P x) → (b ≡ false → P y) → P (cond b x y)
cond_by P true x y f g = f refl
cond_by P false x y f g = g refl

pub one_byte : (bs : List ℕ) (at : ℕ) → number 1 bs at ≡ get_or bs at 0
unfolding number
one_byte bs at = omega arith

pub two_pairs : (bs : List ℕ) (at : ℕ) → number 4 bs at ≡ number 2 bs at + 65536 * number 2 bs (at + 2)
unfolding number
two_pairs bs at =
    let e : at + 1 + 1 ≡ at + 2 = omega arith in
    rw e (omega arith)

pub length_get : (ws bs : List ℕ) (at : ℕ) → length (get_fields ws bs at) ≡ length ws
unfolding get_fields
length_get [] bs at = refl
length_get (w ∷ ws) bs at = ap suc (length_get ws bs (at + w))

-- The k-th of n numbers of two bytes each, and what is read behind the last of them.
pub pair_within : (n k : ℕ) (bs : List ℕ) (at : ℕ) → k < n → get_or (get_fields (replicate n 2) bs at) k 0 ≡ number 2 bs (at + 2 * k)
unfolding get_fields
pair_within zero k bs at h = absurd (omega arith)
pair_within (suc n) zero bs at h = let e : at + 2 * 0 ≡ at = omega arith in rw e
pair_within (suc n) (suc k) bs at h =
    let e : at + 2 + 2 * k ≡ at + 2 * suc k = omega arith in
    pair_within n k bs (at + 2) (omega arith) ∙ ap (λ i. number 2 bs i) e

pub pair_past : (n k : ℕ) (bs : List ℕ) (at : ℕ) → n ≤ k → get_or (get_fields (replicate n 2) bs at) k 0 ≡ 0
pair_past n k bs at h =
    get_or-eq_default (get_fields (replicate n 2) bs at) 0 (simp (length_get, length-replicate) h)

-- Numbers behind others are read where those end.
pub get_both : (ws vs bs : List ℕ) (at : ℕ) → get_fields (ws ++ vs) bs at ≡ get_fields ws bs at ++ get_fields vs bs (at + sum ws)
unfolding get_fields sum
get_both [] vs bs at = let e : at + 0 ≡ at = omega arith in rw e
get_both (w ∷ ws) vs bs at =
    let e : at + w + sum ws ≡ at + (w + sum ws) = omega arith in
    ap (λ l. number w bs at ∷ l) (get_both ws vs bs (at + w) ∙ ap (λ i. get_fields ws bs (at + w) ++ get_fields vs bs i) e)

pub sum_both : (ws vs : List ℕ) → sum (ws ++ vs) ≡ sum ws + sum vs
unfolding sum
sum_both [] vs = omega arith
sum_both (w ∷ ws) vs = omega (arith, sum_both ws vs)

pub sum_pairs : (n : ℕ) → sum (replicate n 2) ≡ 2 * n
unfolding sum
sum_pairs zero = refl
sum_pairs (suc n) = let e : 2 + 2 * n ≡ 2 * suc n = omega arith in ap (λ k. 2 + k) (sum_pairs n) ∙ e

pub length_little : (w v : ℕ) → length (little w v) ≡ w
unfolding little
length_little zero v = refl
length_little (suc w) v = ap suc (length_little w (v / 256))

pub length_put : (ws xs : List ℕ) → length (put_fields ws xs) ≡ sum ws
unfolding put_fields sum
length_put [] xs = refl
length_put (w ∷ ws) xs =
    length-append (little w (get_or xs 0 0)) (put_fields ws (drop 1 xs))
    ∙ ap (λ n. n + length (put_fields ws (drop 1 xs))) (length_little w (get_or xs 0 0))
    ∙ ap (λ n. w + n) (length_put ws (drop 1 xs))
