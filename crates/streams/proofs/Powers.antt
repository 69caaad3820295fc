-- What the proofs of `digit_count`, `decimal` and `hex` want of powers of a base.
use Prim.Native.Nat.{ℕ, ◌+◌, ◌-◌, ◌*◌, ◌/◌, ◌^◌, ◌≤◌, ◌<◌}
use native.Mathlib.Nat.{le_trans, le_of_suc-le-suc, mul-le-mul_right, mul-div-le, one-mul, pow-zero, pow-suc, one-le-pow, pow-le-pow_right, div-div-eq-div-mul, le-div_iff_mul-le, div-lt_iff_lt-mul, lt_of_not-le}
use native.Mathlib.Numerals.{add-one}
use native.Mathlib.Omega.{arith}
use mathlib.Core.Path.{◌≡◌, sym, ap, subst, ◌∙◌}
use Rattle.streams.specs.Digits.{IsDigitCount}

pub two-mul-div-le : (n b : ℕ) → 1 < b → 2 * (n / b) ≤ n
two-mul-div-le n b h = le_trans (mul-le-mul_right (n / b) h) (mul-div-le n b)

pub div-pow-one : (n b : ℕ) → n / b ≡ n / b ^ 1
div-pow-one n b = ap (λ (d : ℕ). n / d) (sym (pow-suc b 0 ∙ ap (λ (p : ℕ). p * b) (pow-zero b) ∙ one-mul b))

pub div-pow-div : (n b k : ℕ) → n / b ^ k / b ≡ n / b ^ (k + 1)
div-pow-div n b k = div-div-eq-div-mul n (b ^ k) b ∙ ap (λ (d : ℕ). n / d) (sym (pow-suc b k) ∙ ap (λ (j : ℕ). b ^ j) (sym (add-one k)))

-- something is left of n after k digits, so one more is wanted
pub pow-le_of_div_pos : (n b k : ℕ) → 0 < b → 0 < n / b ^ k → b ^ (k + 1 - 1) ≤ n
pow-le_of_div_pos n b k h some =
    let e : k ≡ k + 1 - 1 = omega arith in
    let p : 1 * b ^ k ≤ n = (le-div_iff_mul-le (one-le-pow k b h)).0 some in
    subst (λ (j : ℕ). b ^ j ≤ n) e (omega arith)

-- nothing is left of n after k digits, so k digits hold it, and so do more
pub lt-pow_of_div-zero : (n b k j : ℕ) → 0 < b → n / b ^ k < 1 → k ≤ j → n < b ^ j
lt-pow_of_div-zero n b k j h none more =
    let p : n < 1 * b ^ k = (div-lt_iff_lt-mul (one-le-pow k b h)).0 none in
    let q : b ^ k ≤ b ^ j = pow-le-pow_right h more in
    omega arith

digit_count_not_above : (b width n k most : ℕ) → 0 < b → IsDigitCount b width n k → width ≤ most → n < b ^ most → most < k → ⊥
digit_count_not_above b width n k most h fewest within holds over =
    let p : b ^ (k - 1) ≤ n = fewest.2 (omega arith) in
    let q : b ^ most ≤ b ^ (k - 1) = pow-le-pow_right h (omega arith) in
    omega arith

-- where `most` digits hold n, the fewest are no more
pub digit_count_le : (b width n k most : ℕ) → 0 < b → IsDigitCount b width n k → width ≤ most → n < b ^ most → k ≤ most
digit_count_le b width n k most h fewest within holds = le_of_suc-le-suc (lt_of_not-le (digit_count_not_above b width n k most h fewest within holds))
