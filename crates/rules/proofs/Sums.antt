-- Sums over a range, and the test `upto`.
use Prim.Native.Nat.{ℕ, zero, suc, ◌+◌, ◌*◌, ◌≤◌, ◌<◌}
use native.Mathlib.Omega.{arith}
use native.Mathlib.Nat.{not-suc-le-zero}
use mathlib.Core.Path.{◌≡◌, refl, sym, ap, ◌∙◌}
use mathlib.Core.Bool.{Bool, true, false, cond}
use mathlib.Core.Logic.{◌⊎◌, inl, inr}
use mathlib.Core.List.{List, [], ◌∷◌}
use lib.Dec.{leb, eqb}
use borrow.Author.Tests.{leb-true, leb-false, le-leb, lt-leb, eqb-true, eqb-false, eq-eqb, ne_eqb}
use Rattle.rules.specs.Words.{sum, upto}
use Rattle.rules.proofs.Lists.{All, total}

pub split : (a b : ℕ) → (a ≤ b) ⊎ (b < a)
split a b = go (leb a b) refl
  where
    go : (t : Bool) → leb a b ≡ t → (a ≤ b) ⊎ (b < a)
    go true e = inl (leb-true a b e)
    go false e = inr (leb-false a b e)

pub same : (a b : ℕ) → (a ≡ b) ⊎ (a ≡ b → ⊥)
same a b = go (eqb a b) refl
  where
    go : (t : Bool) → eqb a b ≡ t → (a ≡ b) ⊎ (a ≡ b → ⊥)
    go true e = inl (eqb-true a b e)
    go false e = inr (eqb-false a b e)

-- a branch is known once its test is
pub cond_is {ℓ} : {A : Type ℓ} {t u : Bool} (x y : A) → t ≡ u → cond t x y ≡ cond u x y
cond_is x y e = ap (λ (b : Bool). cond b x y) e

-- a property of a branch, from that of each; and the other way
pub cond_ind : {A : Type 0} (P : A → Type 0) (t : Bool) {x y : A} → (t ≡ true → P x) → (t ≡ false → P y) → P (cond t x y)
cond_ind P true f g = f refl
cond_ind P false f g = g refl

pub cond_cases : {A : Type 0} (P : A → Type 0) (t : Bool) {x y : A} → P (cond t x y) → ((t ≡ true) × P x) ⊎ ((t ≡ false) × P y)
cond_cases P true k = inl (refl, k)
cond_cases P false k = inr (refl, k)

pub upto_yes : (a b x : ℕ) → a ≤ b → upto a b x ≡ x
unfolding upto
upto_yes a b x h = cond_is x 0 (le-leb a b h)

pub upto_no : (a b x : ℕ) → b < a → upto a b x ≡ 0
unfolding upto
upto_no a b x h = cond_is x 0 (lt-leb a b h)

pub upto_le : (a b x : ℕ) → upto a b x ≤ x
upto_le a b x = go (split a b)
  where
    go : (a ≤ b) ⊎ (b < a) → upto a b x ≤ x
    go (inl h) = omega (arith, upto_yes a b x h)
    go (inr h) = omega (arith, upto_no a b x h)

pub upto_mono : (a b : ℕ) {x y : ℕ} → (a ≤ b → x ≤ y) → upto a b x ≤ upto a b y
upto_mono a b {x} {y} f = go (split a b)
  where
    go : (a ≤ b) ⊎ (b < a) → upto a b x ≤ upto a b y
    go (inl h) = omega (arith, upto_yes a b x h, upto_yes a b y h, f h)
    go (inr h) = omega (arith, upto_no a b x h)

pub upto_mul : (a b x y : ℕ) → upto a b (x * y) ≡ x * upto a b y
upto_mul a b x y = go (split a b)
  where
    go : (a ≤ b) ⊎ (b < a) → upto a b (x * y) ≡ x * upto a b y
    go (inl h) = upto_yes a b (x * y) h ∙ ap (λ (k : ℕ). x * k) (sym (upto_yes a b y h))
    go (inr h) = omega (arith, upto_no a b (x * y) h, ap (λ (k : ℕ). x * k) (upto_no a b y h))

pub sum_le : (n : ℕ) {f g : ℕ → ℕ} → ((i : ℕ) → i < n → f i ≤ g i) → sum n f ≤ sum n g
sum_le zero k = omega arith
sum_le (suc n) k = omega (arith, sum_le n (λ i h. k i (omega arith)), k n (omega arith))

pub sum_eq : (n : ℕ) {f g : ℕ → ℕ} → ((i : ℕ) → i < n → f i ≡ g i) → sum n f ≡ sum n g
sum_eq zero k = refl
sum_eq (suc n) k = omega (arith, sum_eq n (λ i h. k i (omega arith)), k n (omega arith))

pub sum_add : (n : ℕ) (f g : ℕ → ℕ) → sum n (λ i. f i + g i) ≡ sum n f + sum n g
sum_add zero f g = omega arith
sum_add (suc n) f g = omega (arith, sum_add n f g)

pub sum_zero : (n : ℕ) → sum n (λ i. 0) ≡ 0
sum_zero zero = refl
sum_zero (suc n) = omega (arith, sum_zero n)

-- x at the index k, 0 elsewhere
pub only : ℕ → ℕ → ℕ → ℕ
only k x i = cond (eqb k i) x 0

pub only_at : (k x : ℕ) {i : ℕ} → k ≡ i → only k x i ≡ x
unfolding only
only_at k x {i} e = cond_is x 0 (eq-eqb k i e)

pub only_off : (k x : ℕ) {i : ℕ} → (k ≡ i → ⊥) → only k x i ≡ 0
unfolding only
only_off k x {i} e = cond_is x 0 (ne_eqb k i e)

sum_only_past : (k x n : ℕ) → n ≤ k → sum n (only k x) ≡ 0
sum_only_past k x zero h = refl
sum_only_past k x (suc n) h = omega (arith, sum_only_past k x n (omega arith), only_off k x {i = n} (λ e. omega arith))

pub sum_only : (k x n : ℕ) → k < n → sum n (only k x) ≡ x
sum_only k x zero h = absurd (not-suc-le-zero h)
sum_only k x (suc n) h = go (sum_only k x n) (same k n)
  where
    go : (k < n → sum n (only k x) ≡ x) → (k ≡ n) ⊎ (k ≡ n → ⊥) → sum (suc n) (only k x) ≡ x
    go ih (inl e) = omega (arith, sum_only_past k x n (omega arith), only_at k x e)
    go ih (inr e) = omega (arith, ih (omega (arith, e)), only_off k x e)

module _ {A : Type 0} where
  -- a sum over a list, sorted by a key below n
  pub total_by : (key : A → ℕ) (w : A → ℕ) (n : ℕ) (xs : List A) → All (λ x. key x < n) xs → total w xs ≡ sum n (λ c. total (λ x. only (key x) (w x) c) xs)
  total_by key w n [] h = sym (sum_zero n)
  total_by key w n (x ∷ xs) h =
      omega (
        arith,
        total_by key w n xs h.1,
        sum_only (key x) (w x) n h.0,
        sum_add n (only (key x) (w x)) (λ c. total (λ y. only (key y) (w y) c) xs),
      )
