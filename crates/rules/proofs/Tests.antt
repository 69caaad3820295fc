-- What a test that computes says, and the other way round; a verdict read back as tests.
use Prim.Native.Nat.{ℕ, zero, suc, ◌≤◌, ◌<◌}
use native.Mathlib.Omega.{arith}
use mathlib.Core.Path.{◌≡◌, refl, sym, ◌∙◌, subst}
use mathlib.Core.Bool.{Bool, true, false, cond, ◌&&◌, ◌||◌}
use mathlib.Core.Logic.{◌⊎◌, inl, inr}
use mathlib.Core.List.{List, [], ◌∷◌}
use lib.Dec.{leb}
use borrow.Author.Tests.{leb-true, le-leb}
use Rattle.rules.specs.Words.{within, every, each, first_number}
use Rattle.rules.proofs.Lists.{All}
use Rattle.rules.proofs.Sums.{same}

pub never : {P : Type 0} → false ≡ true → P
never e = let z : ◌≡◌ {A = ℕ} 0 1 = cc e in absurd (omega arith)

pub and_true : (a b : Bool) → (a && b) ≡ true → (a ≡ true) × (b ≡ true)
and_true true b e = (refl, e)
and_true false b e = never e

pub and_intro : (a b : Bool) → a ≡ true → b ≡ true → (a && b) ≡ true
and_intro true b p q = q
and_intro false b p q = p

pub or_true : (a b : Bool) → (a || b) ≡ true → a ≡ false → b ≡ true
or_true true b e f = never (sym f)
or_true false b e f = e

pub or_intro : (a b : Bool) → (a ≡ false → b ≡ true) → (a || b) ≡ true
or_intro true b f = refl
or_intro false b f = f refl

pub or_cases : {P : Type 0} (a b : Bool) → (a || b) ≡ true → (a ≡ true → P) → (a ≡ false → b ≡ true → P) → P
or_cases true b e f g = f refl
or_cases false b e f g = g refl e

pub or_false : (a b : Bool) → (a || b) ≡ false → (a ≡ false) × (b ≡ false)
or_false true b e = never (sym e)
or_false false b e = (refl, e)

pub and_cases : {P : Type 0} (a b : Bool) → (a && b) ≡ false → (a ≡ false → P) → (a ≡ true → b ≡ false → P) → P
and_cases true b e f g = g refl e
and_cases false b e f g = f refl

pub not_true_false : (b : Bool) → (b ≡ true → ⊥) → b ≡ false
not_true_false true f = absurd (f refl)
not_true_false false f = refl

pub not_false_true : (b : Bool) → (b ≡ false → ⊥) → b ≡ true
not_false_true true f = refl
not_false_true false f = absurd (f refl)

pub within_true : (a b x : ℕ) → within a b x ≡ true → (a ≤ x) × (x ≤ b)
within_true a b x e = let k = and_true (leb a x) (leb x b) e in (leb-true a x k.0, leb-true x b k.1)

pub within_intro : (a b x : ℕ) → a ≤ x → x ≤ b → within a b x ≡ true
within_intro a b x l u = and_intro (leb a x) (leb x b) (le-leb a x l) (le-leb x b u)

pub every_true : (n : ℕ) (f : ℕ → Bool) → every n f ≡ true → (c : ℕ) → c < n → f c ≡ true
every_true zero f e c l = absurd (omega arith)
every_true (suc n) f e c l = go (and_true (every n f) (f n) e) (every_true n f) (same c n)
  where
    go : (every n f ≡ true) × (f n ≡ true)
        → (every n f ≡ true → (c : ℕ) → c < n → f c ≡ true)
        → (c ≡ n) ⊎ (c ≡ n → ⊥)
        → f c ≡ true
    go k ih (inl i) = subst (λ (j : ℕ). f j ≡ true) (sym i) k.1
    go k ih (inr i) = ih k.0 c (omega (arith, i))

pub every_intro : (n : ℕ) (f : ℕ → Bool) → ((c : ℕ) → c < n → f c ≡ true) → every n f ≡ true
every_intro zero f h = refl
every_intro (suc n) f h = and_intro (every n f) (f n) (every_intro n f (λ c l. h c (omega arith))) (h n (omega arith))

module _ {A : Type 0} (f : A → Bool) where
  pub each_true : (xs : List A) → each f xs ≡ true → All (λ x. f x ≡ true) xs
  each_true [] e = tt
  each_true (x ∷ xs) e = let k = and_true (f x) (each f xs) e in (k.0, each_true xs k.1)

  pub each_intro : (xs : List A) → All (λ x. f x ≡ true) xs → each f xs ≡ true
  each_intro [] h = refl
  each_intro (x ∷ xs) h = and_intro (f x) (each f xs) h.0 (each_intro xs h.1)

-- ---- verdicts

-- number 0: no test holds
pub passed : (rs : List (ℕ × Bool)) → All (λ r. 0 < r.0) rs → first_number rs ≡ 0 → All (λ r. r.1 ≡ false) rs
passed [] h e = tt
passed (r ∷ rs) h e = go r.1 refl e (passed rs h.1)
  where
    go : (b : Bool) → r.1 ≡ b → cond b r.0 (first_number rs) ≡ 0 → (first_number rs ≡ 0 → All (λ r. r.1 ≡ false) rs)
        → (r.1 ≡ false) × All (λ r. r.1 ≡ false) rs
    go true q e k = absurd (omega (arith, h.0))
    go false q e k = (q, k e)

-- a number whose tests do not hold is not given
pub never_number : (v : ℕ) (rs : List (ℕ × Bool)) → All (λ r. r.0 ≡ v → r.1 ≡ false) rs → 0 < v → first_number rs ≡ v → ⊥
never_number v [] h pos e = omega arith
never_number v (r ∷ rs) h pos e = go r.1 refl e (never_number v rs h.1 pos)
  where
    go : (b : Bool) → r.1 ≡ b → cond b r.0 (first_number rs) ≡ v → (first_number rs ≡ v → ⊥) → ⊥
    go true q e k = never (sym (h.0 e) ∙ q)
    go false q e k = k e
