-- A loop that tests each number below n and ends at the first that fails, against `every`.
use Prim.Native.Nat.{ℕ, zero, suc, ◌+◌, ◌<◌}
use native.Mathlib.Omega.{arith}
use native.Mathlib.Numerals.{add-one}
use mathlib.Core.Path.{◌≡◌, refl, sym, ◌∙◌}
use mathlib.Core.Bool.{Bool, true, false}
use Rattle.rules.specs.Words.{every}
use Rattle.rules.proofs.Tests.{never, and_intro, every_true, not_true_false}

-- one that fails, fails them all
pub every_fails : (n : ℕ) (f : ℕ → Bool) (i : ℕ) → i < n → f i ≡ false → false ≡ every n f
every_fails n f i l e = sym (not_true_false (every n f) (λ g. never (sym e ∙ every_true n f g i l)))

-- one more that holds
pub every_next : (i : ℕ) (f : ℕ → Bool) → every i f ≡ true → f i ≡ true → every (i + 1) f ≡ true
every_next i f h e = rw (add-one i) (and_intro (every i f) (f i) h e)

-- two tests that agree below n
pub every_same : (n : ℕ) (f g : ℕ → Bool) → ((c : ℕ) → c < n → f c ≡ g c) → every n f ≡ every n g
every_same zero f g h = refl
every_same (suc n) f g h = rw (every_same n f g (λ c l. h c (omega arith)), h n (omega arith))
