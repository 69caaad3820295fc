-- A chain of tests that ends at the first that fails, against the conjunction that it computes.
use Prim.Native.Nat.{ℕ, ◌≤◌, ◌<◌}
use mathlib.Core.Path.{◌≡◌, refl, sym}
use mathlib.Core.Bool.{Bool, true, false, ◌&&◌}
use lib.Dec.{leb}
use borrow.Author.Tests.{le-leb, lt-leb}
use Rattle.rules.specs.Words.{within}
use Rattle.rules.proofs.Tests.{never}

-- the first fails
pub fails : (a b : Bool) → a ≡ false → false ≡ (a && b)
fails true b e = never (sym e)
fails false b e = refl

-- the first holds, and the rest decides
pub goes_on : (a b r : Bool) → a ≡ true → r ≡ b → r ≡ (a && b)
goes_on true b r e h = h
goes_on false b r e h = never e

-- the rest fails, whatever the first says
pub and_false : (a b : Bool) → b ≡ false → (a && b) ≡ false
and_false true b e = e
and_false false b e = refl

-- a number outside its limits
pub too_low : (a b x : ℕ) → x < a → within a b x ≡ false
too_low a b x h = sym (fails (leb a x) (leb x b) (lt-leb a x h))

pub too_high : (a b x : ℕ) → a ≤ x → b < x → within a b x ≡ false
too_high a b x l h = sym (goes_on (leb a x) (leb x b) false (le-leb a x l) (sym (lt-leb x b h)))
