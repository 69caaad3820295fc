-- Tests of marks.
use mathlib.Core.Path.{◌≡◌, refl}
use mathlib.Core.Bool.{Bool, true, false, not, ◌&&◌}
use mathlib.Core.List.{List, [], ◌∷◌}
use Prim.Native.Nat.{ℕ}
use lib.Dec.{eqb}
use Rattle.fields.specs.Numbers.{number}
use Rattle.fields.specs.Kinds.{Kind}

-- Both parts of a test that holds.
pub both : (a b : Bool) → (a && b) ≡ true → (a ≡ true) × (b ≡ true)
both true b h = (refl, h)
both false b h = absurd cc

module _ {R : Type 0} where
  -- A kind's mark as a number.
  abbrev pub key : Kind R → ℕ
  key k = number 2 k.mark 0

  -- Whether m is no kind's number.
  unfoldable pub absent : ℕ → List (Kind R) → Bool
  absent m [] = true
  absent m (k ∷ ks) = not (eqb (key k) m) && absent m ks

  -- Whether the kinds' numbers differ from one another and from 0.
  unfoldable pub distinct : List (Kind R) → Bool
  distinct [] = true
  distinct (k ∷ ks) = not (eqb 0 (key k)) && (absent (key k) ks && distinct ks)
