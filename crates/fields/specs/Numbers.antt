-- Document 01, "Trace and answer records": "numbers after it are little-endian".
use Rattle.std.specs.Prelude.{Bool, true, ◌&&◌, ◌||◌, List, [], ◌∷◌, ◌++◌, ℕ, zero, suc, ◌+◌, ◌*◌, ◌/◌, ◌%◌, get_or, drop, ltb, eqb}

-- The number v in w bytes, the low byte first.
unfoldable pub little : ℕ → ℕ → List ℕ
little zero v = []
little (suc w) v = v % 256 ∷ little w (v / 256)

-- The number in the w bytes from place `at` on, the low byte first. A byte past the end counts as 0.
unfoldable pub number : ℕ → List ℕ → ℕ → ℕ
number zero bs at = 0
number (suc w) bs at = get_or bs at 0 + 256 * number w bs (at + 1)

-- The bytes of a list of numbers, one behind the other, each in its width.
unfoldable pub put_fields : List ℕ → List ℕ → List ℕ
put_fields [] xs = []
put_fields (w ∷ ws) xs = little w (get_or xs 0 0) ++ put_fields ws (drop 1 xs)

-- The numbers that lie one behind the other from place `at` on, each in its width.
unfoldable pub get_fields : List ℕ → List ℕ → ℕ → List ℕ
get_fields [] bs at = []
get_fields (w ∷ ws) bs at = number w bs at ∷ get_fields ws bs (at + w)

-- All of some numbers together.
unfoldable pub sum : List ℕ → ℕ
sum [] = 0
sum (x ∷ xs) = x + sum xs

-- Each number that has no byte, its width 0, is 0.
unfoldable pub none_lost : List ℕ → List ℕ → Bool
none_lost [] xs = true
none_lost (w ∷ ws) xs = (ltb 0 w || eqb (get_or xs 0 0) 0) && none_lost ws (drop 1 xs)
