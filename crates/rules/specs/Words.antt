-- The few words on numbers and lists in which the rules are written.
use Rattle.std.specs.Prelude.{ℕ, zero, suc, ◌+◌, Bool, true, cond, ◌&&◌, List, [], ◌∷◌, ◌++◌, leb}
use Rattle.std.proofs.Math.Option.{Option, none, some}

-- a ≤ x ≤ b, as a test
abbrev pub within : ℕ → ℕ → ℕ → Bool
within a b x = leb a x && leb x b

-- x where a ≤ b, else 0
unfoldable pub upto : ℕ → ℕ → ℕ → ℕ
upto a b x = cond (leb a b) x 0

-- f 0 + .. + f (n - 1)
abbrev pub sum : ℕ → (ℕ → ℕ) → ℕ
sum zero f = 0
sum (suc n) f = sum n f + f n

-- f 0 && .. && f (n - 1)
abbrev pub every : ℕ → (ℕ → Bool) → Bool
every zero f = true
every (suc n) f = every n f && f n

-- the number of the first row whose test holds; 0 where none does
abbrev pub first_number : List (ℕ × Bool) → ℕ
first_number [] = 0
first_number (r ∷ rs) = cond r.1 r.0 (first_number rs)

module _ {A : Type 0} where
  -- P of each element
  abbrev pub All : (A → Type 0) → List A → Type 0
  All P [] = Unit {0}
  All P (x ∷ xs) = P x × All P xs

  -- R of each element and each one behind it
  abbrev pub Pairs : (A → A → Type 0) → List A → Type 0
  Pairs R [] = Unit {0}
  Pairs R (x ∷ xs) = All (R x) xs × Pairs R xs

  -- w of each element, added up
  abbrev pub total : (A → ℕ) → List A → ℕ
  total w [] = 0
  total w (x ∷ xs) = w x + total w xs

  -- the test f of each element
  abbrev pub each : (A → Bool) → List A → Bool
  each f [] = true
  each f (x ∷ xs) = f x && each f xs

  -- f 0, .., f (n - 1)
  abbrev pub tabulate : ℕ → (ℕ → A) → List A
  tabulate zero f = []
  tabulate (suc n) f = f 0 ∷ tabulate n (λ i. f (suc i))

  -- those for which the test f holds
  abbrev pub filter : (A → Bool) → List A → List A
  filter f [] = []
  filter f (x ∷ xs) = cond (f x) (x ∷ filter f xs) (filter f xs)

  -- one more at the end, where there is one
  abbrev pub push : List A → Option A → List A
  push xs none = xs
  push xs (some x) = xs ++ x ∷ []
