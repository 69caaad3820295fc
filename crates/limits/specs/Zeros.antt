-- "Everything unused is zero": document 01, "A sound state".
use Rattle.std.specs.Prelude.{ℕ, Bool, List, eqb}
use Rattle.rules.specs.Words.{each}

-- each of some numbers is 0
abbrev pub zeros : List ℕ → Bool
zeros xs = each (λ x. eqb x 0) xs
