-- The rows of a table of verdicts that both disciplines ask alike: number, given exactly when. `unset` says that no link is set.
-- Document 01, "Verdict numbers"; document 02, R-1 and R-13.
use Rattle.std.specs.Prelude.{ℕ, Bool, not, List, [], ◌∷◌, leb}
use Rattle.rules.specs.Limits.{clock_end, max_notices}
use Rattle.rules.specs.Words.{within}

-- the rows of an offer's table that need no walk over the places; `heard` says that its connection hears it
abbrev pub early_offer : Bool → Bool → ℕ → ℕ → List (ℕ × Bool)
early_offer unset heard largest len = (2, unset) ∷ (10, not heard) ∷ (11, not (within 1 largest len)) ∷ []

-- those of a notice, while `waiting` others wait
abbrev pub of_a_notice : Bool → ℕ → ℕ → ℕ → ℕ → List (ℕ × Bool)
of_a_notice unset largest clock waiting len = (2, unset) ∷ (11, not (within 1 largest len)) ∷ (13, leb clock_end clock) ∷ (15, leb max_notices waiting) ∷ []

-- those of a tick
abbrev pub of_a_tick : Bool → ℕ → List (ℕ × Bool)
of_a_tick unset clock = (2, unset) ∷ (13, leb clock_end clock) ∷ []
