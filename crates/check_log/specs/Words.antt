-- What the program tells of a log. Document 02, R-14.
use Rattle.std.specs.Prelude.{ℕ, ◌≡◌, ◌++◌, List, [], Option, None, Some}
use Rattle.std.specs.Str.Parse.{IsNumeral, digits_value, without_leading_plus}
use Rattle.turns.specs.Words.{text, Decimal}
use Rattle.checker.specs.declared.Finding.{Finding}
use Rattle.checker.specs.declared.Finding.TheVariants.{Accepted, Differs, TooLong, EndsEarly, TraceFailed, LogFailed}

-- on standard output, of a judgement with the offset `at`: its words, and the offset's digits
abbrev pub Says : Option Finding → ℕ → List ℕ → List ℕ → Type 0
Says None at ws ds = ⊥
Says (Some Accepted) at ws ds = (ws ≡ text "accepted") × (ds ≡ [])
Says (Some Differs) at ws ds = (ws ≡ text "differs at byte ") × Decimal at ds
Says (Some TooLong) at ws ds = (ws ≡ text "too long at byte ") × Decimal at ds
Says (Some EndsEarly) at ws ds = (ws ≡ text "ends early at byte ") × Decimal at ds
Says (Some TraceFailed) at ws ds = ⊥
Says (Some LogFailed) at ws ds = ⊥

-- on standard error, where there is no judgement
abbrev pub Complains : Option Finding → List ℕ → Type 0
Complains None ws = ⊥
Complains (Some Accepted) ws = ⊥
Complains (Some Differs) ws = ⊥
Complains (Some TooLong) ws = ⊥
Complains (Some EndsEarly) ws = ⊥
Complains (Some TraceFailed) ws = ws ≡ text "check_log: reading the trace failed"
Complains (Some LogFailed) ws = ws ≡ text "check_log: reading the log failed"

-- the line goes on behind the name with the digits of `n`, in front of which a plus may stand
abbrev pub NumberBehind : ℕ → List ℕ → List ℕ → ℕ → Type 0
NumberBehind radix name line n = (ds : List ℕ) × (line ≡ name ++ ds) × IsNumeral radix (without_leading_plus ds) × (digits_value radix (without_leading_plus ds) ≡ n)
