-- What the program tells on standard error.
use Rattle.std.specs.Prelude.{ℕ, ◌≡◌, List, [], Option, None, Some}
use Rattle.turns.specs.declared.End.{End}
use Rattle.turns.specs.declared.End.TheVariants.{Whole, Malformed, ReadFailed, NotTaken}
use Rattle.turns.specs.Words.{text, Decimal}

-- the words and digits that are told of an end, with the cursor at offset `at`: nothing of a log that is whole
abbrev pub Says : Option End → ℕ → List ℕ → List ℕ → Type 0
Says None at ws ds = ⊥
Says (Some Whole) at ws ds = ⊥
Says (Some Malformed) at ws ds = (ws ≡ text "mtredovim: malformed record at offset ") × Decimal at ds
Says (Some ReadFailed) at ws ds = (ws ≡ text "mtredovim: reading failed") × (ds ≡ [])
Says (Some NotTaken) at ws ds = (ws ≡ text "mtredovim: writing failed") × (ds ≡ [])
