-- Document 01, "Trace and answer records": what a kind of records is. The ten kinds of its table, and the ten
-- of document 02, R-1, R-8, R-9 and R-11 to R-13, stand in the crates `traces` and `answers`. R is the type of the records.
use Rattle.std.specs.Prelude.{Bool, true, List, ℕ}

-- A kind: its mark; which byte may stand behind the mark; the widths of its fields, which of `LK`, `LE` and `LW` depend on that byte, their n; and the record
-- that its numbers make: x 0, x 1 and so on, 0 past the last. A field of width 0 has no byte, and its number is read as 0.
pub record Kind (R : Type 0) : Type 0 where
  pub mark : List ℕ
  pub allows : ℕ → Bool
  pub widths : ℕ → List ℕ
  pub make : (ℕ → ℕ) → R

-- A kind whose fields have these widths, whatever they hold.
abbrev pub plain : {R : Type 0} → List ℕ → List ℕ → ((ℕ → ℕ) → R) → Kind R
plain mark widths make = record { mark = mark; allows = λ b. true; widths = λ b. widths; make = make }
