-- What writing answers and does to the bytes that a writer holds, where those are known; std's `ReadsAtMost` and `ReadConsumes` say it of reading.
use Rattle.std.specs.Prelude.{◌≡◌, ℕ, ◌≤◌, List, length, take, Option, Result, Ok, Err}
use Rattle.std.specs.Io.KnownBytes.{Appends}
use Rattle.streams.specs.declared.WriteError.{WriteError}
use Rattle.streams.specs.Digits.{last_digits, IsDigitCount}

-- the first n of the bytes xs are within them: n is how many they are
abbrev pub IsPrefixLen : ℕ → List ℕ → Type 0
IsPrefixLen n xs = (n ≤ length xs) × (n ≡ length (take n xs))

-- all bytes were written behind known ones; or the first of them were
abbrev pub Writes : Option (List ℕ) → Option (List ℕ) → Result (Unit {0}) WriteError → List ℕ → Type 0
Writes old new (Ok done) bytes = Appends old new bytes
Writes old new (Err e) bytes = (n : ℕ) × (n ≤ length bytes) × Appends old new (take n bytes)

-- n's decimal digits were written behind known bytes; or the first of them were
abbrev pub WritesNumber : Option (List ℕ) → Option (List ℕ) → Result (Unit {0}) WriteError → ℕ → Type 0
WritesNumber old new all n = (k : ℕ) × IsDigitCount 10 1 n k × Writes old new all (last_digits 10 k n)
