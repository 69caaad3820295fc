-- What a program tells: the bytes of a text, and a number in digits.
use Rattle.std.specs.Prelude.{ℕ, ◌≡◌, List, [] as none, ◌∷◌ as ◌then◌, length}
use Prim.Native.Char.{code}
use Prim.Native.String.{String, [], ◌∷◌}
use Rattle.streams.specs.Digits.{last_digits, IsDigitCount}

-- the bytes of a text
abbrev pub text : String → List ℕ
text [] = none
text (c ∷ s) = code c then text s

-- n in as few decimal digits as it takes
abbrev pub Decimal : ℕ → List ℕ → Type 0
Decimal n ds = IsDigitCount 10 1 n (length ds) × (ds ≡ last_digits 10 (length ds) n)
