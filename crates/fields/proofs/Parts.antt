-- Parts of what specs/Formats says, by names that the proofs use.
use Rattle.std.specs.Prelude.{Option, Some, None}
use mathlib.Core.Bool.{cond}
use mathlib.Core.List.{List, ◌++◌}
use Prim.Native.Nat.{ℕ, ◌+◌}
use lib.ListN.{length, get_or}
use lib.Dec.{ltb}
use Rattle.fields.specs.Numbers.{put_fields, sum}
use Rattle.fields.specs.Kinds.{Kind}

-- The bytes of a record of kind k with the numbers xs, where it is written.
unfoldable pub bytes : {R : Type 0} → Kind R → List ℕ → List ℕ
bytes k xs = k.mark ++ put_fields (k.widths (get_or xs 0 0)) xs

-- How many bytes a record of kind k has, whose mark is followed by the byte b.
abbrev pub size : {R : Type 0} → Kind R → ℕ → ℕ
size k b = 2 + sum (k.widths b)

-- A record r of so many bytes, and their number; nothing where it is cut short.
abbrev pub whole : {R : Type 0} → ℕ → R → List ℕ → Option (R × ℕ)
whole n r bs = cond (ltb (length bs) n) None (Some (r, n))
