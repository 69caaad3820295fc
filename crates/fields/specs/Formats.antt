-- Document 01, "Trace and answer records": how records are read and written, whatever their kinds. R is the type of the records.
use Rattle.std.specs.Prelude.{Bool, cond, ◌&&◌, List, [], ◌∷◌, ◌++◌, ℕ, ◌+◌, length, get_or, drop, ltb, eqb, Option, Some, None}
use Rattle.fields.specs.Numbers.{put_fields, get_fields, sum, none_lost}
use Rattle.fields.specs.Kinds.{Kind}

-- Whether the bytes start with a mark.
unfoldable pub starts : List ℕ → List ℕ → Bool
starts mark bs = eqb (get_or bs 0 0) (get_or mark 0 0) && eqb (get_or bs 1 0) (get_or mark 1 0)

-- The record of one kind that the bytes start with, and how many bytes it takes; nothing where it is "cut short". `b` is the byte behind the mark.
unfoldable pub read_kind : {R : Type 0} → Kind R → ℕ → List ℕ → Option (R × ℕ)
read_kind k b bs =
    let n = 2 + sum (k.widths b) in
    cond (k.allows b) (cond (ltb (length bs) n) None (Some (k.make (λ i. get_or (get_fields (k.widths b) bs 2) i 0), n))) None

-- The same of the kind whose mark the bytes start with; nothing where the mark is "unknown".
unfoldable pub read_kinds : {R : Type 0} → List (Kind R) → List ℕ → Option (R × ℕ)
read_kinds [] bs = None
read_kinds (k ∷ ks) bs = cond (starts k.mark bs) (read_kind k (get_or bs 2 0) bs) (read_kinds ks bs)

-- The bytes of a record by its layout: the kind that it is written as, and its numbers, the first of which is n in `LK`, `LE` and `LW`. "Each record starts with a two-byte
-- mark; numbers after it .." None where it has no layout, its kind does not allow its first number or a number that has no byte is not 0: it is not written.
unfoldable pub laid : {R : Type 0} → Option (Kind R × List ℕ) → List ℕ
laid None = []
laid (Some (k, xs)) =
    let ws = k.widths (get_or xs 0 0) in
    cond (k.allows (get_or xs 0 0) && none_lost ws xs) (k.mark ++ put_fields ws xs) []

-- What is written of bytes into the room lent: nothing of a record "longer than the room lent".
unfoldable pub fitting : List ℕ → List ℕ → List ℕ
fitting bs room = cond (ltb (length room) (length bs)) [] bs

-- The room with bs written at its start: "bytes behind a written record stay".
abbrev pub over : List ℕ → List ℕ → List ℕ
over bs room = bs ++ drop (length bs) room
