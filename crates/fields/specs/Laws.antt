-- The laws of the formats, stated once for all kinds. Their proofs, of traces and of answers, are in proofs/Laws of those crates.
use Rattle.std.specs.Prelude.{◌≡◌, true, List, ◌++◌, ℕ, ◌<◌, ◌≤◌, ◌^◌, length, get_or, take, Option, Some, None}
use Rattle.fields.specs.Kinds.{Kind}
use Rattle.fields.specs.Formats.{read_kinds, laid}

-- A record, by its layout, that is written, and whose numbers fit their fields, as all do that the code can be handed. Only 0 fits where there is no byte.
abbrev pub Written : {R : Type 0} → Option (Kind R × List ℕ) → Type 0
Written None = ⊥
Written (Some (k, xs)) = (k.allows (get_or xs 0 0) ≡ true) × ((i : ℕ) → get_or xs i 0 < 256 ^ get_or (k.widths (get_or xs 0 0)) i 0)

-- The laws of a format: of the kinds that are read and the layout of each record, and, by the document's tables, the longest record and each one's length.
pub record Lawful {R : Type 0} (kinds : List (Kind R)) (layout : R → Option (Kind R × List ℕ)) (longest : ℕ) (table : R → ℕ) : Type 0 where
  -- "Reading what is written gives the record back", with any bytes behind it, and takes the record's bytes and no other.
  pub reads_back : (r : R) (rest : List ℕ) → Written (layout r) → read_kinds kinds (laid (layout r) ++ rest) ≡ Some (r, length (laid (layout r)))
  -- "Writing what was read gives the bytes back."
  pub writes_back : (bs : List ℕ) (r : R) (n : ℕ) → ((i : ℕ) → get_or bs i 0 < 256) → read_kinds kinds bs ≡ Some (r, n) → laid (layout r) ≡ take n bs
  -- No two different records have the same bytes.
  pub tells_apart : (r q : R) → Written (layout r) → Written (layout q) → laid (layout r) ≡ laid (layout q) → r ≡ q
  -- A record's length is the one of the table.
  pub has_length : (r : R) → 0 < length (laid (layout r)) → length (laid (layout r)) ≡ table r
  -- Reading looks at no byte past the longest record: bytes behind that change nothing.
  pub looks_no_further : (bs rest : List ℕ) → longest ≤ length bs → read_kinds kinds (bs ++ rest) ≡ read_kinds kinds bs
