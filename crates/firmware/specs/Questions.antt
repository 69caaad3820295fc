-- THE QUESTIONS, answered by the rules' own definitions. Document 01, "Two questions from C firmware"; document 02, R-2, R-6, R-9 and R-12.
use Rattle.std.specs.Prelude.{ℕ, ◌*◌, ◌/◌, Bool, cond, ◌&&◌, List, [], ◌∷◌, ◌++◌, eqb, leb, length, take, drop, Option, Some, None}
use Rattle.rules.specs.declared.Link.{Link}
use Rattle.rules.specs.declared.Connection.{Connection}
use Rattle.rules.specs.Words.{every, tabulate}
use Rattle.rules.specs.Limits.{max_connections}
use Rattle.rules.specs.declared.Short.{Short}
use Rattle.rules.specs.Model.{Past, no_link}
use Rattle.rules.specs.Admission.{link_within, level_test}
use Rattle.rules.specs.SoundTest.{connection_sound}
use Rattle.rules.specs.Service.{next_eligibility}
use Rattle.fields.specs.Numbers.{get_fields}
use Rattle.fields.specs.Kinds.{Kind}
use Rattle.fields.specs.Formats.{starts}
use Rattle.traces.specs.declared.Record.{Record}
use Rattle.traces.specs.Kinds.{LK, LW, CN}
use Rattle.traces.specs.Trace.{Found, trace_layout, read_trace}
use Rattle.named.specs.Named.{link_named, connection_named}

-- ---- (a)

-- "from a flag (0: no earlier packet; any other number: one), the last eligibility": what is remembered
abbrev pub past_asked : ℕ → ℕ → Past
past_asked flag last = cond (eqb flag 0) [] (last ∷ [])

-- ".., a gap and the present tick .. the next eligibility": of a connection only its gap counts; it has no average (R-6) and is of the first kind (R-9)
unfoldable pub next_asked : ℕ → ℕ → ℕ → ℕ → ℕ
next_asked flag last gap now = next_eligibility (record { level = 0; gap = gap; size = 0; window = 0; average = 0; kind = 0; allowance = 0 }) (past_asked flag last) now

-- ---- (b)

-- the link that a record names, by its kind and its numbers: an `LK`, or an `LW` (R-12), with its setting and its windows. No link, which is within no limits, where a record
-- is of another kind or malformed
abbrev pub link_of : Option (Kind Record × List ℕ) → Link
link_of None = no_link
link_of (Some (k, xs)) =
    cond (starts LK.mark k.mark) (link_named (take 3 xs ++ 0 ∷ drop 3 xs)) (cond (starts LW.mark k.mark) (link_named xs) no_link)

-- "one whole `LK` record", or `LW`: the link that it names; none where the bytes are malformed or more than the record
abbrev pub link_whole : ℕ → Found → Link
link_whole n None = no_link
link_whole n (Some (r, taken)) = cond (eqb taken n) (link_of (trace_layout r)) no_link

unfoldable pub link_asked : List ℕ → Link
link_asked lk = link_whole (length lk) (read_trace lk)

-- a table of "rows laid out as in `CN` after its mark", which are of 9 bytes since R-6: row i, and all rows. They are of the first kind
unfoldable pub row_asked : List ℕ → ℕ → Connection
row_asked rows i = connection_named (get_fields (CN.widths 0) rows (9 * i))

abbrev pub all_rows : List ℕ → List Connection
all_rows rows = tabulate (length rows / 9) (row_asked rows)

-- no "length doesn't fit, .. a link or connection limit is broken or there are more than 64 rows" (200 since R-7); nor are "the bytes malformed": they name no link then,
-- which is within no limits
unfoldable pub well_asked : Link → List ℕ → Bool
well_asked l rows =
    let n = length rows / 9 in
    link_within l && (eqb (length rows) (9 * n) && (leb n max_connections && every n (λ i. connection_sound l (row_asked rows i))))

-- what the level test says of the link and all rows: level "0 if all level tests hold, else the lowest failing level", and, R-2, the units by which that level is
-- over, 0 unless one fails; "255 if" the question is not well asked: no level has that number, and no units go with it
unfoldable pub short_asked : List ℕ → List ℕ → Short
short_asked lk rows = cond (well_asked (link_asked lk) rows) (level_test (link_asked lk) (all_rows rows)) (record { level = 255; units = 0 })
