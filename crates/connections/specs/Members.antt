-- The table of connections: a row for each number, with level, size, gap, averaging window, average gap, kind, allowance, a mark, how many eligibilities are remembered, and these,
-- newest first; and behind the rows two numbers that sum them up. Document 01 leaves its form open; docs/RULES.md, R-6, R-8 and R-9, has it.
use Rattle.std.specs.Prelude.{ℕ, suc, ◌+◌, ◌*◌, min, ◌≡◌, refl, Bool, cond, not, ◌&&◌, List, [], ◌∷◌, ◌++◌, map, eqb, leb, length, get_or, take, drop}
use Rattle.std.proofs.lemmas.List.Edits.{sets}
use Rattle.rules.specs.declared.Connection.{Connection}
use Rattle.rules.specs.Words.{each}
use Rattle.rules.specs.Limits.{max_connections, max_remembered}
use Rattle.rules.specs.Model.{Past}
use Rattle.limits.specs.Zeros.{zeros}
use Rattle.tables.specs.Table.{row_in, rows_in, numbers, write}
use Rattle.connections.specs.declared.Member.{Member}

abbrev pub member_width : ℕ
member_width = 25

-- the numbers of the table: a row for each number, and two behind them
abbrev pub members_length : ℕ
members_length = member_width * max_connections + 2

-- ---- rows

-- the numbers of a row, in their order, figures first, and the row that they make
abbrev pub figures_row : Connection → List ℕ
figures_row x = x.level ∷ x.size ∷ x.gap ∷ x.window ∷ x.average ∷ x.kind ∷ x.allowance ∷ []

abbrev pub row_of : Member → List ℕ
row_of m = figures_row m.figures ++ m.mark ∷ m.known ∷ numbers max_remembered m.ticks

abbrev pub member_of : List ℕ → Member
member_of r = record {
  figures = record { level = get_or r 0 0; size = get_or r 1 0; gap = get_or r 2 0; window = get_or r 3 0; average = get_or r 4 0; kind = get_or r 5 0; allowance = get_or r 6 0 };
  mark = get_or r 7 0;
  known = get_or r 8 0;
  ticks = numbers max_remembered (drop 9 r);
}

abbrev pub no_member : Member
no_member = member_of []

-- row i of a table, used or not, and the table with another there
abbrev pub member_in : List ℕ → ℕ → Member
member_in t i = member_of (row_in member_width t i)

abbrev pub put_member : List ℕ → ℕ → Member → List ℕ
put_member t i m = sets t (member_width * i) (row_of m)

-- the rows by number: number c is row c, and a free one is all zero. Other files go by the equation: opened where a proof fails, it would be written out row by row
pub members_in : List ℕ → List Member
members_in t = map member_of (rows_in member_width max_connections t)

pub members_are : (t : List ℕ) → members_in t ≡ map member_of (rows_in member_width max_connections t)
unfolding members_in
members_are t = refl

-- ---- what they stand for: a connection's figures, as many eligibilities as are remembered, and closed where there is a mark

abbrev pub connections_in : List ℕ → List Connection
connections_in t = map (λ m. m.figures) (members_in t)

abbrev pub pasts_in : List ℕ → List Past
pasts_in t = map (λ m. take m.known m.ticks) (members_in t)

abbrev pub closed_in : List ℕ → List Bool
closed_in t = map (λ m. not (eqb m.mark 0)) (members_in t)

-- ---- the two numbers behind the rows

-- how many numbers there are up to the last that has an owner
abbrev pub used_by : List Connection → ℕ
used_by [] = 0
used_by (x ∷ cs) = cond (eqb (used_by cs) 0 && eqb x.level 0) 0 (suc (used_by cs))

-- the earlier of two, of which the second is 0 where there is none
abbrev pub earlier : ℕ → ℕ → ℕ
earlier a b = cond (eqb b 0) a (min a b)

-- one more than the earliest last eligibility of those that are closed; 0 where none is
abbrev pub first_closed : List Past → List Bool → ℕ
first_closed [] bs = 0
first_closed (h ∷ hs) [] = 0
first_closed (h ∷ hs) (b ∷ bs) = cond b (earlier (suc (get_or h 0 0)) (first_closed hs bs)) (first_closed hs bs)

-- as they stand in a table
abbrev pub used_in : List ℕ → ℕ
used_in t = get_or t (member_width * max_connections) 0

abbrev pub first_in : List ℕ → ℕ
first_in t = get_or t (member_width * max_connections + 1) 0

-- ---- writing

-- the rows of connections, their pasts, and whether they are closed
abbrev pub members_for : List Connection → List Past → List Bool → List Member
members_for [] hs bs = []
members_for (x ∷ xs) [] bs = []
members_for (x ∷ xs) (h ∷ hs) [] = []
members_for (x ∷ xs) (h ∷ hs) (b ∷ bs) =
    record { figures = x; mark = cond b 1 0; known = length h; ticks = numbers max_remembered h } ∷ members_for xs hs bs

-- rows, and behind them any two numbers
unfoldable pub written_rows : List Member → ℕ → ℕ → List ℕ
written_rows ms used first = write row_of ms ++ used ∷ first ∷ []

-- .. and behind them those that sum them up
abbrev pub written_members : List Connection → List Past → List Bool → List ℕ
written_members cs hs bs = written_rows (members_for cs hs bs) (used_by cs) (first_closed hs bs)

-- the table is what is written of what is read: its length, no more eligibilities remembered than there is room for, zeros behind them, a mark that is one, and
-- the two numbers those of the rows
abbrev pub member_formed : Member → Bool
member_formed m = leb m.known max_remembered && (zeros (drop m.known m.ticks) && leb m.mark 1)

unfoldable pub rows_formed : List ℕ → Bool
rows_formed t = eqb (length t) members_length && each member_formed (members_in t)

unfoldable pub sums_formed : List ℕ → Bool
sums_formed t = eqb (used_in t) (used_by (connections_in t)) && eqb (first_in t) (first_closed (pasts_in t) (closed_in t))

unfoldable pub members_formed : List ℕ → Bool
members_formed t = rows_formed t && sums_formed t
