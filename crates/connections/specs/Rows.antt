-- Names for parts of the table of connections, for the contracts inside the crates: what Members says of them in place.
use Rattle.std.specs.Prelude.{ℕ, ◌*◌, Bool, cond, not, List, eqb, length, get_or, take}
use Rattle.rules.specs.declared.Connection.{Connection}
use Rattle.rules.specs.Limits.{max_connections, max_remembered}
use Rattle.rules.specs.Model.{Past}
use Rattle.tables.specs.Table.{numbers}
use Rattle.connections.specs.declared.Member.{Member}
use Rattle.connections.specs.Members.{member_width, members_for, written_rows}

-- the numbers of a row before the eligibilities, and where the rows end
abbrev pub member_head : ℕ
member_head = 9

abbrev pub rows_end : ℕ
rows_end = member_width * max_connections

-- what a row stands for
abbrev pub connection_of : Member → Connection
connection_of m = m.figures

abbrev pub past_of : Member → Past
past_of m = take m.known m.ticks

abbrev pub closed_of : Member → Bool
closed_of m = not (eqb m.mark 0)

-- the newest eligibility that is remembered
abbrev pub last_of : Past → ℕ
last_of h = get_or h 0 0

-- the row that is written of a connection, its past and its mark; and all rows, with any two numbers behind them
abbrev pub member : Connection → Past → Bool → Member
member x h b = record { figures = x; mark = cond b 1 0; known = length h; ticks = numbers max_remembered h }

abbrev pub written_table : List Connection → List Past → List Bool → ℕ → ℕ → List ℕ
written_table cs hs bs used first = written_rows (members_for cs hs bs) used first
