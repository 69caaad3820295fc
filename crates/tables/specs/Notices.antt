-- The table of notices: rows as in the places table, so that one reader, one writer and one removal serve both; each bears the notices' number, and an
-- eligibility that is its arrival. docs/RULES.md, R-1.
use Rattle.std.specs.Prelude.{ℕ, ◌*◌, Bool, ◌&&◌, List, map, eqb}
use Rattle.rules.specs.Limits.{max_notices, notice_number}
use Rattle.rules.specs.declared.Packet.{Packet}
use Rattle.rules.specs.declared.Notice.{Notice}
use Rattle.rules.specs.Model.{notice_packet}
use Rattle.rules.specs.Words.{each}
use Rattle.tables.specs.Table.{formed}
use Rattle.tables.specs.Places.{packet_width, rows, table_of}

-- the numbers of the table: a row for each place
abbrev pub notices_length : ℕ
notices_length = packet_width * max_notices

-- what its rows stand for
abbrev pub notices_in : List ℕ → List Notice
notices_in q = map (λ p. record { len = p.len; tag = p.tag; arrival = p.arrival }) (rows q)

abbrev pub written_notices : List Notice → List ℕ
written_notices ns = table_of notices_length (map notice_packet ns)

-- the table is what is written of what is read: its length, zeros behind its rows, and in each row the number and an eligibility that is the arrival
abbrev pub marked : Packet → Bool
marked p = eqb p.connection notice_number && eqb p.eligibility p.arrival

unfoldable pub notices_formed : List ℕ → Bool
notices_formed q = formed packet_width notices_length q && each marked (rows q)

-- a row as the notice that it stands for
abbrev pub notice_of : Packet → Notice
notice_of p = record { len = p.len; tag = p.tag; arrival = p.arrival }
