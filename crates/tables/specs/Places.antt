-- The places table: held packets, five numbers to a row (connection, length, tag, arrival, eligibility), in the order offered.
-- Document 01, "Link, connections, places".
use Rattle.std.specs.Prelude.{ℕ, suc, ◌+◌, ◌*◌, Bool, true, false, cond, List, [], ◌∷◌, ◌++◌, eqb, get_or, take, drop}
use Rattle.std.proofs.Math.Option
use Rattle.std.proofs.Math.Option.{Option, none, some}
use Rattle.std.proofs.Math.Seq.{paste}
use Rattle.std.proofs.lemmas.List.Edits.{sets}
use Rattle.rules.specs.Limits.{max_reserved}
use Rattle.rules.specs.declared.Packet.{Packet}
use Rattle.tables.specs.Table.{read, padded}

abbrev pub packet_width : ℕ
packet_width = 5

-- the numbers of the table: a row for each place
abbrev pub places_length : ℕ
places_length = packet_width * max_reserved

-- ---- a row

-- as an unused row is read
abbrev pub no_packet : Packet
no_packet = record { connection = 0; len = 0; tag = 0; arrival = 0; eligibility = 0 }

-- a packet or nothing: whether there is one, and it or an unused row
abbrev pub is_some : Option Packet → Bool
is_some none = false
is_some (some p) = true

abbrev pub packet_or_unused : Option Packet → Packet
packet_or_unused o = Option.get_or o no_packet

-- row i of a table, used or not
abbrev pub row_at : List ℕ → ℕ → Packet
row_at t i = record {
  connection = get_or t (5 * i) 0;
  len = get_or t (5 * i + 1) 0;
  tag = get_or t (5 * i + 2) 0;
  arrival = get_or t (5 * i + 3) 0;
  eligibility = get_or t (5 * i + 4) 0;
}

-- ---- a table

unfoldable pub rows : List ℕ → List Packet
rows t = read packet_width (λ r. record { connection = get_or r 0 0; len = get_or r 1 0; tag = get_or r 2 0; arrival = get_or r 3 0; eligibility = get_or r 4 0 }) t

-- packets as a table of n numbers, a row for each
unfoldable pub table_of : ℕ → List Packet → List ℕ
table_of n ps = padded packet_width (λ p. p.connection ∷ p.len ∷ p.tag ∷ p.arrival ∷ p.eligibility ∷ []) n ps

-- .. and as the places table
abbrev pub written_places : List Packet → List ℕ
written_places ps = table_of places_length ps

-- the numbers of a row, and the table with p as row i
abbrev pub numbers_of : Packet → List ℕ
numbers_of p = p.connection ∷ p.len ∷ p.tag ∷ p.arrival ∷ p.eligibility ∷ []

abbrev pub put : List ℕ → ℕ → Packet → List ℕ
put t i p = sets t (5 * i) (numbers_of p)

-- n numbers from k + 5 on, moved down to k
abbrev pub shifted : List ℕ → ℕ → ℕ → List ℕ
shifted t k n = paste t k (drop (k + 5) t) n

-- without the i-th element
abbrev pub cut : {A : Type 0} → ℕ → List A → List A
cut i xs = take i xs ++ drop (suc i) xs

-- the place of the first row of connection c; the number of rows where there is none
abbrev pub place : ℕ → List Packet → ℕ
place c [] = 0
place c (p ∷ ps) = cond (eqb p.connection c) 0 (suc (place c ps))
