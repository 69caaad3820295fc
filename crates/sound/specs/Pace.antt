-- What the pass over the rows keeps of each connection: a table of connections that remembers them one by one. Document 01, "A sound state";
-- docs/RULES.md, R-6, R-8, R-11 and R-12.
use Rattle.std.specs.Prelude.{ℕ, ◌+◌, ◌≤◌, ◌<◌, ◌≡◌, Bool, true, false, not, ◌&&◌, ◌||◌, List, eqb, length, get_or, set}
use Rattle.rules.specs.declared.Link.{Link}
use Rattle.rules.specs.declared.Connection.{Connection}
use Rattle.rules.specs.declared.Packet.{Packet}
use Rattle.rules.specs.Limits.{max_connections, beyond_32_bits}
use Rattle.rules.specs.Model.{Past, nth, no_connection, no_past}
use Rattle.rules.specs.Admission.{owned, bound, charge_time}
use Rattle.rules.specs.Service.{remember_all, eligibilities, charge_over}
use Rattle.rules.specs.SoundTest.{left_sound}
use Rattle.tables.specs.Places.{rows, row_at}
use Rattle.connections.specs.Members.{connections_in, pasts_in, closed_in, used_in, first_in, rows_formed}
use Rattle.connections.specs.Rows.{written_table}
use Rattle.state.specs.View.{Hub}

-- ---- a table of connections

-- what it remembers of connection c, and the table with another past there
abbrev pub past_in : List ℕ → ℕ → Past
past_in t c = get_or (pasts_in t) c no_past

abbrev pub with_past : List ℕ → ℕ → Past → List ℕ
with_past t c h = written_table (connections_in t) (set (pasts_in t) c h) (closed_in t) (used_in t) (first_in t)

-- it has the connections of another table, which of them are closed, the numbers behind the rows, and remembers what f says
pub record Remembers (members t : List ℕ) (f : ℕ → Past) : Type 0 where
  pub shape : rows_formed t ≡ true
  pub same : connections_in t ≡ connections_in members
  pub marks : closed_in t ≡ closed_in members
  pub used : used_in t ≡ used_in members
  pub first : first_in t ≡ first_in members
  pub pasts : (c : ℕ) → c < max_connections → past_in t c ≡ f c

-- .. what a table remembers once these packets are accepted
abbrev pub past_with : List ℕ → List Packet → ℕ → Past
past_with t ps c = remember_all (past_in t c) (eligibilities c ps)

-- each row names a number that has an owner
abbrev pub Names : List ℕ → List ℕ → Type 0
Names t places = (k : ℕ) → k < length (rows places) → owned (connections_in t) (row_at places k).connection ≡ true

-- its figures are such that the reservation of a connection can be counted in 64 bits, and so the distance (R-11)
abbrev pub Reserves : Link → Connection → Type 0
Reserves l x = (x.level ≡ 0 → x ≡ no_connection) × ((x.level ≡ 0 → ⊥) → 1 ≤ x.gap) × (x.allowance + bound l x.level < beyond_32_bits)

-- ---- what is asked of number c, of which n packets are held

-- before the pass; of a free number nothing
abbrev pub left_with : Hub → List ℕ → ℕ → ℕ → Bool
left_with h t n c = not (owned (connections_in t) c) || left_sound h.link (nth (connections_in t) c) h.clock n (past_in t c)

-- closed: it holds nothing, and its charge is not over
abbrev pub closed_with : Hub → List ℕ → ℕ → ℕ → Bool
closed_with h t n c = not (get_or (closed_in t) c false) || (eqb n 0 && not (charge_over (charge_time h.link) h.clock (past_in t c)))
