-- THE TIE: the state of the rules that a hub and its three tables stand for, and a state written back. Document 01, "Link, connections, places".
use Rattle.std.specs.Prelude.{Bool, ◌&&◌, replicate}
use Rattle.rules.specs.Model.{State}
use Rattle.rules.specs.SoundTest.{sound}
use Rattle.tables.specs.Places.{places_length, rows, table_of}
use Rattle.tables.specs.Notices.{notices_length, notices_in, written_notices}
use Rattle.tables.specs.Lent.{formed_with}
pub use Rattle.tables.specs.Lent.{Tables, tables}
use Rattle.line.specs.Wires.{on_wire}
use Rattle.connections.specs.Members.{members_length, connections_in, pasts_in, closed_in, written_members, members_formed}
use Rattle.rules.specs.declared.Link.{Link}
use Rattle.line.specs.declared.Hub as line

-- the part of the state that no table holds
abbrev pub Hub : Type 0
Hub = line.Hub Link

-- as every hub starts
abbrev pub zero_tables : Tables
zero_tables = tables (replicate members_length 0) (replicate places_length 0) (replicate notices_length 0)

-- the state that they stand for
abbrev pub view : Hub → Tables → State
view h t = record {
  link = h.link;
  connections = connections_in t.members;
  pasts = pasts_in t.members;
  closed = closed_in t.members;
  clock = h.clock;
  held = rows t.places;
  notices = notices_in t.notices;
  serving = h.wire.serving;
  to_go = h.wire.to_go;
  silent = h.wire.silent;
}

-- a state written back: the part that no table holds, and the tables
abbrev pub hub_of : State → Hub
hub_of s = record { link = s.link; clock = s.clock; wire = on_wire s.serving s.to_go s.silent }

abbrev pub written : State → Tables
written s = tables (written_members s.connections s.pasts s.closed) (table_of places_length s.held) (written_notices s.notices)

-- the tables are what is written of what is read in them
unfoldable pub tables_formed : Tables → Bool
tables_formed t = formed_with members_formed t

-- document 01, "A sound state", of a hub and its tables as they are handed in
unfoldable pub sound_hub : Hub → Tables → Bool
sound_hub h t = tables_formed t && sound (view h t)
