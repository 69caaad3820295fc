-- THE TIE: the state of the second discipline that a `Frames` and its three tables stand for, and a state written back. Document 02, R-13.
use Rattle.std.specs.Prelude.{Bool, ◌&&◌, replicate}
use Rattle.frames.specs.Model.{State}
use Rattle.frames.specs.SoundTest.{sound}
use Rattle.tables.specs.Places.{places_length, rows, table_of}
use Rattle.tables.specs.Notices.{notices_length, notices_in, written_notices}
use Rattle.tables.specs.Lent.{formed_with}
pub use Rattle.tables.specs.Lent.{Tables, tables}
use Rattle.line.specs.Wires.{on_wire}
use Rattle.shares.specs.Shares.{shares_length, shares_in, written_shares, shares_formed}
use Rattle.frames.specs.declared.Framing.{Framing}
use Rattle.line.specs.declared.Hub as line

-- the part of the state that no table holds
abbrev pub Frames : Type 0
Frames = line.Hub Framing

-- as every line starts
abbrev pub zero_tables : Tables
zero_tables = tables (replicate shares_length 0) (replicate places_length 0) (replicate notices_length 0)

-- the state that they stand for
abbrev pub view : Frames → Tables → State
view h t = record {
  link = h.link;
  connections = shares_in t.members;
  clock = h.clock;
  held = rows t.places;
  notices = notices_in t.notices;
  serving = h.wire.serving;
  to_go = h.wire.to_go;
  silent = h.wire.silent;
}

-- a state written back: the part that no table holds, and the tables
abbrev pub frames_of : State → Frames
frames_of s = record { link = s.link; clock = s.clock; wire = on_wire s.serving s.to_go s.silent }

abbrev pub written : State → Tables
written s = tables (written_shares s.connections) (table_of places_length s.held) (written_notices s.notices)

-- the tables are what is written of what is read in them
unfoldable pub tables_formed : Tables → Bool
tables_formed t = formed_with shares_formed t

-- docs/RULES.md, R-13, of a `Frames` and its tables as they are handed in
unfoldable pub sound_frames : Frames → Tables → Bool
sound_frames h t = tables_formed t && sound (view h t)
