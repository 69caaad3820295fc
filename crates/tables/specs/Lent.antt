-- The three tables that a caller lends to a call of either discipline. Document 01, "Link, connections, places".
use Rattle.std.specs.Prelude.{ℕ, Bool, ◌&&◌, List}
use Rattle.tables.specs.Table.{formed}
use Rattle.tables.specs.Places.{packet_width, places_length}
use Rattle.tables.specs.Notices.{notices_formed}

-- of connections, of places, of notices; a contract names the three slices as they are handed in, or as they are left
pub record Tables : Type 0 where
  pub members : List ℕ
  pub places : List ℕ
  pub notices : List ℕ

abbrev pub tables : List ℕ → List ℕ → List ℕ → Tables
tables members places notices = record { members = members; places = places; notices = notices }

-- they are what is written of what is read in them, where `members_formed` says it of the first: their lengths, "everything unused is zero", the notices' marks
abbrev pub formed_with : (List ℕ → Bool) → Tables → Bool
formed_with members_formed t = formed packet_width places_length t.places && (members_formed t.members && notices_formed t.notices)
