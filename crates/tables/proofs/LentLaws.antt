-- Laws of the three lent tables, whatever the first of them holds: formed ones are what is written of what is read in them, and what is written is formed.
use Prim.Native.Nat.{ℕ, ◌≤◌, ◌<◌}
use native.Mathlib.Omega.{arith}
use mathlib.Core.Path.{◌≡◌}
use mathlib.Core.Bool.{Bool, true}
use mathlib.Core.List.{List, []}
use lib.ListN.{length}
use Rattle.rules.specs.declared.Packet.{Packet}
use Rattle.rules.specs.declared.Notice.{Notice}
use Rattle.rules.specs.Words.{All}
use Rattle.rules.specs.Limits.{max_reserved, max_notices}
use Rattle.rules.proofs.Tests.{and_true, and_intro}
use Rattle.tables.specs.Table.{formed}
use Rattle.tables.specs.Places.{packet_width, places_length, rows, table_of, written_places}
use Rattle.tables.specs.Notices.{notices_in, written_notices, notices_formed}
use Rattle.tables.specs.Lent.{Tables, tables, formed_with}
use Rattle.tables.proofs.TableLaws.{formed_length}
use Rattle.tables.proofs.PlacesLaws.{table_back, places_formed_again}
use Rattle.tables.proofs.NoticeLaws.{as_a_table, notices_back, written_formed}

-- what can be written: no packet and no notice of length 0, and no more than there is room for
pub record WritableRows (held : List Packet) (notices : List Notice) : Type 0 where
  pub sent : All (λ p. 0 < p.len) held
  pub fit : length held ≤ max_reserved
  pub said : All (λ n. 0 < n.len) notices
  pub few_said : length notices ≤ max_notices

pub nothing_held : WritableRows [] []
nothing_held = record { sent = tt; fit = omega arith; said = tt; few_said = omega arith }

module _ (members_formed : List ℕ → Bool) where
  pub record Formed (t : Tables) : Type 0 where
    pub members_shape : members_formed t.members ≡ true
    pub places_shape : formed packet_width places_length t.places ≡ true
    pub notices_shape : notices_formed t.notices ≡ true

  module _ (t : Tables) (ok : formed_with members_formed t ≡ true) where
    pub shapes : Formed t
    shapes =
        let a = and_true (formed packet_width places_length t.places) _ ok in
        let b = and_true (members_formed t.members) (notices_formed t.notices) a.1 in
        record { members_shape = b.0; places_shape = a.0; notices_shape = b.1 }

    pub places_kept : t.places ≡ written_places (rows t.places)
    places_kept = table_back t.places shapes.places_shape

    pub notices_kept : t.notices ≡ written_notices (notices_in t.notices)
    notices_kept = notices_back t.notices shapes.notices_shape

    pub places_size : length t.places ≡ places_length
    places_size = formed_length packet_width places_length t.places shapes.places_shape

    pub notices_as_table : t.notices ≡ table_of (length t.notices) (rows t.notices)
    notices_as_table = as_a_table t.notices shapes.notices_shape

    -- all three, where the first is what is written of what is read in it, m
    pub tables_kept : (m : List ℕ) → t.members ≡ m → t ≡ tables m (written_places (rows t.places)) (written_notices (notices_in t.notices))
    tables_kept m e i = record { members = e i; places = places_kept i; notices = notices_kept i }

  pub written_tables_formed : (m : List ℕ) (held : List Packet) (notices : List Notice) → members_formed m ≡ true → WritableRows held notices
      → formed_with members_formed (tables m (written_places held) (written_notices notices)) ≡ true
  written_tables_formed m held notices f W =
      and_intro (formed packet_width places_length (written_places held)) _ (places_formed_again held W.sent W.fit)
      (and_intro (members_formed m) (notices_formed (written_notices notices)) f (written_formed notices W.said W.few_said))
