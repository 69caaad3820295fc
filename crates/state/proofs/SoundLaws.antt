-- What a sound hub and its tables give: a sound state, and tables that are what is written of it.
use Prim.Native.Nat.{ℕ, ◌<◌}
use native.Mathlib.Omega.{arith}
use mathlib.Core.Path.{◌≡◌}
use mathlib.Core.Bool.{true, false}
use mathlib.Core.Logic.{⊎_elim}
use lib.ListN.{length}
use Rattle.rules.specs.Words.{All}
use Rattle.rules.specs.Limits.{max_connections, notice_number}
use Rattle.rules.specs.Model.{no_connection, nth}
use Rattle.rules.specs.Admission.{owned}
use Rattle.rules.specs.Service.{expired}
use Rattle.rules.specs.SoundState.{Orderly, Sound}
use Rattle.rules.specs.SoundTest.{sound}
use Rattle.rules.proofs.Lists.{all_map}
use Rattle.rules.proofs.Tests.{and_true}
use Rattle.rules.proofs.Sums.{split}
use Rattle.rules.proofs.Standing.{owned_below}
use Rattle.rules.proofs.SoundExact.{exact}
use Rattle.tables.specs.Places.{places_length, rows, table_of}
use Rattle.tables.specs.Lent.{formed_with}
use Rattle.tables.proofs.LentLaws as L
use Rattle.connections.specs.Members.{members_length, connections_in, members_formed}
use Rattle.connections.specs.Within.{Within}
use Rattle.connections.proofs.MemberLaws.{connection_none}
use Rattle.connections.proofs.WrittenLaws.{members_written, members_long}
use Rattle.state.specs.View.{Hub, Tables, view, written, tables_formed, sound_hub}

-- ---- formed tables

pub shapes : (t : Tables) → tables_formed t ≡ true → L.Formed members_formed t
unfolding tables_formed
shapes t ok = L.shapes members_formed t ok

module _ (h : Hub) (t : Tables) (ok : sound_hub h t ≡ true) where
  pub formed_tables : tables_formed t ≡ true
  unfolding sound_hub
  formed_tables = (and_true (tables_formed t) (sound (view h t)) ok).0

  formed : formed_with members_formed t ≡ true
  unfolding tables_formed
  formed = formed_tables

  pub sound_view : sound (view h t) ≡ true
  unfolding sound_hub
  sound_view = (and_true (tables_formed t) (sound (view h t)) ok).1

  pub is_sound : Sound (view h t)
  is_sound = (exact (view h t)).0 sound_view

  -- ---- the tables are what is written of what is read in them

  pub members_kept : t.members ≡ (written (view h t)).members
  members_kept = members_written t.members (shapes t formed_tables).members_shape

  pub places_kept : t.places ≡ (written (view h t)).places
  places_kept = L.places_kept members_formed t formed

  pub notices_kept : t.notices ≡ (written (view h t)).notices
  notices_kept = L.notices_kept members_formed t formed

  pub tables_kept : t ≡ written (view h t)
  tables_kept = L.tables_kept members_formed t formed (written (view h t)).members members_kept

  -- ---- their lengths, and what each has room for

  pub members_size : length t.members ≡ members_length
  members_size = members_long t.members (shapes t formed_tables).members_shape

  pub places_size : length t.places ≡ places_length
  places_size = L.places_size members_formed t formed

  pub notices_as_table : t.notices ≡ table_of (length t.notices) (rows t.notices)
  notices_as_table = L.notices_as_table members_formed t formed

  -- ---- with a link set

  module _ (n : h.link.levels ≡ 0 → ⊥) where
    pub charged : (c : ℕ) → c < max_connections → expired (view h t) c ≡ false
    charged = (is_sound.with_one n).charged

    pub linked : Orderly (view h t)
    linked = (is_sound.with_one n).orderly

    -- each row names a connection, which has another number than the notices
    pub others : All (λ p. p.connection ≡ notice_number → ⊥) (rows t.places)
    others =
        all_map (λ p f e. omega (arith, linked.numbers, owned_below (connections_in t.members) p.connection f.owner)) (rows t.places) linked.fit

    pub figures_in_limits : Within h.link (connections_in t.members)
    figures_in_limits = record { link_in = linked.link_in; figures_in = linked.figures_in; blank_in = blank }
      where
        blank : (c : ℕ) → owned (connections_in t.members) c ≡ false → nth (connections_in t.members) c ≡ no_connection
        blank c o =
            ⊎_elim
            (λ l. connection_none t.members c l)
            (λ l. (linked.free_blank c l o).0)
            (split max_connections c)
