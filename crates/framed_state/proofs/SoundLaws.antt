-- What a sound `Frames` and its tables give: a sound state, and tables that are what is written of it.
use native.Mathlib.Omega.{arith}
use mathlib.Core.Path.{◌≡◌}
use mathlib.Core.Bool.{true}
use lib.ListN.{length}
use Rattle.rules.specs.Limits.{notice_number}
use Rattle.rules.specs.Words.{All}
use Rattle.rules.proofs.Lists.{all_map}
use Rattle.rules.proofs.Tests.{and_true}
use Rattle.frames.specs.SoundState.{SoundWithLink, Sound}
use Rattle.frames.specs.SoundTest.{sound}
use Rattle.frames.proofs.Figures.{stands_below}
use Rattle.frames.proofs.SoundExact.{exact}
use Rattle.tables.specs.Places.{places_length, rows, table_of}
use Rattle.tables.specs.Lent.{formed_with}
use Rattle.tables.proofs.LentLaws as L
use Rattle.shares.specs.Shares.{shares_length, shares_in, shares_formed}
use Rattle.shares.proofs.ShareLaws.{shares_back, shares_long}
use Rattle.framed_state.specs.View.{Frames, Tables, view, written, tables_formed, sound_frames}

-- ---- formed tables

pub shapes : (t : Tables) → tables_formed t ≡ true → L.Formed shares_formed t
unfolding tables_formed
shapes t ok = L.shapes shares_formed t ok

module _ (h : Frames) (t : Tables) (ok : sound_frames h t ≡ true) where
  pub formed_tables : tables_formed t ≡ true
  unfolding sound_frames
  formed_tables = (and_true (tables_formed t) (sound (view h t)) ok).0

  formed : formed_with shares_formed t ≡ true
  unfolding tables_formed
  formed = formed_tables

  pub sound_view : sound (view h t) ≡ true
  unfolding sound_frames
  sound_view = (and_true (tables_formed t) (sound (view h t)) ok).1

  pub is_sound : Sound (view h t)
  is_sound = (exact (view h t)).0 sound_view

  -- ---- the tables are what is written of what is read in them

  pub shares_kept : t.members ≡ (written (view h t)).members
  shares_kept = shares_back t.members (shapes t formed_tables).members_shape

  pub places_kept : t.places ≡ (written (view h t)).places
  places_kept = L.places_kept shares_formed t formed

  pub notices_kept : t.notices ≡ (written (view h t)).notices
  notices_kept = L.notices_kept shares_formed t formed

  pub tables_kept : t ≡ written (view h t)
  tables_kept = L.tables_kept shares_formed t formed (written (view h t)).members shares_kept

  -- ---- their lengths, and what each has room for

  pub shares_size : length t.members ≡ shares_length
  shares_size = shares_long t.members (shapes t formed_tables).members_shape

  pub places_size : length t.places ≡ places_length
  places_size = L.places_size shares_formed t formed

  pub notices_as_table : t.notices ≡ table_of (length t.notices) (rows t.notices)
  notices_as_table = L.notices_as_table shares_formed t formed

  -- ---- with a link set

  module _ (n : h.link.frame ≡ 0 → ⊥) where
    pub linked : SoundWithLink (view h t)
    linked = is_sound.with_one n

    -- each row names a connection, which has another number than the notices
    pub others : All (λ p. p.connection ≡ notice_number → ⊥) (rows t.places)
    others = all_map (λ p f e. omega (arith, linked.few, stands_below (shares_in t.members) p.connection f.standing)) (rows t.places) linked.fit
