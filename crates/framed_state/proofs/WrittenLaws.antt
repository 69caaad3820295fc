-- Of a sound state: reading what is written gives it back, and its tables are formed, with nothing but zeros behind their rows.
use Prim.Native.Nat.{◌≤◌, ◌<◌}
use native.Mathlib.Omega.{arith}
use mathlib.Core.Path.{◌≡◌, sym, ap, ◌∙◌, subst}
use mathlib.Core.Bool.{true}
use mathlib.Core.Logic.{⊎_elim}
use lib.ListN.{length}
use Rattle.rules.specs.Words.{All, within}
use Rattle.rules.specs.Limits.{max_connections}
use Rattle.rules.proofs.Lists.{all_map, all_from}
use Rattle.rules.proofs.Sums.{same}
use Rattle.rules.proofs.Tests.{and_true, and_intro, within_true}
use Rattle.frames.specs.declared.Share.{Share}
use Rattle.frames.specs.Limits.{max_units, max_places}
use Rattle.frames.specs.Model.{State, fresh}
use Rattle.frames.specs.Admission.{share_within}
use Rattle.frames.specs.SoundState.{SoundWithLink, Sound}
use Rattle.frames.specs.SoundTest.{sound}
use Rattle.frames.proofs.SoundExact.{exact}
use Rattle.frames.proofs.Results.{rows_fit}
use Rattle.tables.proofs.PlacesLaws.{places_again}
use Rattle.tables.proofs.NoticeLaws.{notices_again}
use Rattle.tables.proofs.LentLaws.{WritableRows, nothing_held, written_tables_formed}
use Rattle.shares.specs.Shares.{shares_formed}
use Rattle.shares.proofs.ShareLaws as S
use Rattle.framed_state.specs.View.{view, frames_of, written, tables_formed, sound_frames}
use Rattle.frames.proofs.Names.{no_share}

pub record Writable (s : State) : Type 0 where
  pub some_places : All (λ x. 0 < x.places) s.connections
  pub few : length s.connections ≤ max_connections
  pub rows : WritableRows s.held s.notices

places_of : (x : Share) → share_within x ≡ true → 0 < x.places
unfolding share_within
places_of x e = let a = and_true (within 1 max_units x.units) (within 1 max_places x.places) e in (within_true 1 max_places x.places a.1).0

linked_writable : (s : State) → Sound s → SoundWithLink s → Writable s
linked_writable s T S = record {
  some_places = all_from (λ x. 0 < x.places) s.connections no_share (λ c l. places_of _ (S.shares_in c l));
  few = S.few;
  rows = record {
    sent = all_map (λ p f. f.some_len) s.held S.fit;
    fit = rows_fit s T;
    said = all_map (λ n f. f.some_len) s.notices S.line.notices_fit;
    few_said = S.line.few_notices;
  };
}

fresh_writable : Writable fresh
fresh_writable = record { some_places = tt; few = omega arith; rows = nothing_held }

pub writable : (s : State) → Sound s → Writable s
writable s S =
    ⊎_elim
    (λ z. subst Writable (sym (S.with_no_link z)) fresh_writable)
    (λ n. linked_writable s S (S.with_one n))
    (same s.link.frame 0)

module _ (s : State) (W : Writable s) where
  -- READING WHAT IS WRITTEN gives the state back
  pub read_written : view (frames_of s) (written s) ≡ s
  read_written = rw (S.shares_again s.connections W.some_places, places_again s.held W.rows.sent, notices_again s.notices W.rows.said W.rows.few_said)

  formed_again : tables_formed (written s) ≡ true
  unfolding tables_formed
  formed_again =
      written_tables_formed shares_formed (written s).members s.held s.notices (S.written_formed s.connections W.some_places W.few) W.rows

-- and what is written is sound
pub written_sound : (s : State) → Sound s → sound_frames (frames_of s) (written s) ≡ true
unfolding sound_frames
written_sound s S =
    and_intro (tables_formed (written s)) (sound (view (frames_of s) (written s))) (formed_again s (writable s S))
    (ap sound (read_written s (writable s S)) ∙ (exact s).1 S)
