-- Of a sound state: reading what is written gives it back, and its tables are formed, with nothing but zeros behind their rows.
use Prim.Native.Nat.{ℕ, ◌<◌}
use native.Mathlib.Omega.{arith}
use mathlib.Core.Path.{◌≡◌, refl, sym, ap, ◌∙◌, subst}
use mathlib.Core.Bool.{Bool, true, false}
use mathlib.Core.Logic.{⊎_elim}
use lib.ListN.{length, length-replicate, get_or-replicate}
use Rattle.rules.specs.Words.{All}
use Rattle.rules.specs.Limits.{max_connections}
use Rattle.rules.specs.Model.{Past, State, no_connection, no_past, fresh, past}
use Rattle.rules.specs.Admission.{owned}
use Rattle.rules.specs.SoundState.{Orderly, SoundWithLink, Sound}
use Rattle.rules.specs.SoundTest.{sound}
use Rattle.rules.proofs.Lists.{all_map, all_from}
use Rattle.rules.proofs.Sums.{same}
use Rattle.rules.proofs.Tests.{and_intro}
use Rattle.rules.proofs.Bounds.{rows_fit_places}
use Rattle.rules.proofs.SoundExact.{exact}
use Rattle.tables.proofs.PlacesLaws.{places_again}
use Rattle.tables.proofs.NoticeLaws.{notices_again}
use Rattle.tables.proofs.LentLaws.{WritableRows, nothing_held, written_tables_formed}
use Rattle.connections.specs.Members.{used_by, first_closed, members_formed}
use Rattle.connections.proofs.WrittenLaws.{Few, connections_back, pasts_back, closed_back, members_formed_back}
use Rattle.state.specs.View.{view, hub_of, written, tables_formed, sound_hub}

pub record Writable (s : State) : Type 0 where
  pub numbers : length s.connections ≡ max_connections
  pub each_past : length s.pasts ≡ max_connections
  pub each_mark : length s.closed ≡ max_connections
  pub short : All Few s.pasts
  pub rows : WritableRows s.held s.notices

-- no more is remembered of a number than there is room for: by its owner, or, where it is free, nothing
past_few : (s : State) → Orderly s → (c : ℕ) → c < max_connections → Few (past s c)
past_few s S c l = go (owned s.connections c) refl
  where
    go : (b : Bool) → owned s.connections c ≡ b → Few (past s c)
    go true e = (S.queue c e).few
    go false e = omega (arith, ap (λ (h : Past). length h) (S.free_blank c l e).1)

linked_writable : (s : State) → Sound s → SoundWithLink s → Writable s
linked_writable s T S = record {
  numbers = S.orderly.numbers;
  each_past = S.orderly.one_past_each;
  each_mark = S.orderly.one_mark_each;
  short = all_from Few s.pasts no_past (λ c l. past_few s S.orderly c (omega (arith, S.orderly.one_past_each)));
  rows = record {
    sent = all_map (λ p f. f.some_len) s.held S.orderly.fit;
    fit = rows_fit_places s T;
    said = all_map (λ n f. f.some_len) s.notices S.orderly.line.notices_fit;
    few_said = S.orderly.line.few_notices;
  };
}

fresh_writable : Writable fresh
fresh_writable = record {
  numbers = length-replicate max_connections no_connection;
  each_past = length-replicate max_connections no_past;
  each_mark = length-replicate max_connections false;
  short = all_from Few fresh.pasts no_past (λ c l. omega (arith, ap (λ (h : Past). length h) (get_or-replicate max_connections c no_past no_past (omega (arith, length-replicate max_connections no_past)))));
  rows = nothing_held;
}

pub writable : (s : State) → Sound s → Writable s
writable s S =
    ⊎_elim
    (λ z. subst Writable (sym (S.with_no_link z)) fresh_writable)
    (λ n. linked_writable s S (S.with_one n))
    (same s.link.levels 0)

module _ (s : State) (W : Writable s) where
  -- READING WHAT IS WRITTEN gives the state back
  pub read_written : view (hub_of s) (written s) ≡ s
  read_written =
      rw
      (connections_back s.connections s.pasts s.closed (used_by s.connections) (first_closed s.pasts s.closed) W.numbers W.each_past W.each_mark W.short, pasts_back s.connections s.pasts s.closed (used_by s.connections) (first_closed s.pasts s.closed) W.numbers W.each_past W.each_mark W.short, closed_back s.connections s.pasts s.closed (used_by s.connections) (first_closed s.pasts s.closed) W.numbers W.each_past W.each_mark W.short, places_again s.held W.rows.sent, notices_again s.notices W.rows.said W.rows.few_said)

  formed_again : tables_formed (written s) ≡ true
  unfolding tables_formed
  formed_again =
      written_tables_formed members_formed (written s).members s.held s.notices
      (members_formed_back s.connections s.pasts s.closed W.numbers W.each_past W.each_mark W.short) W.rows

-- and what is written is sound
pub written_sound : (s : State) → Sound s → sound_hub (hub_of s) (written s) ≡ true
unfolding sound_hub
written_sound s S =
    and_intro (tables_formed (written s)) (sound (view (hub_of s) (written s))) (formed_again s (writable s S))
    (ap sound (read_written s (writable s S)) ∙ (exact s).1 S)
