-- What a sound `Kept` and its tables give: one discipline that is sound, the other fresh, and tables that are what is written of the line.
use Prim.Native.Nat.{◌≤◌}
use native.Mathlib.Omega.{arith}
use mathlib.Core.Path.{◌≡◌, refl, sym, ap, ◌∙◌}
use mathlib.Core.Bool.{Bool, true, false, not, ◌&&◌, ◌||◌, true≢false}
use lib.Dec.{eqb}
use borrow.Author.Tests.{eq-eqb, ne_eqb}
use lib.ListN.{length, take}
use lib.Seq.{length-take-le}
use Rattle.rules.specs.Model.{fresh as level_fresh}
use Rattle.rules.proofs.Tests.{and_true, not_true_false}
use Rattle.rules.proofs.Sums.{cond_is, cond_ind}
use Rattle.rules.proofs.Every.{fresh_invariant as level_fresh_invariant}
use Rattle.frames.specs.Model.{fresh as FrameFresh}
use Rattle.frames.proofs.Every.{fresh_invariant as frame_fresh_invariant}
use Rattle.either_line.specs.Line.{levels_set, frames_set, clock_of, SoundLine, sound_line}
use Rattle.either_line.proofs.Results.{test_is_exact}
use Rattle.tables.specs.Lent.{Tables}
use Rattle.shares.specs.Shares.{shares_length}
use Rattle.state.specs.View.{Hub}
use Rattle.state.specs.View.{hub_of, sound_hub, written as level_written}
use Rattle.state.proofs.SoundLaws.{is_sound as level_is_sound, tables_kept as level_kept, members_size}
use Rattle.framed_state.specs.View.{Frames}
use Rattle.framed_state.specs.View.{frames_of, sound_frames, written as frame_written}
use Rattle.framed_state.proofs.SoundLaws.{is_sound as frame_is_sound, tables_kept as frame_kept}
use Rattle.both.specs.declared.Kept.{Kept}
use Rattle.both.specs.View.{has_frames, has_link, framed, view, kept_clock, kept_of, unframed, written, unused_hub, unused_frames, members_framed, sound_kept}
use Rattle.both.proofs.Views.{of_levels, of_frames}
use Rattle.both.proofs.FreshLaws.{fresh_hub, fresh_frames}
use Rattle.both.proofs.TablesLaws.{framed_long, tables_back}

-- ---- which discipline is set

module _ (h : Kept) where
  pub are_set : (h.frames.link.frame ≡ 0 → ⊥) → has_frames h ≡ true
  are_set n = ap not (ne_eqb h.frames.link.frame 0 n)

  pub none_set : h.frames.link.frame ≡ 0 → has_frames h ≡ false
  none_set z = ap not (eq-eqb h.frames.link.frame 0 z)

  module _ (t : Tables) where
    pub seen_framed : has_frames h ≡ true → view h t ≡ of_frames h t
    seen_framed f = cond_is (of_frames h t) (of_levels h t) f

    pub seen_level : has_frames h ≡ false → view h t ≡ of_levels h t
    seen_level n = cond_is (of_frames h t) (of_levels h t) n

    -- so it is of the line
    pub line_framed : has_frames h ≡ true → frames_set (view h t) ≡ true
    line_framed f = ap frames_set (seen_framed f) ∙ f

    pub line_level : has_frames h ≡ false → frames_set (view h t) ≡ false
    line_level n = ap frames_set (seen_level n)

-- a link is set on the line where one is kept
or_always : (b : Bool) → (b || true) ≡ true
or_always true = refl
or_always false = refl

pub set_seen : (h : Kept) (t : Tables) → (levels_set (view h t) || frames_set (view h t)) ≡ has_link h
set_seen h t = go (eqb h.frames.link.frame 0) refl
  where
    go : (b : Bool) → eqb h.frames.link.frame 0 ≡ b → (levels_set (view h t) || frames_set (view h t)) ≡ has_link h
    go true e = rw e
    go false e = rw e (ap not e ∙ sym (or_always (not (eqb h.hub.link.levels 0))))

-- the clock of the line is that of the discipline that is set
pub clock_kept : (h : Kept) (t : Tables) → clock_of (view h t) ≡ kept_clock h
clock_kept h t =
    cond_ind (λ s. clock_of s ≡ kept_clock h) (has_frames h)
    (λ f. cond_is h.frames.clock level_fresh.clock f ∙ sym (cond_is h.frames.clock h.hub.clock f))
    (λ n. sym (cond_is h.frames.clock h.hub.clock n))

module _ (h : Kept) (t : Tables) (ok : sound_kept h t ≡ true) where
  -- ---- frames are set

  module _ (f : has_frames h ≡ true) where
    framed_parts : (unused_hub h.hub && (members_framed t.members && sound_frames h.frames (framed t))) ≡ true
    unfolding sound_kept
    framed_parts = sym (cond_is _ (unused_frames h.frames && sound_hub h.hub t) f) ∙ ok

    pub hub_fresh : h.hub ≡ hub_of level_fresh
    hub_fresh = fresh_hub h.hub (and_true (unused_hub h.hub) _ framed_parts).0

    pub shares_inside : members_framed t.members ≡ true
    shares_inside = (and_true (members_framed t.members) _ (and_true (unused_hub h.hub) _ framed_parts).1).0

    pub frames_sound : sound_frames h.frames (framed t) ≡ true
    frames_sound = (and_true (members_framed t.members) _ (and_true (unused_hub h.hub) _ framed_parts).1).1

    pub framed_line : SoundLine (of_frames h t)
    framed_line = record {
      levels_sound = level_fresh_invariant.sound;
      frames_sound = frame_is_sound h.frames (framed t) frames_sound;
      never_both = λ l _. true≢false (sym l);
    }

    framed_kept : t ≡ written (of_frames h t)
    framed_kept =
        sym (tables_back t shares_inside)
        ∙ ap unframed (frame_kept h.frames (framed t) frames_sound)
        ∙ sym (cond_is (unframed (frame_written (of_frames h t).frames)) (level_written level_fresh) f)

  -- ---- they are not

  module _ (n : has_frames h ≡ false) where
    level_parts : (unused_frames h.frames && sound_hub h.hub t) ≡ true
    unfolding sound_kept
    level_parts = sym (cond_is (unused_hub h.hub && (members_framed t.members && sound_frames h.frames (framed t))) _ n) ∙ ok

    pub frames_fresh : h.frames ≡ frames_of FrameFresh
    frames_fresh = fresh_frames h.frames (and_true (unused_frames h.frames) _ level_parts).0

    pub hub_sound : sound_hub h.hub t ≡ true
    hub_sound = (and_true (unused_frames h.frames) _ level_parts).1

    pub level_line : SoundLine (of_levels h t)
    level_line = record {
      levels_sound = level_is_sound h.hub t hub_sound;
      frames_sound = frame_fresh_invariant.sound;
      never_both = λ _ f. true≢false (sym f);
    }

    -- a hub with a link
    pub line_linked : (h.hub.link.levels ≡ 0 → ⊥) → levels_set (view h t) ≡ true
    line_linked l = ap levels_set (seen_level h t n) ∙ ap not (ne_eqb h.hub.link.levels 0 l)

  -- a hub with a link has no frames beside it
  pub linked_alone : (h.hub.link.levels ≡ 0 → ⊥) → has_frames h ≡ false
  linked_alone l = not_true_false (has_frames h) (λ f. l (ap (λ (x : Hub). x.link.levels) (hub_fresh f)))

  -- ---- either

  -- there is room for the table of shares
  pub room_for_shares : shares_length ≤ length t.members
  room_for_shares = go (has_frames h) refl
    where
      go : (b : Bool) → has_frames h ≡ b → shares_length ≤ length t.members
      go true f = omega (arith, framed_long t.members (shares_inside f))
      go false n = omega (arith, members_size h.hub t (hub_sound n))

  pub shares_long : shares_length ≡ length (take shares_length t.members)
  shares_long = sym (length-take-le shares_length t.members room_for_shares)

  pub is_sound : SoundLine (view h t)
  is_sound = cond_ind SoundLine (has_frames h) framed_line level_line

  pub sound_view : sound_line (view h t) ≡ true
  sound_view = (test_is_exact (view h t)).1 is_sound

  -- the tables are what is written of what is read in them
  pub tables_kept : t ≡ written (view h t)
  tables_kept = cond_ind (λ s. t ≡ written s) (has_frames h) framed_kept (λ n. level_kept h.hub t (hub_sound n))

  -- .. and so is what is kept
  pub kept_back : h ≡ kept_of (view h t)
  kept_back =
      cond_ind (λ s. h ≡ kept_of s) (has_frames h)
      (λ f. ap (λ (x : Hub). record { hub = x; frames = h.frames }) (hub_fresh f))
      (λ n. ap (λ (x : Frames). record { hub = h.hub; frames = x }) (frames_fresh n))

-- ---- the test, in code

module _ (h : Kept) (t : Tables) where
  pub framed_test : has_frames h ≡ true → (b : Bool) → b ≡ (unused_hub h.hub && (members_framed t.members && sound_frames h.frames (framed t))) → b ≡ sound_kept h t
  unfolding sound_kept
  framed_test f b e = e ∙ sym (cond_is (unused_hub h.hub && (members_framed t.members && sound_frames h.frames (framed t))) (unused_frames h.frames && sound_hub h.hub t) f)

  pub level_test : has_frames h ≡ false → (b : Bool) → b ≡ (unused_frames h.frames && sound_hub h.hub t) → b ≡ sound_kept h t
  unfolding sound_kept
  level_test n b e = e ∙ sym (cond_is (unused_hub h.hub && (members_framed t.members && sound_frames h.frames (framed t))) (unused_frames h.frames && sound_hub h.hub t) n)
