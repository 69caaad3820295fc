-- Of a sound line: reading what is written gives it back, and what is written is sound.
use mathlib.Core.Path.{◌≡◌, refl, sym, ap, ◌∙◌}
use mathlib.Core.Bool.{Bool, true, false, ◌&&◌}
use lib.ListN.{length}
use borrow.Author.Tests.{eqb-true, not-false}
use Rattle.rules.specs.Model.{State as LevelState, fresh as level_fresh}
use Rattle.rules.proofs.Tests.{and_intro, not_true_false}
use Rattle.rules.proofs.Sums.{cond_is}
use Rattle.frames.specs.Model.{State as FrameState, fresh as FrameFresh}
use Rattle.either_line.specs.Line.{Line, levels_set, frames_set, SoundLine}
use Rattle.tables.specs.Lent.{Tables}
use Rattle.shares.specs.Shares.{shares_length}
use Rattle.state.specs.View.{hub_of, sound_hub, view as level_view, written as level_written}
use Rattle.state.proofs.WrittenLaws as level
use Rattle.framed_state.specs.View.{frames_of, sound_frames, view as frame_view, written as frame_written}
use Rattle.framed_state.proofs.SoundLaws.{shares_size}
use Rattle.framed_state.proofs.WrittenLaws as frame
use Rattle.both.specs.View.{framed, view, kept_of, unframed, written, unused_hub, unused_frames, members_framed, sound_kept}
use Rattle.both.proofs.Views.{of_levels, of_frames}
use Rattle.both.proofs.FreshLaws.{hub_unused, frames_unused}
use Rattle.both.proofs.TablesLaws.{with_zeros_framed, framed_back}

same_line : (s : Line) (u : LevelState) (v : FrameState) → u ≡ s.levels → v ≡ s.frames → ◌≡◌ {A = Line} (record { levels = u; frames = v }) s
same_line s u v e f = rw (e, f) refl

module _ (s : Line) (S : SoundLine s) where
  -- ---- frames are set: the levels are fresh

  module _ (f : frames_set s ≡ true) where
    abbrev w : Tables
    w = frame_written s.frames

    levels_fresh : s.levels ≡ level_fresh
    levels_fresh = S.levels_sound.with_no_link (eqb-true _ 0 (not-false _ (not_true_false (levels_set s) (λ l. S.never_both l f))))

    there : sound_frames (frames_of s.frames) w ≡ true
    there = frame.written_sound s.frames S.frames_sound

    long : length w.members ≡ shares_length
    long = shares_size (frames_of s.frames) w there

    are_framed : written s ≡ unframed w
    are_framed = cond_is (unframed w) (level_written s.levels) f

    taken_out : framed (written s) ≡ w
    taken_out = ap framed are_framed ∙ framed_back w long

    framed_again : view (kept_of s) (written s) ≡ s
    framed_again =
        cond_is (of_frames (kept_of s) (written s)) (of_levels (kept_of s) (written s)) f
        ∙ same_line s level_fresh (frame_view (frames_of s.frames) (framed (written s))) (sym levels_fresh)
        (ap (frame_view (frames_of s.frames)) taken_out ∙ frame.read_written s.frames (frame.writable s.frames S.frames_sound))

    framed_sound : sound_kept (kept_of s) (written s) ≡ true
    unfolding sound_kept
    framed_sound =
        cond_is _ (unused_frames (frames_of s.frames) && sound_hub (hub_of s.levels) (written s)) f
        ∙ and_intro (unused_hub (hub_of s.levels)) _ (hub_unused (hub_of s.levels) (ap hub_of levels_fresh))
        (and_intro (members_framed (written s).members) _ (ap (λ (t : Tables). members_framed t.members) are_framed ∙ with_zeros_framed w.members long)
        (ap (sound_frames (frames_of s.frames)) taken_out ∙ there))

  -- ---- they are not: they are fresh

  module _ (n : frames_set s ≡ false) where
    frames_fresh : s.frames ≡ FrameFresh
    frames_fresh = S.frames_sound.with_no_link (eqb-true _ 0 (not-false _ n))

    are_levels : written s ≡ level_written s.levels
    are_levels = cond_is (unframed (frame_written s.frames)) (level_written s.levels) n

    level_again : view (kept_of s) (written s) ≡ s
    level_again =
        cond_is (of_frames (kept_of s) (written s)) (of_levels (kept_of s) (written s)) n
        ∙ same_line s (level_view (hub_of s.levels) (written s)) FrameFresh
        (ap (level_view (hub_of s.levels)) are_levels ∙ level.read_written s.levels (level.writable s.levels S.levels_sound))
        (sym frames_fresh)

    level_sound : sound_kept (kept_of s) (written s) ≡ true
    unfolding sound_kept
    level_sound =
        cond_is (unused_hub (hub_of s.levels) && (members_framed (written s).members && sound_frames (frames_of s.frames) (framed (written s)))) _ n
        ∙ and_intro (unused_frames (frames_of s.frames)) _ (frames_unused (frames_of s.frames) (ap frames_of frames_fresh))
        (ap (sound_hub (hub_of s.levels)) are_levels ∙ level.written_sound s.levels S.levels_sound)

-- READING WHAT IS WRITTEN gives the line back, and what is written is sound
pub written_reads_back : (s : Line) → SoundLine s → (view (kept_of s) (written s) ≡ s) × (sound_kept (kept_of s) (written s) ≡ true)
written_reads_back s S = go (frames_set s) refl
  where
    go : (b : Bool) → frames_set s ≡ b → (view (kept_of s) (written s) ≡ s) × (sound_kept (kept_of s) (written s) ≡ true)
    go true f = (framed_again s S f, framed_sound s S f)
    go false n = (level_again s S n, level_sound s S n)
