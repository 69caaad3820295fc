-- What is replied on a sound line: by the discipline that is set, or a refusal of what it does not know.
use Prim.Native.Nat.{ℕ}
use mathlib.Core.Path.{◌≡◌, refl, ap, ◌∙◌}
use mathlib.Core.Bool.{true, false}
use mathlib.Core.Option.{none, some}
use Rattle.rules.specs.declared.Link.{Link}
use Rattle.rules.specs.declared.Connection.{Connection}
use Rattle.rules.specs.Limits.{no_connection_number}
use Rattle.rules.specs.Model.{State as LevelState, Call as LevelCall, link as level_link, admit as level_admit, offer as level_offer, close as level_close, fresh as level_fresh}
use Rattle.rules.specs.Calls.{answer as level_answer}
use Rattle.rules.proofs.Doings.{refused as level_refused_by}
use Rattle.rules.proofs.Sums.{cond_is}
use Rattle.rules.proofs.Rows.{none_some, some_inj}
use Rattle.frames.specs.declared.Framing.{Framing}
use Rattle.frames.specs.declared.Share.{Share}
use Rattle.frames.specs.Model.{State as FrameState, Call as FrameCall, link as frame_link, admit as frame_admit, fresh as FrameFresh}
use Rattle.frames.specs.Calls.{answer as frame_answer}
use Rattle.either_line.specs.Line.{Line, Request, link_levels, link_frames, admit_level, admit_share, offer, notice, close, tick, by_levels, by_frames, refuse, levels_set, frames_set, sound_line, turn, refused_number, respond}
use Rattle.either_line.proofs.Turns.{level_links, level_unset, frame_unset}
use Rattle.either_line.proofs.Names.{level_call, frame_call}
use Rattle.frames.proofs.Names.{refused as frame_refused_by}

module _ (s : Line) (ok : sound_line s ≡ true) where
  pub reply : (k : Request) → respond k s ≡ turn k s
  reply k = cond_is (turn k s) (refuse s 1 (refused_number k)) ok

  -- ---- a request that the discipline knows

  pub levels_told : frames_set s ≡ false → (k : Request) (x : LevelCall) → level_call k ≡ some x → respond k s ≡ by_levels s (level_answer x s.levels)
  levels_told n k x e = reply k ∙ go k e
    where
      go : (k : Request) → level_call k ≡ some x → turn k s ≡ by_levels s (level_answer x s.levels)
      go (link_levels l) e = cond_is _ _ n ∙ ap (λ (y : LevelCall). by_levels s (level_answer y s.levels)) (some_inj e)
      go (link_frames l) e = absurd (none_some e)
      go (admit_level y) e = ap (λ (y : LevelCall). by_levels s (level_answer y s.levels)) (some_inj e)
      go (admit_share y) e = absurd (none_some e)
      go (offer c len tag none) e = cond_is _ _ n ∙ ap (λ (y : LevelCall). by_levels s (level_answer y s.levels)) (some_inj e)
      go (offer c len tag (some st)) e = ap (λ (y : LevelCall). by_levels s (level_answer y s.levels)) (some_inj e)
      go (notice len tag) e = cond_is _ _ n ∙ ap (λ (y : LevelCall). by_levels s (level_answer y s.levels)) (some_inj e)
      go (close c) e = ap (λ (y : LevelCall). by_levels s (level_answer y s.levels)) (some_inj e)
      go tick e = cond_is _ _ n ∙ ap (λ (y : LevelCall). by_levels s (level_answer y s.levels)) (some_inj e)

  pub link_told : levels_set s ≡ false → (l : Framing) → respond (link_frames l) s ≡ by_frames s (frame_answer (frame_link l) s.frames)
  link_told n l = reply (link_frames l) ∙ cond_is (refuse s 3 0) (by_frames s (frame_answer (frame_link l) s.frames)) n

  pub frames_told : frames_set s ≡ true → levels_set s ≡ false → (k : Request) (x : FrameCall) → frame_call k ≡ some x → respond k s ≡ by_frames s (frame_answer x s.frames)
  frames_told f n k x e = reply k ∙ go k e
    where
      go : (k : Request) → frame_call k ≡ some x → turn k s ≡ by_frames s (frame_answer x s.frames)
      go (link_levels l) e = absurd (none_some e)
      go (link_frames l) e = cond_is _ _ n ∙ ap (λ (y : FrameCall). by_frames s (frame_answer y s.frames)) (some_inj e)
      go (admit_level y) e = absurd (none_some e)
      go (admit_share y) e = ap (λ (y : FrameCall). by_frames s (frame_answer y s.frames)) (some_inj e)
      go (offer c len tag (some st)) e = absurd (none_some e)
      go (close c) e = absurd (none_some e)
      go (offer c len tag none) e = cond_is _ _ f ∙ ap (λ (y : FrameCall). by_frames s (frame_answer y s.frames)) (some_inj e)
      go (notice len tag) e = cond_is _ _ f ∙ ap (λ (y : FrameCall). by_frames s (frame_answer y s.frames)) (some_inj e)
      go tick e = cond_is _ _ f ∙ ap (λ (y : FrameCall). by_frames s (frame_answer y s.frames)) (some_inj e)

  -- ---- one that it does not know

  pub levels_refused : frames_set s ≡ true → (l : Link) → respond (link_levels l) s ≡ refuse s 3 0
  levels_refused f l = reply (link_levels l) ∙ cond_is (refuse s 3 0) (by_levels s (level_answer (level_link l) s.levels)) f

  pub frames_refused : levels_set s ≡ true → (l : Framing) → respond (link_frames l) s ≡ refuse s 3 0
  frames_refused f l = reply (link_frames l) ∙ cond_is (refuse s 3 0) (by_frames s (frame_answer (frame_link l) s.frames)) f

  pub share_refused : s.frames ≡ FrameFresh → (x : Share) → respond (admit_share x) s ≡ refuse s 2 no_connection_number
  share_refused e x = reply (admit_share x) ∙ go s.frames e
    where
      go : (y : FrameState) → y ≡ FrameFresh → by_frames s (frame_answer (frame_admit x) y) ≡ by_frames s (frame_refused_by (frame_admit x) y 2)
      go y i = rw i (ap (by_frames s) (frame_unset (frame_admit x) refl))

  module _ (e : s.levels ≡ level_fresh) where
    unset : (k : LevelCall) → level_links k ≡ false → by_levels s (level_answer k s.levels) ≡ by_levels s (level_refused_by k s.levels 2)
    unset k i = go s.levels e
      where
        go : (y : LevelState) → y ≡ level_fresh → by_levels s (level_answer k y) ≡ by_levels s (level_refused_by k y 2)
        go y j = rw j (ap (by_levels s) (level_unset k i))

    pub level_refused : (x : Connection) → respond (admit_level x) s ≡ refuse s 2 no_connection_number
    level_refused x = reply (admit_level x) ∙ unset (level_admit x) refl

    pub stamp_refused : (c len tag st : ℕ) → respond (offer c len tag (some st)) s ≡ refuse s 2 0
    stamp_refused c len tag st = reply (offer c len tag (some st)) ∙ unset (level_offer c len tag (some st)) refl

    pub close_refused : (c : ℕ) → respond (close c) s ≡ refuse s 2 0
    close_refused c = reply (close c) ∙ unset (level_close c) refl
