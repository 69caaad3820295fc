-- One request on any line: what can answer it, that a discipline without a link says 2, and that a link stays.
use mathlib.Core.Path.{◌≡◌, refl, sym, ap}
use mathlib.Core.Bool.{Bool, true, false, cond, not, true≢false}
use mathlib.Core.Option.{none, some}
use Rattle.rules.specs.Model.{State as LevelState, Call as LevelCall, link as level_link, admit as level_admit, offer as level_offer, notice as level_notice, close as level_close, tick as level_tick, fresh as level_fresh}
use Rattle.rules.specs.SoundTest.{sound as level_sound}
use Rattle.rules.specs.Calls.{verdicts as level_verdicts, verdict as level_verdict, done as level_done, refused_number as level_refused_number, settle as level_settle, answer as level_answer}
use Rattle.rules.proofs.Doings.{refused as level_refused}
use Rattle.rules.proofs.Verdicts.{settled as level_settled}
use Rattle.rules.proofs.Line.{tick_leaves}
use Rattle.rules.proofs.SoundExact.{exact as level_exact}
use Rattle.rules.proofs.Every.{fresh_invariant as level_fresh_invariant}
use Rattle.frames.specs.Model.{State as FrameState, Call as FrameCall, link as frame_link, admit as frame_admit, offer as frame_offer, notice as frame_notice, tick as frame_tick, Answer as FrameAnswer, fresh as FrameFresh}
use Rattle.frames.specs.SoundTest.{sound as frame_sound}
use Rattle.frames.specs.Calls.{verdicts as frame_verdicts, verdict as frame_verdict, done as frame_done, refused_number as frame_refused_number, settle as frame_settle, answer as frame_answer}
use Rattle.frames.proofs.Verdicts.{settled as frame_settled}
use Rattle.frames.proofs.SoundExact.{exact as frame_exact}
use Rattle.frames.proofs.Every.{fresh_invariant as frame_fresh_invariant}
use Rattle.either_line.specs.Line.{Line, Request, link_levels, link_frames, admit_level, admit_share, offer, notice, close, tick, Reply, by_levels, by_frames, refuse, levels_set, frames_set, turn, refused_number}
use Rattle.frames.proofs.Names.{refused as FrameRefused, ticked_is as frame_ticked_is}

-- ---- links among the calls

abbrev pub level_links : LevelCall → Bool
level_links (level_link l) = true
level_links (level_admit x) = false
level_links (level_offer c len tag st) = false
level_links (level_notice len tag) = false
level_links (level_close c) = false
level_links level_tick = false

abbrev pub frame_links : FrameCall → Bool
frame_links (frame_link l) = true
frame_links (frame_admit x) = false
frame_links (frame_offer c len tag) = false
frame_links (frame_notice len tag) = false
frame_links frame_tick = false

-- no other call changes the link
pub level_link_same : (k : LevelCall) (s : LevelState) → level_links k ≡ false → (level_answer k s).next.link ≡ s.link
level_link_same k s e = level_settled (λ a. a.next.link ≡ s.link) k s (level_verdict k s) (λ _. done_same k e) (λ _. refl)
  where
    done_same : (k : LevelCall) → level_links k ≡ false → (level_done k s).next.link ≡ s.link
    done_same (level_link l) e = absurd (true≢false e)
    done_same (level_admit x) e = refl
    done_same (level_offer c len tag st) e = refl
    done_same (level_notice len tag) e = refl
    done_same (level_close c) e = refl
    done_same level_tick e = (tick_leaves s).link

pub frame_link_same : (k : FrameCall) (s : FrameState) → frame_links k ≡ false → (frame_answer k s).next.link ≡ s.link
frame_link_same k s e = frame_settled (λ a. a.next.link ≡ s.link) k s (frame_verdict k s) (λ _. done_same k e) (λ _. refl)
  where
    done_same : (k : FrameCall) → frame_links k ≡ false → (frame_done k s).next.link ≡ s.link
    done_same (frame_link l) e = absurd (true≢false e)
    done_same (frame_admit x) e = refl
    done_same (frame_offer c len tag) e = refl
    done_same (frame_notice len tag) e = refl
    done_same frame_tick e = ap (λ (a : FrameAnswer). a.next.link) (frame_ticked_is s)

-- ---- with no link set every other call gets 2

level_fresh_passes : level_sound level_fresh ≡ true
level_fresh_passes = (level_exact level_fresh).1 level_fresh_invariant.sound

frame_fresh_passes : frame_sound FrameFresh ≡ true
frame_fresh_passes = (frame_exact FrameFresh).1 frame_fresh_invariant.sound

level_2 : (k : LevelCall) → level_links k ≡ false → level_verdict k level_fresh ≡ 2
unfolding level_verdicts
level_2 (level_link l) e = absurd (true≢false e)
level_2 (level_admit x) e = ap (λ (b : Bool). cond (not b) 1 2) level_fresh_passes
level_2 (level_offer c len tag st) e = ap (λ (b : Bool). cond (not b) 1 2) level_fresh_passes
level_2 (level_notice len tag) e = ap (λ (b : Bool). cond (not b) 1 2) level_fresh_passes
level_2 (level_close c) e = ap (λ (b : Bool). cond (not b) 1 2) level_fresh_passes
level_2 level_tick e = ap (λ (b : Bool). cond (not b) 1 2) level_fresh_passes

frame_2 : (k : FrameCall) → frame_links k ≡ false → frame_verdict k FrameFresh ≡ 2
unfolding frame_verdicts
frame_2 (frame_link l) e = absurd (true≢false e)
frame_2 (frame_admit x) e = ap (λ (b : Bool). cond (not b) 1 2) frame_fresh_passes
frame_2 (frame_offer c len tag) e = ap (λ (b : Bool). cond (not b) 1 2) frame_fresh_passes
frame_2 (frame_notice len tag) e = ap (λ (b : Bool). cond (not b) 1 2) frame_fresh_passes
frame_2 frame_tick e = ap (λ (b : Bool). cond (not b) 1 2) frame_fresh_passes

pub level_unset : (k : LevelCall) → level_links k ≡ false → level_answer k level_fresh ≡ level_refused k level_fresh 2
level_unset k e = ap (level_settle k level_fresh) (level_2 k e)

pub frame_unset : (k : FrameCall) → frame_links k ≡ false → frame_answer k FrameFresh ≡ FrameRefused k FrameFresh 2
frame_unset k e = ap (frame_settle k FrameFresh) (frame_2 k e)

-- ---- THE ELIMINATOR of a turn: a link is refused with 3; or one of the two disciplines answers, and not to a link while the other has one

module _ (Q : Reply → Type 0) (s : Line) where
  abbrev ByLevel : Request → Type 0
  ByLevel k =
      (j : LevelCall) → level_refused_number j ≡ refused_number k → (level_links j ≡ true → frames_set s ≡ false) → Q (by_levels s (level_answer j s.levels))

  abbrev ByFrame : Request → Type 0
  ByFrame k =
      (j : FrameCall) → frame_refused_number j ≡ refused_number k → (frame_links j ≡ true → levels_set s ≡ false) → Q (by_frames s (frame_answer j s.frames))

  pub turn_cases : (k : Request) → (refused_number k ≡ 0 → Q (refuse s 3 0)) → ByLevel k → ByFrame k → Q (turn k s)
  turn_cases (link_levels l) three level frame = go (frames_set s) refl
    where
      go : (b : Bool) → frames_set s ≡ b → Q (cond b (refuse s 3 0) (by_levels s (level_answer (level_link l) s.levels)))
      go true e = three refl
      go false e = level (level_link l) refl (λ _. e)
  turn_cases (link_frames l) three level frame = go (levels_set s) refl
    where
      go : (b : Bool) → levels_set s ≡ b → Q (cond b (refuse s 3 0) (by_frames s (frame_answer (frame_link l) s.frames)))
      go true e = three refl
      go false e = frame (frame_link l) refl (λ _. e)
  turn_cases (admit_level x) three level frame = level (level_admit x) refl (λ e. absurd (true≢false (sym e)))
  turn_cases (admit_share x) three level frame = frame (frame_admit x) refl (λ e. absurd (true≢false (sym e)))
  turn_cases (offer c len tag none) three level frame = go (frames_set s)
    where
      go : (b : Bool) → Q (cond b (by_frames s (frame_answer (frame_offer c len tag) s.frames)) (by_levels s (level_answer (level_offer c len tag none) s.levels)))
      go true = frame (frame_offer c len tag) refl (λ e. absurd (true≢false (sym e)))
      go false = level (level_offer c len tag none) refl (λ e. absurd (true≢false (sym e)))
  turn_cases (offer c len tag (some stamp)) three level frame = level (level_offer c len tag (some stamp)) refl (λ e. absurd (true≢false (sym e)))
  turn_cases (notice len tag) three level frame = go (frames_set s)
    where
      go : (b : Bool) → Q (cond b (by_frames s (frame_answer (frame_notice len tag) s.frames)) (by_levels s (level_answer (level_notice len tag) s.levels)))
      go true = frame (frame_notice len tag) refl (λ e. absurd (true≢false (sym e)))
      go false = level (level_notice len tag) refl (λ e. absurd (true≢false (sym e)))
  turn_cases (close c) three level frame = level (level_close c) refl (λ e. absurd (true≢false (sym e)))
  turn_cases tick three level frame = go (frames_set s)
    where
      go : (b : Bool) → Q (cond b (by_frames s (frame_answer frame_tick s.frames)) (by_levels s (level_answer level_tick s.levels)))
      go true = frame frame_tick refl (λ e. absurd (true≢false (sym e)))
      go false = level level_tick refl (λ e. absurd (true≢false (sym e)))
