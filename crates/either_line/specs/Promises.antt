-- THE STATEMENTS of a line with either discipline, apart from their proofs: each is proved in proofs/Results under the same name in small letters. Document 02, R-13.
use Rattle.std.specs.Prelude.{◌≡◌, true, false, ◌⊎◌}
use mathlib.Core.List.{List, ◌++◌, filter_map}
use Rattle.std.proofs.Math.Option.{none, some}
use Rattle.rules.specs.declared.Link.{Link}
use Rattle.rules.specs.Limits.{no_connection_number}
use Rattle.rules.specs.Model.{Call as LevelCall, fresh as level_fresh}
use Rattle.rules.specs.Calls.{answer as level_answer}
use Rattle.rules.specs.Runs.{run as level_run}
use Rattle.frames.specs.Model.{Call as FrameCall, fresh as FrameFresh}
use Rattle.frames.specs.Calls.{answer as frame_answer}
use Rattle.frames.specs.declared.Framing.{Framing}
use Rattle.frames.specs.declared.Share.{Share}
use Rattle.rules.specs.Promises.{Answered}
use Rattle.frames.specs.Runs.{run as frame_run}
use Rattle.either_line.specs.Line.{Line, Request, link_levels, link_frames, admit_share, by_levels, by_frames, refuse, form, refused_number, levels_set, frames_set, SoundLine, sound_line, respond, clock_of, run}

-- ---- every request

-- a refused request changes nothing; the test is exact, verdict 1 tells an unsound line, a request leaves a sound line sound, and its reply's numbers fit (`Answered`,
-- crates/rules/specs/Promises.antt)
abbrev pub EveryRequest : Type 0
EveryRequest = (k : Request) (s : Line) → Answered SoundLine sound_line clock_of s (refused_number k) (respond k s)

-- ---- every run: from fresh and through any requests a line is a line of one discipline

-- of levels, where no link of frames is set
pub record OfLevels (ks : List Request) : Type 0 where
  pub frames_unset : frames_set (run ks).now ≡ false
  -- it is the run of the requests that are calls to the discipline of levels, and the other discipline is fresh. So every promise of levels holds of it
  pub is_of_levels :
      let h = level_run (filter_map (λ k. (form k).0) ks) in
      run ks ≡ record { accepted = h.accepted; departed = h.departed; now = record { levels = h.now; frames = FrameFresh } }
  -- the link that is set first decides: whatever is asked then, the discipline stays
  pub stays : levels_set (run ks).now ≡ true → (ms : List Request) → levels_set (run (ks ++ ms)).now ≡ true
  -- what is replied to a request that the discipline knows is its own answer. Of the others a link gets 3 once one is set, and an admission 2
  pub known : (k : Request) (x : LevelCall) → (form k).0 ≡ some x → respond k (run ks).now ≡ by_levels (run ks).now (level_answer x (run ks).now.levels)
  pub link : (l : Framing) → levels_set (run ks).now ≡ true → respond (link_frames l) (run ks).now ≡ refuse (run ks).now 3 0
  pub other : (x : Share) → respond (admit_share x) (run ks).now ≡ refuse (run ks).now 2 no_connection_number

-- of frames, where one is set: the same; an admission of a level, an offer with a stamp and a close get 2
pub record OfFrames (ks : List Request) : Type 0 where
  pub frames_are_set : frames_set (run ks).now ≡ true
  pub is_of_frames :
      let h = frame_run (filter_map (λ k. (form k).1) ks) in
      run ks ≡ record { accepted = h.accepted; departed = h.departed; now = record { levels = level_fresh; frames = h.now } }
  pub stays : (ms : List Request) → frames_set (run (ks ++ ms)).now ≡ true
  pub known : (k : Request) (x : FrameCall) → (form k).1 ≡ some x → respond k (run ks).now ≡ by_frames (run ks).now (frame_answer x (run ks).now.frames)
  pub link : (l : Link) → respond (link_levels l) (run ks).now ≡ refuse (run ks).now 3 0
  pub other : (k : Request) → (form k).1 ≡ none → ((l : Link) → k ≡ link_levels l → ⊥) → respond k (run ks).now ≡ refuse (run ks).now 2 (refused_number k)

-- and every line of a run is sound
abbrev pub EveryRun : Type 0
EveryRun = (ks : List Request) → SoundLine (run ks).now × (OfLevels ks ⊎ OfFrames ks)
