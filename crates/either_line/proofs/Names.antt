-- Words that only proofs use: parts of definitions of specs/, each under a name of its own.
use mathlib.Core.Path.{◌≡◌, refl}
use mathlib.Core.Bool.{true, false}
use mathlib.Core.Logic.{◌⊎◌}
use mathlib.Core.List.{List, [], ◌∷◌, ◌++◌, filter_map}
use mathlib.Core.Option.{Option, none, some, Option-elim}
use Rattle.rules.specs.declared.Packet.{Packet}
use Rattle.rules.specs.declared.Link.{Link}
use Rattle.rules.specs.Limits.{no_connection_number}
use Rattle.rules.specs.Model.{State as LevelState, Call as LevelCall, fresh as level_fresh}
use Rattle.rules.specs.Calls.{answer as level_answer}
use Rattle.rules.specs.Runs.{Departure, History as LevelHistory, run as level_run}
use Rattle.frames.specs.Model.{State as FrameState, Call as FrameCall, fresh as FrameFresh}
use Rattle.frames.specs.Calls.{answer as frame_answer}
use Rattle.frames.specs.declared.Framing.{Framing}
use Rattle.frames.specs.declared.Share.{Share}
use Rattle.frames.specs.Runs.{run as frame_run}
use Rattle.frames.specs.Histories as H
use Rattle.rules.specs.Runs as S
use Rattle.either_line.specs.Line.{Line, Request, link_levels, link_frames, admit_share, Reply, by_levels, by_frames, refuse, refused_number, levels_set, frames_set, form, respond, clock_of, fresh_line, run}

abbrev pub LineHistory : Type 0
LineHistory = H.History Line

abbrev pub taken : Request → Line → Reply → Option Packet
taken k s a = S.taken (clock_of s) a.verdict a.number (form k).2

abbrev pub leaving : Line → Option Packet → Option Departure
leaving s o = S.leaving (clock_of s) o

abbrev pub logged : LineHistory → Request → Reply → LineHistory
logged h k a = H.logged respond (λ k. (form k).2) clock_of h k a

abbrev pub after : LineHistory → Request → LineHistory
after h k = logged h k (respond k h.now)

abbrev pub run_from : LineHistory → List Request → LineHistory
run_from h ks = H.run_from respond (λ k. (form k).2) clock_of h ks

abbrev pub nothing_yet : LineHistory
nothing_yet = record { accepted = []; departed = []; now = fresh_line }

-- one more in front, where there is one
abbrev pub and_then : {A : Type 0} → Option A → List A → List A
and_then none ks = ks
and_then (some k) ks = k ∷ ks

-- the calls of a discipline, request by request
pub calls_step : {A B : Type 0} (f : A → Option B) (k : A) (ks : List A) → filter_map f (k ∷ ks) ≡ and_then (f k) (filter_map f ks)
unfolding filter_map Option-elim
calls_step {B = B} f k ks = go (f k)
  where
    go : (o : Option B) → Option-elim o (filter_map f ks) (λ b. b ∷ filter_map f ks) ≡ and_then o (filter_map f ks)
    go none = refl
    go (some b) = refl

-- the call that a request is to each discipline, and the calls of a run that are a discipline's own
abbrev pub level_call : Request → Option LevelCall
level_call k = (form k).0

abbrev pub frame_call : Request → Option FrameCall
frame_call k = (form k).1

abbrev pub level_calls : List Request → List LevelCall
level_calls ks = filter_map level_call ks

abbrev pub frame_calls : List Request → List FrameCall
frame_calls ks = filter_map frame_call ks

-- ---- one discipline, statement by statement

-- a history of levels, and of frames, as a line's: the other discipline is fresh
abbrev pub of_levels : LevelHistory → LineHistory
of_levels h = record { accepted = h.accepted; departed = h.departed; now = record { levels = h.now; frames = FrameFresh } }

abbrev pub of_frames : H.History FrameState → LineHistory
of_frames h = record { accepted = h.accepted; departed = h.departed; now = record { levels = level_fresh; frames = h.now } }

-- from fresh and through any requests a line is a line of one discipline: of frames where a link of frames is set, of levels where none is. So every promise of that discipline
-- holds of it
abbrev pub OneDiscipline : Type 0
OneDiscipline =
    (ks : List Request)
    → ((frames_set (run ks).now ≡ false) × (run ks ≡ of_levels (level_run (level_calls ks))))
    ⊎ ((frames_set (run ks).now ≡ true) × (run ks ≡ of_frames (frame_run (frame_calls ks))))

-- the link that is set first decides: whatever is asked then, the discipline stays
abbrev pub FirstLinkDecides : Type 0
FirstLinkDecides =
    (ks ms : List Request)
    → (levels_set (run ks).now ≡ true → levels_set (run (ks ++ ms)).now ≡ true)
    × (frames_set (run ks).now ≡ true → frames_set (run (ks ++ ms)).now ≡ true)

-- what is replied to a request that the discipline knows is its own answer. Of the others a link gets 3 once one is set, and the rest 2: of levels an admission of frames
pub record ToldByLevels (s : Line) (u : LevelState) : Type 0 where
  pub known : (k : Request) (x : LevelCall) → level_call k ≡ some x → respond k s ≡ by_levels s (level_answer x u)
  pub link : (l : Framing) → levels_set s ≡ true → respond (link_frames l) s ≡ refuse s 3 0
  pub other : (x : Share) → respond (admit_share x) s ≡ refuse s 2 no_connection_number

-- .. of frames an admission of a level, an offer with a stamp and a close
pub record ToldByFrames (s : Line) (u : FrameState) : Type 0 where
  pub known : (k : Request) (x : FrameCall) → frame_call k ≡ some x → respond k s ≡ by_frames s (frame_answer x u)
  pub link : (l : Link) → respond (link_levels l) s ≡ refuse s 3 0
  pub other : (k : Request) → frame_call k ≡ none → ((l : Link) → k ≡ link_levels l → ⊥) → respond k s ≡ refuse s 2 (refused_number k)

abbrev pub ToldByItsDiscipline : Type 0
ToldByItsDiscipline =
    (ks : List Request)
    → (frames_set (run ks).now ≡ false → ToldByLevels (run ks).now (level_run (level_calls ks)).now)
    × (frames_set (run ks).now ≡ true → ToldByFrames (run ks).now (frame_run (frame_calls ks)).now)
