-- One line with either discipline: that of levels (document 01) or that of frames (document 02, R-13). The first link that is accepted decides which; the other stays fresh.
-- docs/RULES.md, R-13, "One line, one discipline".
use Rattle.std.specs.Prelude.{ℕ, ◌≡◌, Bool, true, cond, not, ◌&&◌, ◌||◌, List, [], ◌∷◌, eqb}
use Rattle.std.proofs.Math.Option.{Option, none, some}
use Rattle.rules.specs.declared.Link.{Link}
use Rattle.rules.specs.declared.Connection.{Connection}
use Rattle.rules.specs.Words.{first_number}
use Rattle.rules.specs.Limits.{notice_number, no_connection_number}
use Rattle.rules.specs.Model.{Outcome, no_short, State as LevelState, Call as LevelCall, link as level_link, admit as level_admit, offer as level_offer, notice as level_notice, close as level_close, tick as level_tick, Answer as LevelAnswer, fresh as level_fresh}
use Rattle.rules.specs.SoundState.{Sound as LevelSound}
use Rattle.rules.specs.SoundTest.{sound as level_sound}
use Rattle.rules.specs.Calls.{answer as level_answer}
use Rattle.frames.specs.declared.Framing.{Framing}
use Rattle.frames.specs.declared.Share.{Share}
use Rattle.frames.specs.Model.{State as FrameState, Call as FrameCall, link as frame_link, admit as frame_admit, offer as frame_offer, notice as frame_notice, tick as frame_tick, Answer as FrameAnswer, fresh as FrameFresh}
use Rattle.frames.specs.SoundState.{Sound as FrameSound}
use Rattle.frames.specs.SoundTest.{sound as frame_sound}
use Rattle.frames.specs.Calls.{answer as frame_answer}
use Rattle.frames.specs.Histories.{History, run_from}

pub record Line : Type 0 where
  pub levels : LevelState
  pub frames : FrameState

-- each discipline has its own link and its own admission; offers without a stamp, notices and ticks go to the one that is set; offers with a stamp and closes are known to the
-- discipline of levels alone
pub data Request : Type 0 where
  link_levels : Link → Request
  link_frames : Framing → Request
  admit_level : Connection → Request
  admit_share : Share → Request
  offer : ℕ → ℕ → ℕ → Option ℕ → Request
  notice : ℕ → ℕ → Request
  close : ℕ → Request
  tick : Request

abbrev pub Reply : Type 0
Reply = Outcome Line

-- the answer of one discipline as the reply of the line: the state of the other stays
abbrev pub by_levels : Line → LevelAnswer → Reply
by_levels s a = record { verdict = a.verdict; number = a.number; short = a.short; departed = a.departed; next = record { levels = a.next; frames = s.frames } }

abbrev pub by_frames : Line → FrameAnswer → Reply
by_frames s a = record { verdict = a.verdict; number = a.number; short = a.short; departed = a.departed; next = record { levels = s.levels; frames = a.next } }

abbrev pub refuse : Line → ℕ → ℕ → Reply
refuse s v n = record { verdict = v; number = n; short = no_short; departed = none; next = s }

abbrev pub levels_set : Line → Bool
levels_set s = not (eqb s.levels.link.levels 0)

abbrev pub frames_set : Line → Bool
frames_set s = not (eqb s.frames.link.frame 0)

-- sound: both are, and at most one is set, so that the other is fresh
pub record SoundLine (s : Line) : Type 0 where
  pub levels_sound : LevelSound s.levels
  pub frames_sound : FrameSound s.frames
  pub never_both : levels_set s ≡ true → frames_set s ≡ true → ⊥

-- .. as a test
unfoldable pub sound_line : Line → Bool
sound_line s = level_sound s.levels && (frame_sound s.frames && not (levels_set s && frames_set s))

-- a link of the other discipline: one is set already. What only the other discipline knows gets that discipline's own answer with no link set, which is 2
abbrev pub turn : Request → Line → Reply
turn (link_levels l) s = cond (frames_set s) (refuse s 3 0) (by_levels s (level_answer (level_link l) s.levels))
turn (link_frames l) s = cond (levels_set s) (refuse s 3 0) (by_frames s (frame_answer (frame_link l) s.frames))
turn (admit_level x) s = by_levels s (level_answer (level_admit x) s.levels)
turn (admit_share x) s = by_frames s (frame_answer (frame_admit x) s.frames)
turn (offer c len tag none) s =
    cond (frames_set s) (by_frames s (frame_answer (frame_offer c len tag) s.frames)) (by_levels s (level_answer (level_offer c len tag none) s.levels))
turn (offer c len tag (some stamp)) s = by_levels s (level_answer (level_offer c len tag (some stamp)) s.levels)
turn (notice len tag) s =
    cond (frames_set s) (by_frames s (frame_answer (frame_notice len tag) s.frames)) (by_levels s (level_answer (level_notice len tag) s.levels))
turn (close c) s = by_levels s (level_answer (level_close c) s.levels)
turn tick s = cond (frames_set s) (by_frames s (frame_answer frame_tick s.frames)) (by_levels s (level_answer level_tick s.levels))

-- what each request is: the call that it is to the discipline of levels and the one that it is to that of frames, if it is one there; what it offers, if it does: the connection or
-- the notices' number, the length and the tag; and the number that it gets where it is refused
abbrev pub form : Request → Option LevelCall × Option FrameCall × Option (ℕ × ℕ × ℕ) × ℕ
form (link_levels l) = (some (level_link l), none, none, 0)
form (link_frames l) = (none, some (frame_link l), none, 0)
form (admit_level x) = (some (level_admit x), none, none, no_connection_number)
form (admit_share x) = (none, some (frame_admit x), none, no_connection_number)
form (offer c len tag st) = (some (level_offer c len tag st), elim st [ none ↦ some (frame_offer c len tag) | some stamp ↦ none ], some (c, len, tag), 0)
form (notice len tag) = (some (level_notice len tag), some (frame_notice len tag), some (notice_number, len, tag), 0)
form (close c) = (some (level_close c), none, none, 0)
form tick = (some level_tick, some frame_tick, none, 0)

abbrev pub refused_number : Request → ℕ
refused_number k = (form k).3

-- THE RULES of a line with either discipline
abbrev pub respond : Request → Line → Reply
respond k s = cond (sound_line s) (turn k s) (refuse s 1 (refused_number k))

-- no tick is asked: "`TK` 0 changes nothing and answers 1 or 2 where they apply, else 0, even at the clock's end"
abbrev pub resting_verdict : Line → ℕ
resting_verdict s = first_number ((1, not (sound_line s)) ∷ (2, not (levels_set s || frames_set s)) ∷ [])

-- ---- runs

-- the clock of the discipline that is set
abbrev pub clock_of : Line → ℕ
clock_of s = cond (frames_set s) s.frames.clock s.levels.clock

-- as every line starts: no link of either discipline
abbrev pub fresh_line : Line
fresh_line = record { levels = level_fresh; frames = FrameFresh }

-- any requests from the fresh line
abbrev pub run : List Request → History Line
run ks = run_from respond (λ k. (form k).2) clock_of (record { accepted = []; departed = []; now = fresh_line }) ks
