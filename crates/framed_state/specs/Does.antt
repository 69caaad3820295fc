-- THE CONTRACT of a call on any `Frames` and any tables: verdict 1 where they are not sound, else nothing but the rules.
use Rattle.std.specs.Prelude.{cond}
use Rattle.frames.specs.Model.{Call}
use Rattle.frames.specs.Calls.{refused_number, answer}
use Rattle.tables.specs.Calls.{DoesBy}
use Rattle.framed_state.specs.View.{Frames, Tables, view, written, sound_frames}
use Rattle.framed_state.specs.Said.{Said, said_of, refusal}

-- what a call answers, and the tables that it leaves: number 1 and nothing changed ("Verdict numbers"), or what the rules' answer says, written back
unfoldable pub tells : Call → Frames → Tables → Said
tells k h t = cond (sound_frames h t) (said_of (answer k (view h t))) (refusal h 1 (refused_number k))

unfoldable pub leaves : Call → Frames → Tables → Tables
leaves k h t = cond (sound_frames h t) (written (answer k (view h t)).next) t

-- handed h and the tables `before`, the call k answers `said` and leaves the tables `after`
abbrev pub Does : Call → Frames → Tables → Said → Tables → Type 0
Does k h before said after = DoesBy tells leaves k h before said after
