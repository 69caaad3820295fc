-- THE STATEMENT of the code of the second discipline, apart from its proof: it is proved in proofs/Results under the same name in small letters. Document 02, R-13.
use Rattle.frames.specs.Model.{State, fresh}
use Rattle.frames.specs.SoundState.{Sound}
use Rattle.frames.specs.Calls.{form, refused_number, answer}
use Rattle.frames.specs.Histories.{History, logged}
use Rattle.frames.specs.Runs.{run}
use Rattle.faces.specs.Promises.{KeepsToTheRules}
use Rattle.line.specs.declared.Told.{Told}
use Rattle.framed_state.specs.View.{zero_tables, view, frames_of, written, sound_frames}
use Rattle.framed_state.specs.Said.{said_of}
use Rattle.framed_state.specs.Does.{tells, leaves}

-- the public functions keep to the rules (crates/faces/specs/Promises.antt, where each field is explained). Whatever the rules of the second discipline promise
-- (crates/frames/specs/Promises.antt) of one call holds of the code by `holds_as_of_the_rules`, and of any calls by `follows_the_rules` and `told_as_in_the_run`
abbrev pub TheFramedHubKeepsToTheRules : Type 1
TheFramedHubKeepsToTheRules =
    KeepsToTheRules Sound answer refused_number (logged answer (λ k. (form k).0) State.clock) run History.now
    view frames_of written sound_frames (frames_of fresh) zero_tables
    tells leaves said_of Told.verdict Told.number Told.short Told.departed Told.kept
