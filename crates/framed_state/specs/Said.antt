-- An answer of the second discipline's rules, as the code gives it. Document 01, "Verdict numbers".
use Rattle.frames.specs.Model.{Answer}
pub use Rattle.line.specs.Told.{refusal}
use Rattle.line.specs.Told.{told_by}
use Rattle.framed_state.specs.View.{Frames, frames_of}
use Rattle.line.specs.declared.Told as line

abbrev pub Said : Type 0
Said = line.Told Frames

-- of the state the part that no table holds
abbrev pub said_of : Answer → Said
said_of a = told_by frames_of a
