-- A reply of the rules, as the code gives it. Document 01, "Verdict numbers".
use Rattle.either_line.specs.Line.{Reply}
pub use Rattle.line.specs.Told.{refusal}
use Rattle.line.specs.Told.{told_by, told_keeping}
use Rattle.line.specs.declared.Told as line
use Rattle.state.specs.Told.{Told}
use Rattle.framed_state.specs.Said.{Said}
use Rattle.both.specs.declared.Kept.{Kept}
use Rattle.both.specs.View.{kept_of}

abbrev pub Replied : Type 0
Replied = line.Told Kept

-- of the line the part that no table holds
abbrev pub replied_of : Reply → Replied
replied_of a = told_by kept_of a

-- what a discipline answers, where the other is kept
abbrev pub of_told : Kept → Told → Replied
of_told h a = told_keeping a (record { hub = a.kept; frames = h.frames })

abbrev pub of_said : Kept → Said → Replied
of_said h a = told_keeping a (record { hub = h.hub; frames = a.kept })
