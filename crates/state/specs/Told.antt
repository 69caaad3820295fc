-- An answer of the rules, as the code gives it. Document 01, "Verdict numbers".
use Rattle.rules.specs.Model.{Answer}
pub use Rattle.line.specs.Told.{refusal}
use Rattle.line.specs.Told.{told_by}
use Rattle.state.specs.View.{Hub, hub_of}
use Rattle.line.specs.declared.Told as line

abbrev pub Told : Type 0
Told = line.Told Hub

-- of the state the part that no table holds
abbrev pub told_of : Answer → Told
told_of a = told_by hub_of a
