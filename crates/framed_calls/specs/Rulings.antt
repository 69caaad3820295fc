-- What the code decides of a call's table of verdicts, and in which parts. Document 02, R-13 and R-2.
use Rattle.std.specs.Prelude.{ℕ, Bool, not, List, [], ◌∷◌, leb, eqb, length}
use Rattle.rules.specs.declared.Packet.{Packet}
use Rattle.rules.specs.Limits.{max_connections}
use Rattle.rules.specs.Service.{of}
use Rattle.frames.specs.declared.Framing.{Framing}
use Rattle.frames.specs.declared.Share.{Share}
use Rattle.frames.specs.Admission.{share_within}
use Rattle.frames.specs.Service.{used}
use Rattle.framed_calls.specs.declared.verdicts.Taken.{Taken}

-- the rows of an admission's table that need no sum, while n connections stand
abbrev pub early_admit : Framing → ℕ → Share → List (ℕ × Bool)
early_admit l n x = (2, eqb l.frame 0) ∷ (6, not (share_within x)) ∷ (7, leb max_connections n) ∷ []

-- what connection c holds of some rows, and what it has used of its units in this frame
abbrev pub taken_of : Framing → ℕ → ℕ → List Packet → Taken
taken_of l t c ps = record { held = length (of c ps); units = used l t c ps }
