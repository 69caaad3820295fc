-- What a tick gives. Document 01, "One tick", step 3.
use Rattle.std.specs.Prelude.{ℕ, ◌≡◌, List}
use Rattle.rules.specs.Model.{State, Answer}
use Rattle.rules.specs.Service.{chosen, stand_by, wire, begun}
use Rattle.line.specs.declared.Wire.{Wire}
use Rattle.line.specs.Wires.{wire_of}
use Rattle.state.specs.View.{written}
use Rattle.state.specs.Told.{Told, told_of}

-- the line after step 1, with the hub's choice and the packet that stands by
abbrev pub begun_wire : State → Wire
begun_wire s = wire_of (begun (chosen s) (stand_by s) (wire s))

-- what is told, and the places table and the table of notices then, are those of an answer of the rules
abbrev pub Gives : Answer → Told → List ℕ → List ℕ → Type 0
Gives a told places notices = (told ≡ told_of a) × (places ≡ (written a.next).places) × (notices ≡ (written a.next).notices)
