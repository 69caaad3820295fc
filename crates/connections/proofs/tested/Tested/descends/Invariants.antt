use Prim.Native.Nat.{◌≤◌}
use mathlib.Core.Path.{◌≡◌}
use mathlib.Core.List.{List}
use Rattle.rules.specs.declared.Connection.{Connection}
use Rattle.rules.specs.Admission.{window}
use Rattle.rules.specs.QuickTest.{descend}
use Rattle.connections.specs.Members.{connections_in}
use Rattle.connections.specs.Within.{SumsWith}
use Rattle.connections.proofs.tested.Tested.descends.Given as goal

abbrev pub invariant-loop-i : goal.invariant-loop-i
invariant-loop-i l = (l.i ≤ window l.self.link l.m) × ((js : List Connection) → SumsWith l.self.link (connections_in l.self.members.now) l.self.newcomer js → descend l.self.link js l.m l.i l.i ≡ descend l.self.link js l.m l.k l.k)

abbrev pub decreases-loop-i : goal.decreases-loop-i
decreases-loop-i l = l.i
