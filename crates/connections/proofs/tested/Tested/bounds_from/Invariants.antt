use Prim.Native.Nat.{◌+◌, ◌-◌, ◌≤◌}
use mathlib.Core.Path.{◌≡◌}
use mathlib.Core.List.{List}
use Rattle.rules.specs.declared.Connection.{Connection}
use Rattle.rules.specs.Admission.{short_from}
use Rattle.connections.specs.Members.{connections_in}
use Rattle.connections.specs.Within.{SumsWith, Loads}
use Rattle.connections.proofs.tested.Tested.bounds_from.Given as goal

abbrev pub invariant-loop-m : goal.invariant-loop-m
invariant-loop-m l = (1 ≤ l.m) × (l.low ≤ l.m) × ((js : List Connection) → SumsWith l.self.link (connections_in l.self.members.now) l.self.newcomer js → short_from l.self.link js l.m (l.self.link.levels + 1 - l.m) ≡ short_from l.self.link js l.low (l.self.link.levels + 1 - l.low)) × Loads l.self.link (l.low - 1) (connections_in l.self.members.now) l.sums
