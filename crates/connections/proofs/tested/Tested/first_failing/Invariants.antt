use Prim.Native.Nat.{◌-◌, ◌≤◌, ◌<◌}
use mathlib.Core.Path.{◌≡◌}
use mathlib.Core.Bool.{true, false}
use mathlib.Core.List.{List}
use Rattle.rules.specs.declared.Connection.{Connection}
use Rattle.rules.specs.QuickTest.{descend}
use Rattle.connections.specs.Members.{connections_in}
use Rattle.connections.specs.Within.{SumsWith}
use Rattle.connections.proofs.tested.Tested.first_failing.Given as goal

abbrev pub invariant-loop-fail : goal.invariant-loop-fail
invariant-loop-fail l =
    (l.hold ≤ l.fail) × (l.fail ≤ l.k) × ((js : List Connection) → SumsWith l.self.link (connections_in l.self.members.now) l.self.newcomer js → (l.hold < l.fail) × (descend l.self.link js l.m l.hold l.hold ≡ true) × (descend l.self.link js l.m l.fail l.fail ≡ false))

abbrev pub decreases-loop-fail : goal.decreases-loop-fail
decreases-loop-fail l = l.fail - l.hold
