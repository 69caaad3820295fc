use Prim.Native.Nat.{◌≤◌}
use Rattle.rules.specs.Limits.{max_connections}
use Rattle.connections.specs.Members.{connections_in, used_by}
use Rattle.connections.proofs.closing.owners_up_to.Given as goal

abbrev pub invariant-loop-k : goal.invariant-loop-k
invariant-loop-k l = (used_by (connections_in l.members) ≤ l.k) × (l.k ≤ max_connections)
