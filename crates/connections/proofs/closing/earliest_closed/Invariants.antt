use Rattle.connections.proofs.ClosingLaws.{first_among}
use mathlib.Core.Path.{◌≡◌}
use Prim.Native.Nat.{◌≤◌}
use lib.ListN.{drop}
use Rattle.rules.specs.Limits.{max_connections}
use Rattle.connections.specs.Members.{members_in}
use Rattle.connections.specs.Closing.{one_more}
use Rattle.connections.proofs.closing.earliest_closed.Given as goal

abbrev pub invariant-loop-k : goal.invariant-loop-k
invariant-loop-k l = (one_more l.first ≡ first_among (drop l.k (members_in l.members))) × (l.k ≤ max_connections)
