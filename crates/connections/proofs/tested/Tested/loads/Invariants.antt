use Rattle.connections.proofs.SumLaws as S
use Prim.Native.Nat.{◌≤◌}
use mathlib.Core.Path.{◌≡◌}
use lib.ListN.{length}
use Rattle.rules.specs.Limits.{max_levels}
use Rattle.connections.specs.Members.{connections_in}
use Rattle.connections.proofs.tested.Tested.loads.Given as goal

abbrev pub invariant-loop-c : goal.invariant-loop-c
invariant-loop-c l = (l.c ≤ l.self.n) × (length l.sums ≡ max_levels) × S.AddedFirst l.self.link l.low (connections_in l.self.members.now) l.c l.sums
