use Rattle.connections.proofs.SumLaws as S
use Prim.Native.Nat.{◌+◌, ◌≤◌}
use mathlib.Core.Path.{◌≡◌}
use lib.ListN.{length}
use Rattle.rules.specs.Limits.{max_levels}
use Rattle.connections.proofs.tested.Tested.add_shares.Given as goal

abbrev pub invariant-loop-k : goal.invariant-loop-k
invariant-loop-k l = (l.x.level ≤ l.k + 1) × (length l.sums ≡ max_levels) × S.AddedBefore (S.shares l.x l.self.link.bounds l.cost) l.low l.initial.sums l.sums l.k × (l.low ≤ l.k)
