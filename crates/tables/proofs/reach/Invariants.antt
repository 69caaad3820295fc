use lib.ListN.{length}
use Prim.Native.Nat.{◌*◌, ◌-◌, ◌≤◌}
use Rattle.tables.specs.Places.{rows}
use Rattle.tables.proofs.reach.Given as goal

abbrev pub invariant-loop-high : goal.invariant-loop-high
invariant-loop-high l = (1 ≤ l.high) × (5 * l.all ≤ length l.table) × (length (rows l.table) ≤ l.all)

abbrev pub decreases-loop-high : goal.decreases-loop-high
decreases-loop-high l = l.all - l.high
