use Rattle.tables.specs.Table.{used}
use lib.ListN.{length}
use Prim.Native.Nat.{◌≤◌}
use Rattle.tables.proofs.in_use.Given as goal

abbrev pub invariant-loop-i : goal.invariant-loop-i
invariant-loop-i l = l.i ≤ length (used l.width l.table)
