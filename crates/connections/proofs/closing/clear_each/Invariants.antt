use Rattle.connections.proofs.SweepLaws as S
use mathlib.Core.Path.{◌≡◌}
use Prim.Native.Nat.{◌≤◌}
use Rattle.connections.proofs.closing.clear_each.Given as goal

abbrev pub invariant-loop-i : goal.invariant-loop-i
invariant-loop-i l = (l.members ≡ S.rows_freed l.initial.members l.time l.clock l.i) × (l.i ≤ l.n)
