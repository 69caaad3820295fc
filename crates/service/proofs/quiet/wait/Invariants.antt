use Prim.Native.Nat.{◌≤◌}
use Rattle.rules.specs.Limits.{clock_end}
use Rattle.service.specs.Quiet.{Waits}
use Rattle.service.proofs.quiet.wait.Given as goal

abbrev pub invariant-loop-i : goal.invariant-loop-i
invariant-loop-i l = (l.first ≤ clock_end) × Waits l.places l.clock l.first l.i
