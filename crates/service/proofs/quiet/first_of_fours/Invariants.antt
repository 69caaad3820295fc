use Rattle.service.specs.Quiet.{Waits}
use Rattle.rules.specs.Limits.{clock_end}
use Prim.Native.Nat.{◌≤◌, ◌*◌}
use Rattle.service.proofs.quiet.first_of_fours.Given as goal

abbrev pub invariant-loop-j : goal.invariant-loop-j
invariant-loop-j l = (l.first ≤ clock_end) × Waits l.places l.clock l.first (4 * l.j)
