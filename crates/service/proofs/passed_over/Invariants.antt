use Rattle.service.specs.Candidates.{NotEligible}
use Prim.Native.Nat.{◌≤◌, ◌-◌}
use Rattle.service.proofs.passed_over.Given as goal

abbrev pub invariant-loop-j : goal.invariant-loop-j
invariant-loop-j l = (l.i ≤ l.j) × (l.j ≤ l.n) × NotEligible l.places l.clock l.i l.j

abbrev pub decreases-loop-j : goal.decreases-loop-j
decreases-loop-j l = l.n - l.j
