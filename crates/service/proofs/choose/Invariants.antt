use Prim.Native.Nat.{◌≤◌, ◌-◌}
use Rattle.service.specs.Candidates.{level_in, named, Leads}
use Rattle.service.proofs.ChoiceLaws as L
use Rattle.service.proofs.choose.Given as goal

abbrev pub invariant-loop-i : goal.invariant-loop-i
invariant-loop-i l = (l.i ≤ l.n) × L.Walked (level_in l.members) l.clock l.places l.i (named l.places l.lead) × Leads l.members l.places l.lead

abbrev pub decreases-loop-i : goal.decreases-loop-i
decreases-loop-i l = l.n - l.i
