use Rattle.service.specs.Candidates.{early_in}
use Rattle.service.proofs.EarlyLaws as L
use Rattle.service.proofs.stand_by.Given as goal

abbrev pub invariant-loop-i : goal.invariant-loop-i
invariant-loop-i l = L.NoneSoFar (early_in l.l l.members) l.places l.i
