use Rattle.framed_calls.proofs.PassLaws as P
use Rattle.framed_calls.proofs.verdicts.taken_by.Given as goal

abbrev pub invariant-loop-i : goal.invariant-loop-i
invariant-loop-i l = P.Pass l.l l.clock l.places l.c l.i l.held l.units
