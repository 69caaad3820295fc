-- After i steps none has stopped, and each was made.
use mathlib.Core.Path.{◌≡◌}
use Rattle.steps.specs.Tie.{lent, SameSlices}
use Rattle.steps.specs.declared.Status.TheVariants.{GoOn}
use Rattle.replay.proofs.RunLaws.{Made}
use Rattle.replay.proofs.run.Given as goal

abbrev pub invariant-loop-i : goal.invariant-loop-i
invariant-loop-i l =
    (l.so_far.status ≡ GoOn)
    × SameSlices l.t l.fn.t
    × Made l.fn.c (lent l.fn.t) l.window l.last l.fn.out l.i GoOn l.so_far.cursor (lent l.t) l.out l.so_far.used l.so_far.wrote
