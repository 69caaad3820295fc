use Rattle.checker.proofs.MoveLaws.{Made}
use Rattle.checker.specs.Bounds.{left, Fit}
use Rattle.std.specs.Prelude.{None}
use Rattle.turns.specs.Turns.{window}
use lib.ListN.{length}
use Prim.Native.Nat.{◌+◌, ◌-◌, ◌*◌}
use mathlib.Core.Path.{◌≡◌}
use Rattle.steps.specs.Tie.{lent, SameSlices}
use Rattle.checker.proofs.check_all.Given as goal

abbrev pub invariant-loop-r : goal.invariant-loop-r
invariant-loop-r g l =
    SameSlices l.t l.initial.t
    × (length l.buf ≡ length l.initial.buf)
    × (length l.out ≡ length l.initial.out)
    × (length l.log ≡ length l.initial.log)
    × (l.c.finding ≡ None)
    × Fit (length l.initial.buf) (length l.initial.out) (length l.initial.log) l.c
    × Made l.c (lent l.t) (window l.buf l.c.turn.from l.c.turn.to) (window l.out l.c.met l.c.wrote) (window l.log l.c.from l.c.to)

abbrev pub decreases-loop-r : goal.decreases-loop-r
decreases-loop-r g l = (l.c.wrote - l.c.met) + 65537 * left (length l.initial.buf) l.c.turn
