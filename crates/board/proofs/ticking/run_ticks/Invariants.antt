use Prim.Native.Nat.{◌-◌}
use mathlib.Core.Path.{◌≡◌}
use lib.ListN.{length}
use Rattle.tables.specs.Lent.{tables}
use Rattle.both.specs.View.{view}
use Rattle.board.proofs.TickLaws.{Going}
use Rattle.board.proofs.ticking.run_ticks.Given as goal

abbrev pub invariant-loop-done : goal.invariant-loop-done
invariant-loop-done l =
    Going l.n (view l.initial.line (tables l.initial.members l.initial.places l.initial.notices)) l.line (tables l.members l.places l.notices) l.done × (length l.members ≡ length l.initial.members) × (length l.places ≡ length l.initial.places) × (length l.notices ≡ length l.initial.notices)

abbrev pub decreases-loop-done : goal.decreases-loop-done
decreases-loop-done l = l.n - l.done
