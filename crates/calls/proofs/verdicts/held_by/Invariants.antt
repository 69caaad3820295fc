use Prim.Native.Nat.{◌+◌, ◌≤◌}
use mathlib.Core.Path.{◌≡◌}
use lib.ListN.{length, drop}
use Rattle.rules.specs.Service.{of}
use Rattle.tables.specs.Places.{rows}
use Rattle.calls.proofs.verdicts.held_by.Given as goal

abbrev pub invariant-loop-i : goal.invariant-loop-i
invariant-loop-i l = (l.n ≤ l.i) × (l.n + length (of l.c (drop l.i (rows l.places))) ≡ length (of l.c (rows l.places)))
