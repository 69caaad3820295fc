use Rattle.std.proofs.Common.{length, take}
use Rattle.tables.specs.Places.{rows}
use Rattle.line_tests.specs.Counts.{Counts}
use Rattle.line_tests.proofs.count_rows.Given as goal

abbrev pub invariant-loop-i : goal.invariant-loop-i
invariant-loop-i l = record { counted : Counts length l.seen (take l.i (rows l.places.table.now)) }
