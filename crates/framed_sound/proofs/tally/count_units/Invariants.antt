use Rattle.std.proofs.Common.{◌*◌, take}
use Rattle.rules.specs.Words.{total}
use Rattle.frames.specs.Service.{newly}
use Rattle.tables.specs.Places.{rows}
use Rattle.line_tests.specs.Counts.{Counts}
use Rattle.framed_sound.proofs.TallyLaws as T
use Rattle.framed_sound.proofs.tally.count_units.Given as goal

abbrev pub invariant-loop-i : goal.invariant-loop-i
invariant-loop-i l = record {
  counted : Counts (total (newly l.h.link l.h.clock)) l.taken (take l.i (rows l.places.table.now));
  low : T.Low l.taken (2112 * l.i);
}
