use Rattle.std.proofs.Common.{◌≡◌, drop}
use Rattle.frames.specs.SoundTest.{never_falls}
use Rattle.tables.specs.Places.{rows}
use Rattle.framed_sound.proofs.in_order.Given as goal

abbrev pub invariant-loop-i : goal.invariant-loop-i
invariant-loop-i l = record { falls : never_falls l.low (drop l.i (rows l.places.table.now)) ≡ never_falls 0 (rows l.places.table.now) }
