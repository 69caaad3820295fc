use Rattle.sound.specs.Pace.{Remembers}
use Rattle.sound.proofs.PaceLaws as L
use Rattle.sound.proofs.pace.forget_rows.Given as goal

abbrev pub invariant-loop-c : goal.invariant-loop-c
invariant-loop-c l = record { forgotten : Remembers l.initial.table l.table (L.forgotten l.initial.table l.seen l.c) }
