use Rattle.std.proofs.Common.{◌≡◌}
use Rattle.firmware.specs.Laid.{laid_out}
use Rattle.firmware.proofs.lay_out.Given as goal

abbrev pub invariant-loop-i : goal.invariant-loop-i
invariant-loop-i l = record { laid : l.members ≡ laid_out l.i l.rows }
