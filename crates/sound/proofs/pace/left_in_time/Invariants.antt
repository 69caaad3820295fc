use Rattle.std.proofs.Common.{◌≡◌, drop}
use Rattle.rules.specs.SoundTest.{left_in_time as in_time}
use Rattle.connections.specs.Rows.{connection_of, past_of}
use Rattle.sound.proofs.pace.left_in_time.Given as goal

abbrev pub invariant-loop-k : goal.invariant-loop-k
invariant-loop-k l = record { so_far : in_time (connection_of l.m) l.last (drop l.k (past_of l.m)) ≡ in_time (connection_of l.m) l.last (past_of l.m) }
