-- QUIET TICKS of the second discipline: those in which nothing starts and nothing departs, so that many can be passed over at once. Document 01, "One tick";
-- document 02, R-1, R-4 and R-13.
use Rattle.std.specs.Prelude.{ℕ, ◌+◌, min}
use Rattle.std.proofs.Math.Option.{none}
use Rattle.rules.specs.Service.{passed_wire}
use Rattle.frames.specs.Model.{State, wire, with_wire}
use Rattle.frames.specs.SoundTest.{sound}
use Rattle.line.specs.Quiet.{quiet_line, if_linked}

-- the state k ticks on, where nothing starts and nothing departs in them
abbrev pub passed : State → ℕ → State
passed s k = with_wire s (s.clock + k) (passed_wire (wire s) k)

-- of `left` ticks those that are passed over at once: none without a link, and none beyond the clock's end; no packet stands by
unfoldable pub quiet_ticks : ℕ → State → ℕ
quiet_ticks left s = if_linked (sound s) s.link.frame (min (quiet_line s.clock none (wire s)) left)
