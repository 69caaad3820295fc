-- QUIET TICKS of the discipline that is set. Document 01, "One tick"; document 02, R-13.
use Rattle.std.specs.Prelude.{ℕ, min, cond, ◌&&◌, ◌||◌}
use Rattle.std.proofs.Math.Option.{none}
use Rattle.frames.specs.Model.{wire}
use Rattle.either_line.specs.Line.{Line, levels_set, frames_set, sound_line}
use Rattle.line.specs.Quiet.{quiet_line}
use Rattle.service.specs.Quiet.{passed as level_passed, quiet_levels}
use Rattle.framed_service.specs.Quiet.{passed as frame_passed}

-- the line k ticks on, where nothing starts and nothing departs in them
abbrev pub passed : Line → ℕ → Line
passed s k =
    cond (frames_set s)
    (record { levels = s.levels; frames = frame_passed s.frames k })
    (record { levels = level_passed s.levels k; frames = s.frames })

-- of `left` ticks those that are passed over at once: none on a line that is not sound or has no link, and none beyond the clock's end; with frames no packet stands by
unfoldable pub quiet_ticks : ℕ → Line → ℕ
quiet_ticks left s =
    cond (sound_line s && (levels_set s || frames_set s))
    (min (cond (frames_set s) (quiet_line s.frames.clock none (wire s.frames)) (quiet_levels s.levels)) left)
    0
