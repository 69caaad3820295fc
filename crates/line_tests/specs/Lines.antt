-- What the tests of a sound line speak of, whatever the discipline: the line and what waits for it, and the line's part of the test of a wire.
-- Document 01, "A sound state"; docs/RULES.md, R-1 and R-4.
use Rattle.std.specs.Prelude.{ℕ, Bool, cond, ◌&&◌, List, leb, eqb}
use Rattle.rules.specs.Service.{Wire}
use Rattle.rules.specs.SoundLine.{busy_line}
use Rattle.tables.specs.Places.{rows}
use Rattle.tables.specs.Notices.{notices_in}
use Rattle.line_tests.specs.declared.Service.{Service}

-- the line with the packets and the notices of two tables
abbrev pub wire_of : Service → List ℕ → List ℕ → Wire
wire_of x places notices = record { held = rows places; notices = notices_in notices; serving = x.serving; to_go = x.to_go; silent = x.silent }

-- the part of `wire_sound` that does not speak of each notice
abbrev pub line_holds : (ℕ → Bool) → ℕ → ℕ → Wire → Bool
line_holds may q t w = cond (eqb w.to_go 0) (eqb w.serving 0 && leb w.silent q) (eqb w.silent 0 && busy_line may t w)
