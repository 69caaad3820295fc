-- Frames, when a packet may go, what a connection has used of its frame, which packet goes next, and one tick. Document 02, R-13; source document 001.
use Rattle.std.specs.Prelude.{ℕ, ◌+◌, ◌*◌, ◌/◌, cond, List, [], ◌∷◌, leb}
use Rattle.std.proofs.Math.Option.{Option, none, some}
use Rattle.rules.specs.declared.Packet.{Packet}
use Rattle.rules.specs.Words.{upto, total}
use Rattle.rules.specs.Model.{done_with}
use Rattle.rules.specs.Service.{Wire, of, wire_tick}
use Rattle.frames.specs.Model.{Framing, State, Answer, wire, with_wire}
use Rattle.frames.specs.Admission.{cost}

-- ---- frames of T ticks, which "start at multiples of T": tick t lies in frame t / T, counted from 0

-- the start of the frame after it: "a packet arriving in one frame is eligible at the start of the next"
unfoldable pub next_frame : ℕ → ℕ → ℕ
next_frame T t = (t / T + 1) * T

-- "the end of the frame after its arrival frame"
unfoldable pub leaves_by : ℕ → ℕ → ℕ
leaves_by T t = (t / T + 2) * T

-- ---- the units of a frame

-- what a packet counts against its connection's units now: its cost, as long as it is not eligible
unfoldable pub newly : Framing → ℕ → Packet → ℕ
newly l t p = upto (t + 1) p.eligibility (cost l p.len)

-- what connection c has used of its units in this frame, by its rows. It is what those of its accepted packets take that arrived in it (`use_is_what_arrived`, Promises)
abbrev pub used : Framing → ℕ → ℕ → List Packet → ℕ
used l t c rows = total (newly l t) (of c rows)

-- ---- the choice: "eligible packets go in the order offered"

abbrev pub first_eligible : ℕ → List Packet → Option Packet
first_eligible t [] = none
first_eligible t (p ∷ ps) = cond (leb p.eligibility t) (some p) (first_eligible t ps)

-- ---- one tick: the line is the first discipline's, with this choice, and no packet stands by

-- the clock moves on, with what departs and the line given anew
abbrev pub moves_on : State → Option Packet → Wire → Answer
moves_on s o w = done_with 0 o (with_wire s (s.clock + 1) w)

abbrev pub ticked : State → Answer
ticked s = wire_tick s.link.silence (moves_on s) (first_eligible s.clock s.held) none (wire s)
