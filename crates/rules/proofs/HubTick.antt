-- One tick of the hub, in the pieces that proofs take one by one.
use Prim.Native.Nat.{ℕ, ◌+◌}
use mathlib.Core.Bool.{cond}
use mathlib.Core.List.{List}
use mathlib.Core.Option.{Option}
use lib.Dec.{eqb}
use Rattle.rules.specs.Model.{Packet, Notice, State, Answer, no_short, with_clock, with_held, with_notices, with_line}
use Rattle.rules.specs.Admission.{cost}
use Rattle.rules.specs.Service.{chosen, stand_by, begins, packet_leaves, notice_leaves, sends, wire, moves_on}

-- the state one tick later, with the packets held, the notices and the line given anew
abbrev pub later : State → List Packet → List Notice → ℕ → ℕ → ℕ → State
later s held notices serving to_go silent = with_line (with_notices (with_held (with_clock s (s.clock + 1)) held) notices) serving to_go silent

-- 1. given the units to go and the silence: the line then
abbrev pub line_after_start : State → ℕ → ℕ → ℕ × ℕ
line_after_start s u q = begins (chosen s) (stand_by s) (wire s) u q

abbrev pub started_state : State → State
started_state s = let l = line_after_start s s.to_go s.silent in with_line s l.0 l.1 s.silent

-- the answer to a tick
abbrev pub tick_answer : Option Packet → State → Answer
tick_answer o s = record { verdict = 0; number = 0; short = no_short; departed = o; next = s }

-- 2. and 3.
abbrev pub packet_departs : State → Answer
packet_departs s = packet_leaves s.link.silence (moves_on s) (wire s)

abbrev pub notice_departs : State → List Notice → Answer
notice_departs s ns = notice_leaves s.link.silence (moves_on s) (wire s) ns

abbrev pub after_unit : State → ℕ → Answer
after_unit s u = sends s.link.silence (moves_on s) (wire s) u

-- the ticks for which the line is still taken: by what is in service and the silence after it, or by the rest of a silence
unfoldable pub line_left : State → ℕ
line_left s = cond (eqb s.to_go 0) s.silent (cost s.link s.to_go)
