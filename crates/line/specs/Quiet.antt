-- HOW LONG A LINE IS QUIET, whatever the discipline: the ticks in which nothing starts and nothing departs. Document 01, "One tick"; document 02, R-1, R-4, R-11 and
-- R-13.
use Rattle.std.specs.Prelude.{ℕ, zero, suc, ◌+◌, ◌-◌, min, Bool, not, cond, ◌&&◌, List, [], ◌∷◌, eqb, length}
use Rattle.std.proofs.Math.Option.{Option, none, some}
use Rattle.rules.specs.declared.Packet.{Packet}
use Rattle.rules.specs.declared.Notice.{Notice}
use Rattle.rules.specs.Limits.{clock_end}
use Rattle.rules.specs.Service.{Wire as Line, passed_wire}
use Rattle.tables.specs.Places.{rows}
use Rattle.line.specs.declared.Hub.{Hub}
use Rattle.line.specs.declared.Wire.{Wire}
use Rattle.line.specs.Wires.{line_in, wire_of, idle}

-- the first tick at which one of some packets is eligible; the clock's end where that is earlier
abbrev pub eligible_from : List Packet → ℕ
eligible_from [] = clock_end
eligible_from (p ∷ ps) = min p.eligibility (eligible_from ps)

-- the ticks in which nothing starts and nothing departs: until a packet is eligible, if no notice waits and no packet stands by, or the rest of a silence, or all
-- but the last unit of what is in service
abbrev pub quiet_for : ℕ → ℕ → List Packet → List Notice → Option Packet → ℕ → ℕ
quiet_for zero zero held [] none clock = eligible_from held - clock
quiet_for zero zero held [] (some p) clock = 0
quiet_for zero zero held (n ∷ ns) o clock = 0
quiet_for zero (suc silent) held ns o clock = suc silent
quiet_for (suc to_go) silent held ns o clock = to_go

-- .. up to the clock's end
abbrev pub quiet_line : ℕ → Option Packet → Line → ℕ
quiet_line clock o l = min (quiet_for l.to_go l.silent l.held l.notices o clock) (clock_end - clock)

-- k, where the state is sound and a link is set: its number `set` is not 0
abbrev pub if_linked : Bool → ℕ → ℕ → ℕ
if_linked sound set k = cond (sound && not (eqb set 0)) k 0

-- the line waits for a packet: it is idle, and no notice waits
abbrev pub awaits : Wire → List ℕ → Bool
awaits w q = idle w && eqb (length (rows q)) 0

-- .. and the quiet ticks where it does not
abbrev pub taken_for : Wire → ℕ
taken_for w = cond (eqb w.to_go 0) w.silent (w.to_go - 1)

-- the wire k ticks on
abbrev pub wire_passed : Wire → ℕ → Wire
wire_passed w k = wire_of (passed_wire (line_in w [] []) k)

-- what is kept k ticks on
abbrev pub hub_passed : {L : Type 0} → Hub L → ℕ → Hub L
hub_passed h k = record { link = h.link; clock = h.clock + k; wire = wire_passed h.wire k }
