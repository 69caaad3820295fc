-- QUIET TICKS: those in which nothing starts, nothing departs and no charge ends, so that many can be passed over at once. Document 01, "One tick"; document 02,
-- R-1, R-4, R-8, R-11 and R-12.
use Rattle.std.specs.Prelude.{ℕ, zero, suc, ◌+◌, ◌-◌, min, ◌≡◌, Bool, false, List, [], ◌∷◌, leb, drop}
use Rattle.rules.specs.declared.Packet.{Packet}
use Rattle.rules.specs.Limits.{clock_end}
use Rattle.rules.specs.Model.{State, with_clock, with_line}
use Rattle.rules.specs.Admission.{charge_time}
use Rattle.rules.specs.Service.{stand_by, wire}
use Rattle.rules.specs.SoundTest.{sound}
use Rattle.tables.specs.Places.{rows, row_at}
use Rattle.line.specs.Quiet.{eligible_from, quiet_line, if_linked}
use Rattle.connections.specs.Members.{first_closed}

-- the state k ticks on, where nothing starts and nothing departs in them: what is in service, if anything is, has k units fewer to go, and a silence k ticks
abbrev pub passed : State → ℕ → State
passed s k = with_line (with_clock s (s.clock + k)) s.serving (s.to_go - k) (s.silent - k)

-- the least eligibility of four rows from row i on
abbrev pub least_of_four : List ℕ → ℕ → ℕ
least_of_four t i = min (min (row_at t i).eligibility (row_at t (i + 1)).eligibility) (min (row_at t (i + 2)).eligibility (row_at t (i + 3)).eligibility)

-- with `first` for the rows before row i, the wait is that of all rows
abbrev pub Waits : List ℕ → ℕ → ℕ → ℕ → Type 0
Waits t clock first i = min first (eligible_from (drop i (rows t))) - clock ≡ eligible_from (rows t) - clock

-- the first of some packets is eligible
abbrev pub first_starts : List Packet → ℕ → Bool
first_starts [] clock = false
first_starts (p ∷ ps) clock = leb p.eligibility clock

-- the ticks in which no charge ends: up to the one before the earliest end, which is the earliest last eligibility of those that are closed plus the time of a
-- charge; `first` is one more than that eligibility, and 0 where none is closed
abbrev pub charged_for : ℕ → ℕ → ℕ → ℕ
charged_for zero time clock = clock_end
charged_for (suc last) time clock = suc last + time - 2 - clock

-- the ticks in which nothing starts, nothing departs and no charge ends
abbrev pub quiet_levels : State → ℕ
quiet_levels s = min (quiet_line s.clock (stand_by s) (wire s)) (charged_for (first_closed s.pasts s.closed) (charge_time s.link) s.clock)

-- of `left` ticks those that are passed over at once: none without a link, and none beyond the clock's end
unfoldable pub quiet_ticks : ℕ → State → ℕ
quiet_ticks left s = if_linked (sound s) s.link.levels (min (quiet_levels s) left)
