-- The line of the rules that a wire and its two tables stand for, and what a unit leaves of them. Document 01, "One tick"; document 02, R-13.
use Rattle.std.specs.Prelude.{ℕ, ◌<◌, ◌≡◌, Bool, true, ◌&&◌, List, eqb, length}
use Rattle.std.proofs.Math.Option.{Option}
use Rattle.rules.specs.declared.Packet.{Packet}
use Rattle.rules.specs.Limits.{notice_number}
use Rattle.rules.specs.Service.{Wire as Line, Sent as After}
use Rattle.tables.specs.Places.{rows, written_places, places_length, place}
use Rattle.tables.specs.Options.{option_of}
use Rattle.tables.specs.Notices.{notices_in, written_notices, notices_formed}
use Rattle.line.specs.declared.Wire.{Wire}
use Rattle.line.specs.declared.Sent.{Sent}

-- the wire of three numbers
abbrev pub on_wire : ℕ → ℕ → ℕ → Wire
on_wire serving to_go silent = record { serving = serving; to_go = to_go; silent = silent }

-- the line that a wire, the places table and the table of notices stand for; and the part of it that no table holds
abbrev pub line_in : Wire → List ℕ → List ℕ → Line
line_in w t q = record { held = rows t; notices = notices_in q; serving = w.serving; to_go = w.to_go; silent = w.silent }

abbrev pub wire_of : Line → Wire
wire_of l = on_wire l.serving l.to_go l.silent

-- an idle line once it has taken what is given: a number and units
abbrev pub takes_up : ℕ × ℕ → Wire
takes_up l = on_wire l.0 l.1 0

-- nothing is in service, and no silence is left to run
abbrev pub idle : Wire → Bool
idle w = eqb w.to_go 0 && eqb w.silent 0

-- the packet that departs, if one does, and the line then, as the code gives them
abbrev pub sent_of : Option Packet → Line → Sent
sent_of o l = record { departed = option_of o; wire = wire_of l }

-- what is told, and both tables then, are those of step 2 of the rules
abbrev pub Leaves : After → Sent → List ℕ → List ℕ → Type 0
Leaves x r t q = (r ≡ sent_of x.departed x.wire) × (t ≡ written_places x.wire.held) × (q ≡ written_notices x.wire.notices)

-- what step 2 needs of a wire, the places table and the table of notices
pub record InPlace (w : Wire) (t q : List ℕ) : Type 0 where
  -- "held packets fill the first rows; the rows behind them are zero"
  pub table : t ≡ written_places (rows t)
  -- "the places table has 2,560 numbers" (10,240 since R-7)
  pub size : length t ≡ places_length
  -- the table of notices is formed
  pub notices : notices_formed q ≡ true
  -- "a packet in service is the first row of its connection": there is one
  pub line : (w.to_go ≡ 0 → ⊥) → (w.serving ≡ notice_number → ⊥) → place w.serving (rows t) < length (rows t)
  -- and so is a notice in service the first one
  pub notice_line : (w.to_go ≡ 0 → ⊥) → w.serving ≡ notice_number → 0 < length (rows q)
