-- The five calls: their verdicts as one table, and what each does where the verdict is 0. Document 02, R-13, with the numbers of document 01, "Verdict numbers".
use Rattle.std.specs.Prelude.{ℕ, zero, suc, ◌+◌, ◌-◌, Bool, cond, not, List, [], ◌∷◌, ◌++◌, leb, ltb, eqb, length}
use Rattle.std.proofs.Math.Option.{Option, none, some}
use Rattle.rules.specs.declared.Packet.{Packet}
use Rattle.rules.specs.declared.Short.{Short}
use Rattle.rules.specs.Words.{within, first_number}
use Rattle.rules.specs.Limits.{max_connections, max_reserved, clock_end, max_notices, notice_number, no_connection_number}
use Rattle.rules.specs.Model.{done_with, no_short}
use Rattle.rules.specs.Service.{of}
use Rattle.frames.specs.Model.{Share, State, Call, link, admit, offer, notice, tick, Answer, figures, with_link, with_rows}
use Rattle.frames.specs.Admission.{cost, framing_within, share_within, stands, frame_sum, all_places}
use Rattle.frames.specs.Service.{next_frame, used, ticked}
use Rattle.frames.specs.SoundTest.{sound}

-- ---- the table, call by call, each in the order of its numbers: number, given exactly when

-- no link set; the clock has ended
abbrev pub no_link_set : State → ℕ × Bool
no_link_set s = (2, eqb s.link.frame 0)

abbrev pub clock_ended : State → ℕ × Bool
clock_ended s = (13, leb clock_end s.clock)

-- a newcomer behind those who stand
abbrev pub joining : State → Share → List Share
joining s x = s.connections ++ x ∷ []

abbrev pub causes : Call → State → List (ℕ × Bool)
causes (link l) s =
    -- a link is set already
    (3, not (eqb s.link.frame 0))
    -- "T out of range, or S with its silence above T"; S or the silence out of range
    ∷ (4, not (framing_within l)) ∷ []
causes (admit x) s =
    no_link_set s
    -- r or p outside its limits
    ∷ (6, not (share_within x))
    -- all connections stand
    ∷ (7, leb max_connections (length s.connections))
    -- "the sum of all r plus S and its silence" would pass T
    ∷ (8, ltb s.link.frame (frame_sum s.link (joining s x)))
    -- "the sum of all p" would pass its limit
    ∷ (9, ltb max_reserved (all_places (joining s x))) ∷ []
causes (offer c len tag) s =
    no_link_set s
    -- no such connection
    ∷ (10, not (stands s.connections c))
    -- "a length outside 1 to S"
    ∷ (11, not (within 1 s.link.largest len))
    -- the connection "holds p packets"
    ∷ (12, leb (figures s c).places (length (of c s.held)))
    ∷ clock_ended s
    -- it "would take it past r in the arrival frame"
    ∷ (19, ltb (figures s c).units (used s.link s.clock c s.held + cost s.link len)) ∷ []
causes (notice len tag) s =
    no_link_set s
    -- length 0 or above S
    ∷ (11, not (within 1 s.link.largest len))
    ∷ clock_ended s
    -- the places of the notices are full
    ∷ (15, leb max_notices (length s.notices)) ∷ []
causes tick s = no_link_set s ∷ clock_ended s ∷ []

unfoldable pub verdicts : Call → State → List (ℕ × Bool)
verdicts k s = (1, not (sound s)) ∷ causes k s

-- number 1 first, otherwise the lowest that applies; 0: done
abbrev pub verdict : Call → State → ℕ
verdict k s = first_number (verdicts k s)

-- ---- what a call does

-- the eligibility of an offer now
abbrev pub eligibility_now : State → ℕ
eligibility_now s = next_frame s.link.frame s.clock

-- no packet leaves but in a tick
abbrev pub done : Call → State → Answer
done (link l) s = done_with 0 none (with_link s l s.connections)
done (admit x) s = done_with (length s.connections) none (with_link s s.link (joining s x))
done (offer c len tag) s =
    let p : Packet = record { connection = c; len = len; tag = tag; arrival = s.clock; eligibility = eligibility_now s } in
    done_with (eligibility_now s) none (with_rows s (s.held ++ p ∷ []) s.notices)
done (notice len tag) s = done_with s.clock none (with_rows s s.held (s.notices ++ record { len = len; tag = tag; arrival = s.clock } ∷ []))
done tick s = ticked s

-- what a call offers, if it does: the connection or the notices' number, the length and the tag; and the number that it gets where it is refused: an admission connection 255, an
-- offer or a notice eligibility 0
abbrev pub form : Call → Option (ℕ × ℕ × ℕ) × ℕ × Option Share
form (link l) = (none, 0, none)
form (admit x) = (none, no_connection_number, some x)
form (offer c len tag) = (some (c, len, tag), 0, none)
form (notice len tag) = (some (notice_number, len, tag), 0, none)
form tick = (none, 0, none)

abbrev pub refused_number : Call → ℕ
refused_number k = (form k).1

-- where the verdict is 8: the units by which the frame is over, with the new one counted; a frame has no levels, and the level is 0
abbrev pub refused_short : Call → State → ℕ → Short
refused_short k s v =
    elim (form k).2 [ none ↦ no_short | some x ↦ cond (eqb v 8) (record { level = 0; units = frame_sum s.link (joining s x) - s.link.frame }) no_short ]

-- a verdict other than 0 changes nothing, and no packet leaves
abbrev pub settle : Call → State → ℕ → Answer
settle k s zero = done k s
settle k s (suc v) = record { verdict = suc v; number = refused_number k; short = refused_short k s (suc v); departed = none; next = s }

-- THE RULES: the answer to a call on any state at all
abbrev pub answer : Call → State → Answer
answer k s = settle k s (verdict k s)
