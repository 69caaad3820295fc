-- The six calls: their verdicts as one table, and what each does where the verdict is 0. Document 01, "Verdict numbers"; document 02, R-1, R-8, R-9
-- and R-11.
use Rattle.std.specs.Prelude.{ℕ, zero, suc, ◌+◌, Bool, true, cond, not, ◌&&◌, List, [], ◌∷◌, ◌++◌, leb, ltb, eqb, length, set}
use Rattle.std.proofs.Math.Option.{Option, none, some}
use Rattle.rules.specs.Words.{within, first_number}
use Rattle.rules.specs.Limits.{max_connections, max_reserved, clock_end, max_notices, notice_number, no_connection_number}
use Rattle.rules.specs.Model.{Connection, Packet, State, Call, link, admit, offer, notice, close, tick, Short, no_short, Answer, done_with, past, figures, with_link, with_connections, with_closed, with_held, with_notices}
use Rattle.rules.specs.Admission.{link_within, level_within, figures_within, free_number, joining, stands, reservation, stand_by_on, distance, reserved, level_test, passes}
use Rattle.rules.specs.Service.{suits, eligibility_by, untimely_by, remember, of, ticked, swept}
use Rattle.rules.specs.SoundTest.{sound}

-- an offer is heard by number c if c stands, and is of the second kind exactly where the offer brings a stamp (document 02, R-9)
unfoldable pub heard : State → ℕ → Option ℕ → Bool
heard s c st = stands s c && suits (figures s c) st

-- the eligibility of an offer to connection c now, by its stamp if it brings one
abbrev pub eligibility_now : State → ℕ → Option ℕ → ℕ
eligibility_now s c st = eligibility_by (figures s c) (past s c) s.clock st

-- while the stand-by queue is on: the eligibility "would be more than reservation times X past the present tick" (document 02, R-11)
unfoldable pub too_far : State → ℕ → Option ℕ → Bool
too_far s c st = stand_by_on s.link && ltb (s.clock + distance s.link (figures s c)) (eligibility_now s c st)

-- ---- the table "Verdict numbers", call by call, each in the document's order: number, given exactly when

-- no link set; the clock has ended
abbrev pub no_link_set : State → ℕ × Bool
no_link_set s = (2, eqb s.link.levels 0)

abbrev pub clock_ended : State → ℕ × Bool
clock_ended s = (13, leb clock_end s.clock)

abbrev pub causes : Call → State → List (ℕ × Bool)
causes (link l) s =
    -- a link is set already
    (3, not (eqb s.link.levels 0))
    -- a link limit is broken
    ∷ (4, not (link_within l)) ∷ []
causes (admit x) s =
    no_link_set s
    -- level not 1 to n
    ∷ (5, not (level_within s.link x))
    -- gap or size outside its limits
    ∷ (6, not (figures_within s.link x))
    -- no number is free
    ∷ (7, leb max_connections (free_number s.connections))
    -- a level test fails, with the new one counted
    ∷ (8, not (passes s.link (joining s.connections x)))
    -- reservations would pass their limit
    ∷ (9, ltb max_reserved (reserved s.link (joining s.connections x))) ∷ []
causes (offer c len tag st) s =
    no_link_set s
    -- no such connection; a stamp to one of the first kind, or none to one of the second (document 02, R-9)
    ∷ (10, not (heard s c st))
    -- length 0 or above the connection's size
    ∷ (11, not (within 1 (figures s c).size len))
    -- it holds as many packets as its reservation
    ∷ (12, leb (reservation s.link (figures s c)) (length (of c s.held)))
    ∷ clock_ended s
    -- its stamp, or the eligibility that it gives, is out of time (document 02, R-9)
    ∷ (17, untimely_by (figures s c) (past s c) s.clock st)
    -- its eligibility would lie too far past the present tick (document 02, R-11)
    ∷ (18, too_far s c st) ∷ []
causes (notice len tag) s =
    no_link_set s
    -- length 0 or above S
    ∷ (11, not (within 1 s.link.largest len))
    ∷ clock_ended s
    -- the places of the notices are full
    ∷ (15, leb max_notices (length s.notices)) ∷ []
causes (close c) s =
    no_link_set s
    -- no such connection
    ∷ (10, not (stands s c))
    -- it still holds packets
    ∷ (16, leb 1 (length (of c s.held))) ∷ []
causes tick s = no_link_set s ∷ clock_ended s ∷ []

unfoldable pub verdicts : Call → State → List (ℕ × Bool)
verdicts k s = (1, not (sound s)) ∷ causes k s

-- number 1 first, otherwise the lowest that applies; 0: done
abbrev pub verdict : Call → State → ℕ
verdict k s = first_number (verdicts k s)

-- ---- what a call does

-- the packet that an offer brings
abbrev pub packet : State → ℕ → ℕ → ℕ → Option ℕ → Packet
packet s c len tag st = record { connection = c; len = len; tag = tag; arrival = s.clock; eligibility = eligibility_now s c st }

-- no packet leaves but in a tick
abbrev pub done : Call → State → Answer
done (link l) s = done_with 0 none (with_link s l)
-- the newcomer at the lowest free number: nothing is remembered there, and there is no mark (`free_blank`, SoundState)
done (admit x) s = done_with (free_number s.connections) none (with_connections s (joining s.connections x) s.pasts)
-- the packet behind those held, and its eligibility remembered
done (offer c len tag st) s =
    done_with (eligibility_now s c st) none
    (with_held (with_connections s s.connections (set s.pasts c (remember (past s c) (eligibility_now s c st)))) (s.held ++ packet s c len tag st ∷ []))
-- a notice behind the others
done (notice len tag) s = done_with s.clock none (with_notices s (s.notices ++ record { len = len; tag = tag; arrival = s.clock } ∷ []))
-- connection c is closed; it is freed at once if its charge is over (`swept`)
done (close c) s = done_with 0 none (swept (with_closed s (set s.closed c true)))
-- a tick, and the numbers whose charge it ends are freed
done tick s = let a = ticked s in record { verdict = a.verdict; number = a.number; short = a.short; departed = a.departed; next = swept a.next }

-- what each call is: what it offers, if it does, the connection or the notices' number, the length and the tag; the number that it gets where it is refused, of an admission connection 255, of an
-- offer or a notice eligibility 0; and the newcomer that it brings, if it does
abbrev pub form : Call → Option (ℕ × ℕ × ℕ) × ℕ × Option Connection
form (link l) = (none, 0, none)
form (admit x) = (none, no_connection_number, some x)
form (offer c len tag st) = (some (c, len, tag), 0, none)
form (notice len tag) = (some (notice_number, len, tag), 0, none)
form (close c) = (none, 0, none)
form tick = (none, 0, none)

abbrev pub refused_number : Call → ℕ
refused_number k = (form k).1

-- document 02, R-2: which level was short and by how many units, with the new one counted; nothing unless the verdict is 8
abbrev pub refused_short : Call → State → ℕ → Short
refused_short k s v = elim (form k).2 [ none ↦ no_short | some x ↦ cond (eqb v 8) (level_test s.link (joining s.connections x)) no_short ]

-- a verdict other than 0 changes nothing, and no packet leaves
abbrev pub settle : Call → State → ℕ → Answer
settle k s zero = done k s
settle k s (suc v) = record { verdict = suc v; number = refused_number k; short = refused_short k s (suc v); departed = none; next = s }

-- THE RULES: the answer to a call on any state at all
abbrev pub answer : Call → State → Answer
answer k s = settle k s (verdict k s)
