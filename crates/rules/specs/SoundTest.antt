-- The sound state as a test that computes, in the passes that the code makes. It need not be believed: `Test-is-exact` (Promises) says that it is true
-- exactly of a sound state. Document 01, "A sound state".
use Rattle.std.specs.Prelude.{ℕ, ◌+◌, max, min, Bool, true, false, cond, not, ◌&&◌, ◌||◌, List, [], ◌∷◌, ◌++◌, leb, eqb, length}
use Rattle.std.proofs.Math.Option.{Option, none, some}
use Rattle.rules.specs.Words.{within, every, each}
use Rattle.rules.specs.Limits.{max_levels, max_connections, max_reserved, clock_end, max_notices, notice_number, max_remembered}
use Rattle.rules.specs.Model.{Link, Connection, Past, Packet, Notice, State, nth, past, figures, closed_at, first_notice}
use Rattle.rules.specs.Admission.{link_within, level_within, figures_within, owned, charge_time, burst, stamped, reservation, ahead, reserved, passes}
use Rattle.rules.specs.Service.{nth_before, ticks_after, earliest, remember_all, of, eligibilities, first, early_at, charge_over}
use Rattle.rules.specs.SoundState.{departed_of, settles, margin}

-- ---- with no link set

abbrev pub all_zero : Link → Bool
all_zero l =
    eqb l.largest 0
    && (eqb l.silence 0
    && (eqb l.early 0
    && ((eqb (length l.bounds) max_levels && each (λ d. eqb d 0) l.bounds)
    && (eqb (length l.windows) max_levels && each (λ w. eqb w 0) l.windows))))

-- a free number: everything unused is zero
abbrev pub blank : Connection → Bool
blank c = eqb c.level 0 && (eqb c.gap 0 && (eqb c.size 0 && (eqb c.window 0 && (eqb c.average 0 && (eqb c.kind 0 && eqb c.allowance 0)))))

abbrev pub free_sound : State → ℕ → Bool
free_sound s c = blank (figures s c) && (eqb (length (past s c)) 0 && not (closed_at s c))

abbrev pub one_each : State → Bool
one_each s = eqb (length s.connections) max_connections && (eqb (length s.pasts) max_connections && eqb (length s.closed) max_connections)

unfoldable pub nothing_used : State → Bool
nothing_used s =
    all_zero s.link
    && (one_each s
    && (every max_connections (free_sound s)
    && (eqb s.clock 0
    && (eqb (length s.held) 0 && (eqb (length s.notices) 0 && (eqb s.serving 0 && (eqb s.to_go 0 && eqb s.silent 0)))))))

-- ---- with one: the link and the connections

abbrev pub connection_sound : Link → Connection → Bool
connection_sound l c = level_within l c && figures_within l c

abbrev pub number_sound : State → ℕ → Bool
number_sound s c = cond (owned s.connections c) (connection_sound s.link (figures s c)) (free_sound s c)

unfoldable pub admissions_sound : State → Bool
admissions_sound s =
    link_within s.link
    && (one_each s
    && (every max_connections (number_sound s) && (passes s.link s.connections && leb (reserved s.link s.connections) max_reserved)))

-- ---- the rows

abbrev pub row_sound : List Connection → ℕ → Packet → Bool
row_sound cs t p =
    owned cs p.connection
    && (within 1 (nth cs p.connection).size p.len && (leb p.arrival t && leb p.arrival p.eligibility))

-- how far past the clock a rule can hold a packet back whose n-th before is not known: I, or X where there is no average
abbrev pub reach : Connection → ℕ
reach c = cond (eqb (burst c) 0) c.gap c.window

-- how late an eligibility may be behind those in h: as early as the rules allow if the n-th before is known, else the greater of X past the one before and of
-- I (or X, where there is no average) past the clock t; of the second kind the allowance past the clock (document 02, R-9)
abbrev pub far_as : ℕ → ℕ → Option ℕ → ℕ
far_as far x none = far
far_as far x (some a) = a + x

unfoldable pub latest_by_gap : Connection → ℕ → Past → ℕ
latest_by_gap c t h = max (ticks_after c.gap (nth_before 1 h)) (far_as (t + reach c) c.window (nth_before (burst c) h))

unfoldable pub latest : Connection → ℕ → Past → ℕ
latest c t h = cond (stamped c) (t + c.allowance) (latest_by_gap c t h)

-- .. whose packets may go early, r past the clock: no later than that, and where those in h settle it no later than they allow (document 02, R-11)
unfoldable pub latest_early : Connection → ℕ → ℕ → Past → ℕ
latest_early c r t h = cond (settles c t h) (min (t + r) (max t (earliest c h))) (t + r)

abbrev pub last_tick : Connection → Option ℕ → ℕ → Past → ℕ
last_tick c none t h = max t (latest c t h)
last_tick c (some r) t h = latest_early c r t h

-- an eligibility e behind those in h: not too early, and not too late. a: `ahead`
abbrev pub in_pace : Connection → Option ℕ → ℕ → Past → ℕ → Bool
in_pace c a t h e = leb (earliest c h) e && leb e (last_tick c a t h)

-- what is remembered of connection c and no longer held
abbrev pub departed_by : State → ℕ → Past
departed_by s c = departed_of (past s c) (eligibilities c s.held)

-- one pass over the rows, behind those in `before`; of each connection only what is remembered is kept. old: what it was before the first row
abbrev pub paced : Link → List Connection → ℕ → (ℕ → Past) → List Packet → List Packet → Bool
paced l cs t old before [] = true
paced l cs t old before (p ∷ ps) =
    in_pace (nth cs p.connection) (ahead l (nth cs p.connection)) t (remember_all (old p.connection) (eligibilities p.connection before)) p.eligibility
    && paced l cs t old (before ++ p ∷ []) ps

-- what is remembered of a connection and no longer held, newest first: it keeps the spacing, and lies at or before t, which is the clock, or as far past it as a
-- packet may go early
abbrev pub left_in_time : Connection → ℕ → Past → Bool
left_in_time c t [] = true
left_in_time c t (e ∷ h) = leb (earliest c h) e && (leb e t && left_in_time c t h)

-- .. of a connection that holds n packets, no more than its reservation
abbrev pub left_sound : Link → Connection → ℕ → ℕ → Past → Bool
left_sound l c t n old = leb n (reservation l c) && left_in_time c (t + margin (ahead l c)) old

abbrev pub same_numbers : List ℕ → List ℕ → Bool
same_numbers [] [] = true
same_numbers [] (b ∷ bs) = false
same_numbers (a ∷ xs) [] = false
same_numbers (a ∷ xs) (b ∷ bs) = eqb a b && same_numbers xs bs

-- what is remembered, h, is what the pass leaves
abbrev pub kept_sound : Past → Past → Bool
kept_sound h new = leb (length h) max_remembered && same_numbers h new

-- connection c before the pass, and behind it; of a free number nothing is asked
abbrev pub before_pass : State → ℕ → Bool
before_pass s c = not (owned s.connections c) || left_sound s.link (figures s c) s.clock (length (of c s.held)) (departed_by s c)

abbrev pub behind_pass : State → ℕ → Bool
behind_pass s c = not (owned s.connections c) || kept_sound (past s c) (remember_all (departed_by s c) (eligibilities c s.held))

-- all rows and all connections among themselves
abbrev pub queues_sound : State → Bool
queues_sound s =
    every max_connections (before_pass s)
    && (paced s.link s.connections s.clock (departed_by s) [] s.held && every max_connections (behind_pass s))

-- a closed connection holds nothing, and its charge is not over
abbrev pub closed_sound : State → ℕ → Bool
closed_sound s c = not (closed_at s c) || (eqb (length (of c s.held)) 0 && not (charge_over (charge_time s.link) s.clock (past s c)))

unfoldable pub rows_sound : State → Bool
rows_sound s =
    leb s.clock clock_end
    && (each (row_sound s.connections s.clock) s.held && (queues_sound s && every max_connections (closed_sound s)))

-- ---- the notices

abbrev pub notice_sound : Link → ℕ → Notice → Bool
notice_sound l t n = within 1 l.largest n.len && leb n.arrival t

unfoldable pub notices_sound : State → Bool
notices_sound s = leb (length s.notices) max_notices && each (notice_sound s.link s.clock) s.notices

-- ---- the line

-- the packet in service: eligible, unless it may go early
abbrev pub serves : Bool → Option Packet → ℕ → ℕ → Bool
serves early none to_go t = false
serves early (some p) to_go t = within 1 p.len to_go && (early || leb p.eligibility t)

abbrev pub serves_notice : Option Notice → ℕ → Bool
serves_notice none to_go = false
serves_notice (some n) to_go = within 1 n.len to_go

abbrev pub busy_sound : State → Bool
busy_sound s =
    cond (eqb s.serving notice_number)
    (serves_notice (first_notice s.notices) s.to_go)
    (serves (early_at s s.serving) (first s.serving s.held) s.to_go s.clock)

unfoldable pub line_sound : State → Bool
line_sound s = cond (eqb s.to_go 0) (eqb s.serving 0 && leb s.silent s.link.silence) (eqb s.silent 0 && busy_sound s)

-- ---- the state

unfoldable pub sound : State → Bool
sound s = cond (eqb s.link.levels 0) (nothing_used s) (admissions_sound s && (rows_sound s && (notices_sound s && line_sound s)))
