-- THE STATEMENTS, apart from their proofs: each is proved in proofs/Results under the same name in small letters.
use Rattle.std.specs.Prelude.{ℕ, suc, ◌+◌, ◌*◌, ◌-◌, ◌≤◌, ◌<◌, min, ◌≡◌, true, false, cond, Bool, ◌⊎◌, ◌↔◌, List, [], ◌∷◌, ◌++◌, map, leb, eqb, ltb, length, drop}
use Rattle.std.proofs.Math.Option.{Option, none, some}
use Rattle.std.proofs.Math.ListN.{get_elem?}
use Rattle.rules.specs.Words.{sum, All}
use Rattle.rules.specs.Limits.{max_largest, max_silence, max_bound, max_level_window, max_allowance, max_connections, max_reserved, clock_end, beyond_32_bits, max_notices, notice_number}
use Rattle.rules.specs.Model.{Link, Connection, Packet, State, Call, admit, offer, notice, close, Short, no_short, fresh, no_past, nth, past, figures, closed_at, Outcome, no_windows}
use Rattle.rules.specs.Admission.{cost, link_within, level_within, burst, stamped, figures_within, owned, stands, joining, windowed, window, bound, charge_time, count, reservation, reserved, stand_by_on, distance, conditions, limit_at, level_sum, LevelHolds, level_test}
use Rattle.rules.specs.QuickTest.{quick_test}
use Rattle.rules.specs.Service.{nth_before, suits, untimely_by, Spaced, of, eligibilities, first, stand_by, started, charge_over}
use Rattle.rules.specs.SoundState.{Sound}
use Rattle.rules.specs.SoundTest.{sound}
use Rattle.rules.specs.Calls.{answer, refused_number, eligibility_now, packet}
use Rattle.rules.specs.WithoutAverage.{Apart, in_ticks, BaseSpaced}
use Rattle.rules.specs.Runs.{run, departures, in_hub, bound_of, allowed, asked_of, KeepsItsWord, exchanges, Departure}

-- an answer's numbers fit the fields of its record (document 01, "Trace and answer records"): one byte of verdict and of level, four of units, of an eligibility, of an arrival and of a
-- finish, which is the clock then; one byte of a connection's number, which is the number of an answer whose refusal gives 255. A departed packet's tag is as it was offered (`Conservation`)
-- the number of its refusal, the answer, the clock then
pub record AnswerFits {State : Type 0} (refused : ℕ) (a : Outcome State) (t : ℕ) : Type 0 where
  pub verdict : a.verdict < 256
  pub number : a.number < cond (eqb refused 0) beyond_32_bits 256
  pub level : a.short.level < 256
  pub units : a.short.units < beyond_32_bits
  pub departed : (p : Packet) → a.departed ≡ some p → (p.connection < 256) × (p.arrival < beyond_32_bits) × (p.eligibility < beyond_32_bits)
  pub finish : t < beyond_32_bits

-- ---- demand 1: any call on any state ends with an answer or a numbered refusal (`answer` is a function)

-- what holds of every call of any discipline: the answer a to a call on the state s, with `refusal` for the number that the call gets where it is refused; by the sound states of the discipline, the
-- test of them, and its clock
pub record Answered {State : Type 0} (Sound : State → Type 0) (sound : State → Bool) (clock : State → ℕ) (s : State) (refusal : ℕ) (a : Outcome State) : Type 0 where
  -- a refused call changes nothing, and no packet leaves
  pub refusals_change_nothing : (a.verdict ≡ 0 → ⊥) → (a.next ≡ s) × (a.departed ≡ none) × (a.number ≡ refusal)
  -- the test that computes is true exactly of a sound state, and verdict 1 is given exactly where the state is not sound
  pub test_is_exact : sound s ≡ true ↔ Sound s
  pub verdict_1_exactly : a.verdict ≡ 1 ↔ (Sound s → ⊥)
  -- a call on a sound state leaves a sound one, and its answer fits its record
  pub sound_is_kept : Sound s → Sound a.next
  pub answers_fit : Sound s → AnswerFits refusal a (clock a.next)

abbrev pub Demand1 : Type 0
Demand1 = (k : Call) (s : State) → Answered Sound sound State.clock s (refused_number k) (answer k s)

-- ---- the sound state (document 01, "A sound state")

-- with no link set, sound means everything zero
abbrev pub NoLinkMeansZero : Type 0
NoLinkMeansZero = (s : State) → s.link.levels ≡ 0 → Sound s ↔ s ≡ fresh

-- every state of a run is sound
abbrev pub RunsAreSound : Type 0
RunsAreSound = (ks : List Call) → Sound (run ks).now

pub record InASoundState (s : State) : Type 0 where
  -- no more packets are held than the places table has rows, and no more notices wait than their queue has places
  pub rows_fit : length s.held ≤ max_reserved
  pub notices_fit : length s.notices ≤ max_notices
  -- each eligibility that can arise fits 32 bits: those held, those remembered with the time of a charge (document 02, R-8), the next of each connection, of one with an allowance the sum with
  -- any stamp that is not later than the present tick, and the farthest that may be given while the stand-by queue is on (document 02, R-11)
  pub held_fit : All (λ p. p.eligibility < beyond_32_bits) s.held
  pub charges_fit : (c : ℕ) → All (λ e. e + charge_time s.link < beyond_32_bits) (past s c)
  pub next_fit : (c : ℕ) → eligibility_now s c none < beyond_32_bits
  pub sums_fit : (c stamp : ℕ) → stamp ≤ s.clock → eligibility_now s c (some stamp) < beyond_32_bits
  pub distances_fit : (c : ℕ) → s.clock + distance s.link (figures s c) < beyond_32_bits
  -- a notice comes into service only where no held packet is eligible (document 02, R-1)
  pub notices_come_last : s.to_go ≡ 0 → (started s).serving ≡ notice_number → All (λ p. s.clock < p.eligibility) s.held
  -- a packet comes into service before its eligibility only where it stands by, so that the queue is on and its connection is of the first kind, no held packet is eligible and no notice waits (document 02, R-11)
  pub early_comes_last : (p : Packet) → s.to_go ≡ 0 → 1 ≤ (started s).to_go → first (started s).serving s.held ≡ some p → s.clock < p.eligibility
      → (stand_by s ≡ some p) × All (λ q. s.clock < q.eligibility) s.held × (s.notices ≡ [])
  -- a line whose stand-by queue is on does not idle, but for the silence, unless every packet that it holds is of the second kind
  pub early_never_idles : stand_by_on s.link ≡ true → s.to_go ≡ 0 → s.silent ≡ 0
      → (All (λ p. stamped (figures s p.connection) ≡ true) s.held → ⊥) → 1 ≤ (started s).to_go
  -- so no flood pushes eligibilities on for ever: while that queue is on, none that is held or remembered lies further past the clock
  pub never_far_ahead : stand_by_on s.link ≡ true → (c : ℕ) → owned s.connections c ≡ true
      → All (λ e. e ≤ s.clock + distance s.link (figures s c)) (eligibilities c s.held) × All (λ e. e ≤ s.clock + distance s.link (figures s c)) (past s c)

abbrev pub SoundStates : Type 0
SoundStates = (s : State) → Sound s → InASoundState s

-- verdict 15 comes after 13 (document 02, R-1): it is given only while the clock runs
abbrev pub FifteenAfterThirteen : Type 0
FifteenAfterThirteen = (len tag : ℕ) (s : State) → (answer (notice len tag) s).verdict ≡ 15 → s.clock < clock_end

-- ---- which level was short (document 02, R-2)

-- condition `which` of level m is the first that fails, the w condition first, then β upward (document 02, R-12), and it does by exactly u units: sum plus S less its
-- limit. On a link without windows there is but the first, with the sum of document 01 and the limit d (`WithoutWindows`)
pub record FirstExcess (l : Link) (cs : List Connection) (m u : ℕ) : Type 0 where
  pub which : ℕ
  pub is_condition : which < conditions l m
  pub fails : limit_at l m which < level_sum l cs m which
  pub earlier_hold : (i : ℕ) → i < which → level_sum l cs m i ≤ limit_at l m i
  pub units_are : u ≡ level_sum l cs m which - limit_at l m which

-- level t .level of link l fails with connections cs, every lower-numbered one holds, and the units are its first excess
pub record NamesTheLowest (l : Link) (cs : List Connection) (t : Short) : Type 0 where
  pub is_level : (1 ≤ t.level) × (t.level ≤ l.levels)
  pub lower_hold : (m : ℕ) → 1 ≤ m → m < t.level → LevelHolds l cs m
  pub first_excess : FirstExcess l cs t.level t.units

-- every level holds
abbrev pub NoLevelFails : Link → List Connection → Type 0
NoLevelFails l cs = (m : ℕ) → 1 ≤ m → m ≤ l.levels → LevelHolds l cs m

-- the level test names the lowest failing level; level and units are 0 exactly where none fails
abbrev pub LevelTestTells : Type 0
LevelTestTells =
    (l : Link) (cs : List Connection)
    → ((level_test l cs).level ≡ 0 ↔ NoLevelFails l cs)
    × ((level_test l cs).units ≡ 0 ↔ NoLevelFails l cs)
    × (((level_test l cs).level ≡ 0 → ⊥) → NamesTheLowest l cs (level_test l cs))

-- an admission that is refused with 8 says what the level test says with the newcomer counted; every other answer says 0 and 0
abbrev pub ShortIsTold : Type 0
ShortIsTold =
    (k : Call) (s : State)
    → (((answer k s).verdict ≡ 8 → ⊥) → (answer k s).short ≡ no_short)
    × ((x : Connection) → k ≡ admit x → (answer k s).verdict ≡ 8
    → ((answer k s).short ≡ level_test s.link (joining s.connections x)) × NamesTheLowest s.link (joining s.connections x) (answer k s).short)

-- the units are at most 69,206,016: four bytes hold them. Over any connections within the limits, as many as may stand, whether they pass the tests or not (document 02, R-7): the sum of each condition of a level is at
-- most 13,841,205,312, which is within 34 bits, and all reservations together are at most 19,660,600
abbrev pub UnitsFit : Type 0
UnitsFit = (x : Connection) (s : State) → (answer (admit x) s).verdict ≡ 8 → (answer (admit x) s).short.units ≤ max_level_window * (max_largest + max_silence)

abbrev pub SumsFit : Type 0
SumsFit =
    (l : Link) (cs : List Connection)
    → link_within l ≡ true
    → length cs ≤ max_connections
    → ((c : ℕ) → c < length cs → (level_within l (nth cs c) ≡ true) × (figures_within l (nth cs c) ≡ true))
    → ((m : ℕ) → 1 ≤ m → m ≤ l.levels → (i : ℕ) → i < conditions l m
    → level_sum l cs m i ≤ max_connections * (max_level_window * (max_largest + max_silence)) + (max_largest + max_silence))
    × (reserved l cs ≤ max_connections * (max_allowance + max_bound))

-- ---- the finer test (document 02, R-12)

-- the sum of b(w), "the window count of R-6 times the sum of size and silence", over the connections whose level is one of these
abbrev pub b_over : Link → List Connection → (ℕ → Bool) → ℕ → ℕ
b_over l cs at w = sum (length cs) (λ c. cond (at (nth cs c).level) (count (nth cs c) w * cost l (nth cs c).size) 0)

-- "accept at level m exactly if S plus the sum of b(w) over levels 1 to m is at most w, and for every β from 0 to w - 1, S plus the sum of b(β + 1) over level m plus the
-- sum of b over the more urgent levels, for the smaller of d + β and w, is at most d + β"; S with its silence
pub record AcceptsAt (l : Link) (cs : List Connection) (m : ℕ) : Type 0 where
  pub within_w : cost l l.largest + b_over l cs (λ v. leb v m) (window l m) ≤ window l m
  pub for_every_β : (β : ℕ) → β < window l m
      → cost l l.largest + b_over l cs (λ v. eqb v m) (suc β) + b_over l cs (λ v. ltb v m) (min (bound l m + β) (window l m)) ≤ bound l m + β

-- on a link with windows this is what the conditions of a level say
abbrev pub FinerTestSays : Type 0
FinerTestSays = (l : Link) (cs : List Connection) (m : ℕ) → windowed l ≡ true → LevelHolds l cs m ↔ AcceptsAt l cs m

-- "with every w equal to its d the verdicts are the old test's": level and units are those of the same link without windows, whatever the connections
abbrev pub unwindowed : Link → Link
unwindowed l = record { levels = l.levels; largest = l.largest; silence = l.silence; early = l.early; bounds = l.bounds; windows = no_windows }

abbrev pub WindowsAtTheBounds : Type 0
WindowsAtTheBounds =
    (l : Link) (cs : List Connection) → ((m : ℕ) → 1 ≤ m → m ≤ l.levels → window l m ≡ bound l m) → level_test l cs ≡ level_test (unwindowed l) cs

-- the quick test (QuickTest) says what the level test says: the first failing level and its first excess
abbrev pub QuickTestIsExact : Type 0
QuickTestIsExact = (l : Link) (cs : List Connection) → quick_test l cs ≡ level_test l cs

-- ---- conservation: for each connection, and for the notices under their number, accepted = departed followed by what waits, as lists, and so counted too (document 02, R-3). Over all time, so
-- through every owner of a number

abbrev pub Conservation : Type 0
Conservation =
    (ks : List Call) (c : ℕ)
    → of c (run ks).accepted ≡ map (λ d. d.what) (departures c (run ks).departed) ++ of c (in_hub (run ks).now)

-- .. and from each admission on, for the owner that it gives the number c to (document 02, R-8): what was accepted since = what departed since, followed by what waits
abbrev pub ConservationByOwner : Type 0
ConservationByOwner =
    (earlier later : List Call) (x : Connection)
    → (answer (admit x) (run earlier).now).verdict ≡ 0
    → let c = (answer (admit x) (run earlier).now).number in
    let h = run (earlier ++ admit x ∷ later) in
    drop (length (of c (run earlier).accepted)) (of c h.accepted)
    ≡ map (λ d. d.what) (drop (length (departures c (run earlier).departed)) (departures c h.departed)) ++ of c (in_hub h.now)

-- ---- demand 3, first sentence: from a fresh hub, through any calls, each accepted packet has left by its eligibility plus its level's bound,
-- whatever the other connections and the notices do. The i-th accepted packet of c is the i-th departure of c once the clock is there, with a finish no later.
-- It speaks of level packets only (document 02, R-1)

pub record LeftBy (ds : List Departure) (c i : ℕ) (p : Packet) (deadline : ℕ) : Type 0 where
  pub finish : ℕ
  pub is_departure : get_elem? (departures c ds) i ≡ some (record { what = p; finish = finish })
  pub in_time : finish ≤ deadline

-- through any opens and closes (document 02, R-8): any calls `earlier`, an offer of c that is accepted, any calls `later`. The bound is the one of c's owner when
-- the packet was accepted; a later owner of the number does not count
abbrev pub Demand3First : Type 0
Demand3First =
    (earlier later : List Call) (c len tag : ℕ) (st : Option ℕ)
    → (answer (offer c len tag st) (run earlier).now).verdict ≡ 0
    → eligibility_now (run earlier).now c st + bound_of (run earlier).now c ≤ (run (earlier ++ offer c len tag st ∷ later)).now.clock
    → LeftBy (run (earlier ++ offer c len tag st ∷ later)).departed c (length (of c (run earlier).accepted)) (packet (run earlier).now c len tag st)
    (eligibility_now (run earlier).now c st + bound_of (run earlier).now c)

-- ---- demand 3, second sentence: a connection that keeps its word is never refused for room and leaves within the bound of its arrival

-- any calls `earlier`, an offer of c, any calls `later`: it is never refused for room; while the clock runs it is accepted, with the eligibility e, and leaves within the bound of that
pub record KeptPromise (earlier later : List Call) (c len tag : ℕ) (st : Option ℕ) (e : ℕ) : Type 0 where
  pub never_for_room : (answer (offer c len tag st) (run earlier).now).verdict ≡ 12 → ⊥
  pub accepted : (run earlier).now.clock < clock_end → (answer (offer c len tag st) (run earlier).now).verdict ≡ 0
  pub eligible : (run earlier).now.clock < clock_end → (answer (offer c len tag st) (run earlier).now).number ≡ e
  pub in_time : (run earlier).now.clock < clock_end
      → e + bound_of (run earlier).now c ≤ (run (earlier ++ offer c len tag st ∷ later)).now.clock
      → LeftBy (run (earlier ++ offer c len tag st ∷ later)).departed c (length (of c (run earlier).accepted))
      (record { connection = c; len = len; tag = tag; arrival = (run earlier).now.clock; eligibility = e })
      (e + bound_of (run earlier).now c)

-- so it is, with its arrival as its eligibility, where the offer is of allowed length and c has kept its word up to it. This speaks of the first kind; of the second
-- `Demand3ForStamps` does (document 02, R-9)
abbrev pub Demand3Second : Type 0
Demand3Second =
    (earlier later : List Call) (c len tag : ℕ)
    → KeepsItsWord c (earlier ++ offer c len tag none ∷ [])
    → allowed (run earlier).now c len none ≡ true
    → KeptPromise earlier later c len tag none (run earlier).now.clock

-- ---- bed nine and bed ten (document 02, R-3): nothing that another connection does changes what a connection that keeps its word is told

-- in any two runs a connection that keeps its word, of either kind (document 02, R-9), with the same figures and the same offers at the same ticks is told the same, whatever its number in each. That the
-- links are the same and that it was accepted at the same tick need not even be asked. It speaks of the present owner of a number, standing or charged: of a freed number nothing is noted (document 02,
-- R-8). Offers with stamps that come closer than the gap can be told apart (`Examples`, `stamps_broken_calls`)
abbrev pub BedNineAndBedTen : Type 0
BedNineAndBedTen =
    (ks ms : List Call) (c d : ℕ)
    → figures (run ks).now c ≡ figures (run ms).now d
    → asked_of c ks ≡ asked_of d ms
    → KeepsItsWord c ks
    → exchanges c ks ≡ exchanges d ms

-- ---- average rates (document 02, R-6)

-- the spacing, said of any two: X apart, and I apart where they are n or more apart
abbrev pub SpacingSays : Type 0
SpacingSays = (c : Connection) (es : List ℕ) → Spaced c es ↔ (BaseSpaced c es × Apart (burst c) c.window es)

-- over all lengths of window: no w ticks hold more of a connection's eligibilities than the count
abbrev pub NoWindowHoldsMore : Type 0
NoWindowHoldsMore = (c : Connection) → 1 ≤ c.gap → (es : List ℕ) → Spaced c es → (b w : ℕ) → in_ticks b w es ≤ count c w

-- .. and it is exact: for every length of window there are eligibilities of which it holds as many
abbrev pub TheCountIsReached : Type 0
TheCountIsReached = (l : Link) (c : Connection) → figures_within l c ≡ true → (w : ℕ) → (es : List ℕ) × Spaced c es × (in_ticks 0 w es ≡ count c w)

-- a longer window counts no less
abbrev pub TheCountNeverFalls : Type 0
TheCountNeverFalls = (c : Connection) → 1 ≤ c.gap → (w v : ℕ) → w ≤ v → count c w ≤ count c v

-- ---- closing (document 02, R-8)

-- in r it is charged: closed, it counts in the tests, the reservations and the numbers with the figures that it had in s; or freed, where it never sent or the clock t has reached its last eligibility plus
-- the charge's time
abbrev pub ChargedOrFreed : State → ℕ → ℕ → State → Type 0
ChargedOrFreed s c t r =
    (charge_over (charge_time s.link) t (past s c) ≡ false → (closed_at r c ≡ true) × (figures r c ≡ figures s c) × (past r c ≡ past s c))
    × (charge_over (charge_time s.link) t (past s c) ≡ true → owned r.connections c ≡ false)

pub record Closing (s : State) (c : ℕ) : Type 0 where
  -- a close gets 10 exactly for a number that does not stand, 16 exactly for one that does and holds packets
  pub gets_10 : (answer (close c) s).verdict ≡ 10 ↔ stands s c ≡ false
  pub gets_16 : (answer (close c) s).verdict ≡ 16 ↔ ((stands s c ≡ true) × (1 ≤ length (of c s.held)))
  -- an offer to a closed number gets 10
  pub offers_get_10 : closed_at s c ≡ true → (len tag : ℕ) (st : Option ℕ) → (answer (offer c len tag st) s).verdict ≡ 10
  -- a connection that is closed is freed at once or charged
  pub closes : (answer (close c) s).verdict ≡ 0 → ChargedOrFreed s c s.clock (answer (close c) s).next
  -- from then on, whatever the call: it is freed by the tick that reaches its time, and by no other
  pub lasts : (k : Call) → closed_at s c ≡ true → ChargedOrFreed s c (answer k s).next.clock (answer k s).next

abbrev pub ClosingFrees : Type 0
ClosingFrees = (s : State) (c : ℕ) → Sound s → (s.link.levels ≡ 0 → ⊥) → Closing s c

-- an admission gives the lowest number n that has no owner, and its new owner starts fresh
pub record LowestFree (s : State) (x : Connection) (n : ℕ) (r : State) : Type 0 where
  pub is_number : n < max_connections
  pub was_free : owned s.connections n ≡ false
  pub lower_owned : (c : ℕ) → c < n → owned s.connections c ≡ true
  pub new_owner : figures r n ≡ x
  pub starts_fresh : (past r n ≡ no_past) × (stands r n ≡ true)

abbrev pub LowestNumberIsGiven : Type 0
LowestNumberIsGiven =
    (x : Connection) (s : State) → (answer (admit x) s).verdict ≡ 0 → LowestFree s x (answer (admit x) s).number (answer (admit x) s).next

-- ---- a second hub behind the first (document 02, R-9): connections of the second kind. The first sentence of demand 3 is theirs too (`Demand3First`)

-- the same connection regulated by its gap
abbrev pub by_its_gap : Connection → Connection
by_its_gap c = record { level = c.level; gap = c.gap; size = c.size; window = c.window; average = c.average; kind = 0; allowance = 0 }

-- no cause of 17 applies to an offer with this stamp to c now: the stamp is not later than the present tick, the sum is not before it, and it is X or more after
-- the last eligibility, if there is one
pub record NoCause (s : State) (c stamp : ℕ) : Type 0 where
  pub not_later : stamp ≤ s.clock
  pub not_over : s.clock ≤ eligibility_now s c (some stamp)
  pub gap_after : (last : ℕ) → nth_before 1 (past s c) ≡ some last → last + (figures s c).gap ≤ eligibility_now s c (some stamp)

-- an offer to c that gets neither 10, 11, 12 nor 13
pub record MayOffer (s : State) (c len : ℕ) (st : Option ℕ) : Type 0 where
  pub ok : allowed s c len st ≡ true
  pub room : length (of c s.held) < reservation s.link (figures s c)
  pub running : s.clock < clock_end

pub record OfferGets (s : State) (c len tag : ℕ) (st : Option ℕ) : Type 0 where
  -- 10 exactly for a number that does not stand, for a stamp to the first kind, and for none to the second
  pub ten : (answer (offer c len tag st) s).verdict ≡ 10 ↔ ((stands s c ≡ true) × (suits (figures s c) st ≡ true) → ⊥)
  -- 17 exactly where a cause of it applies, and none of the numbers before it
  pub seventeen : (stamp : ℕ) → st ≡ some stamp → (answer (offer c len tag st) s).verdict ≡ 17 ↔ (MayOffer s c len st × (NoCause s c stamp → ⊥))
  -- 18 exactly where the stand-by queue is on and the eligibility would be more than reservation times X past the present tick (document 02, R-11), and none of the numbers before it
  pub eighteen : (answer (offer c len tag st) s).verdict ≡ 18
      ↔ (MayOffer s c len st
      × (untimely_by (figures s c) (past s c) s.clock st ≡ false)
      × (stand_by_on s.link ≡ true)
      × (s.clock + distance s.link (figures s c) < eligibility_now s c st))
  -- .. so never with a stamp: the allowance is no longer than that
  pub stamps_never_18 : (stamp : ℕ) → st ≡ some stamp → (answer (offer c len tag st) s).verdict ≡ 18 → ⊥

abbrev pub VerdictsOfAnOffer : Type 0
VerdictsOfAnOffer = (s : State) (c len tag : ℕ) (st : Option ℕ) → Sound s → (s.link.levels ≡ 0 → ⊥) → OfferGets s c len tag st

-- no packet of a connection of the second kind leaves before its eligibility plus its length, whether the stand-by queue is on or off; nor, where it is off, one of
-- the first kind (document 02, R-11). Any calls `earlier`, an offer of c that is accepted, any calls `later`
abbrev pub NoFinishBefore : Type 0
NoFinishBefore =
    (earlier later : List Call) (c len tag : ℕ) (st : Option ℕ) (finish : ℕ)
    → (answer (offer c len tag st) (run earlier).now).verdict ≡ 0
    → (stamped (figures (run earlier).now c) ≡ true) ⊎ (stand_by_on (run earlier).now.link ≡ false)
    → get_elem? (departures c (run (earlier ++ offer c len tag st ∷ later)).departed) (length (of c (run earlier).accepted))
    ≡ some (record { what = packet (run earlier).now c len tag st; finish = finish })
    → eligibility_now (run earlier).now c st + len ≤ finish

-- in place of the second sentence of demand 3: so it is, with the stamp plus the allowance as its eligibility, where the offer is of allowed length and no cause of 17 applies
abbrev pub Demand3ForStamps : Type 0
Demand3ForStamps =
    (earlier later : List Call) (c len tag stamp : ℕ)
    → allowed (run earlier).now c len (some stamp) ≡ true
    → NoCause (run earlier).now c stamp
    → KeptPromise earlier later c len tag (some stamp) (eligibility_now (run earlier).now c (some stamp))
