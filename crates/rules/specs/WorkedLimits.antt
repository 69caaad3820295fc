-- One table of limits and ties, worked by hand from documents 01 and 02: of each limit the last value inside and the first outside, the number that each
-- refused call gives, and what is given where two causes or two packets meet.
use Rattle.std.specs.Prelude.{ℕ, ◌+◌, ◌-◌, ◌≡◌, true, false, List, [], ◌∷◌, ◌++◌, map, length, get_or, replicate}
use Rattle.std.proofs.Math.Option.{none, some}
use Rattle.rules.specs.Limits.{max_levels, max_connections}
use Rattle.rules.specs.Model.{Link, Connection, Past, Packet, Notice, State, Call, link, admit, offer, notice, close, tick, no_link, no_windows, no_connection, no_past, fresh, with_closed, with_line}
use Rattle.rules.specs.Calls.{answer}
use Rattle.rules.specs.Runs.{Departure, run_from}
use Rattle.rules.specs.Examples.{line, average_line, gap_3}

-- what is seen of a call: its verdict, its number, and what has departed once so many ticks have followed it: connections and tags, in order
pub record Outcome : Type 0 where
  pub verdict : ℕ
  pub number : ℕ
  pub departed : List (ℕ × ℕ)

-- a call on a state that is made by hand
pub record Trial : Type 0 where
  pub on : State
  pub call : Call
  pub ticks : ℕ
  pub expected : Outcome

unfoldable pub outcome : Trial → Outcome
outcome x = record {
  verdict = (answer x.call x.on).verdict;
  number = (answer x.call x.on).number;
  departed = map (λ (d : Departure). (d.what.connection, d.what.tag))
      (run_from (record { accepted = []; departed = []; present = []; now = x.on }) (x.call ∷ replicate x.ticks tick)).departed;
}

-- ---- states by hand

-- levels, S, silence, bounds; 0 behind them
abbrev pub wire : ℕ → ℕ → ℕ → List ℕ → Link
wire levels largest silence bounds = record { levels = levels; largest = largest; silence = silence; early = 0; bounds = bounds ++ replicate (max_levels - length bounds) 0; windows = no_windows }

-- document 02, R-11: S 4, bounds 10, 20, the stand-by queue off, 0, or on, 1
abbrev pub wire_by : ℕ → Link
wire_by early = record { levels = 2; largest = 4; silence = 0; early = early; bounds = 10 ∷ 20 ∷ 0 ∷ 0 ∷ 0 ∷ 0 ∷ 0 ∷ 0 ∷ []; windows = no_windows }

-- level, gap, size
abbrev pub connection : ℕ → ℕ → ℕ → Connection
connection level gap size = record { level = level; gap = gap; size = size; window = 0; average = 0; kind = 0; allowance = 0 }

-- document 02, R-9: gap and allowance of one of the second kind, of level 1 and size 3
abbrev pub by_stamps : ℕ → ℕ → Connection
by_stamps gap allowance = record { level = 1; gap = gap; size = 3; window = 0; average = 0; kind = 1; allowance = allowance }

-- an idle line at clock t; every number behind those given is free
abbrev pub numbered : {A : Type 0} → List A → A → List A
numbered xs x = xs ++ replicate (max_connections - length xs) x

abbrev pub idle : ℕ → Link → List Connection → List Past → List Packet → List Notice → State
idle t l cs hs ps ns = record {
  link = l;
  connections = numbered cs no_connection;
  pasts = numbered hs no_past;
  closed = replicate max_connections false;
  clock = t;
  held = ps;
  notices = ns;
  serving = 0;
  to_go = 0;
  silent = 0;
}

-- one unit of connection c
abbrev pub unit : ℕ → ℕ → ℕ → ℕ → Packet
unit c tag arrival eligibility = record { connection = c; len = 1; tag = tag; arrival = arrival; eligibility = eligibility }

-- one packet was accepted so far, with the eligibility e
abbrev pub last_at : ℕ → Past
last_at e = e ∷ []

-- a link and nothing else
abbrev pub bare : Link → State
bare l = idle 0 l [] [] [] []

-- document 01's link A: S 4, bounds 10, 20
abbrev pub wire_a : Link
wire_a = wire 2 4 0 (10 ∷ 20 ∷ [])

-- n lines that count one unit each within the bound
abbrev pub many : ℕ → State
many n = idle 0 (wire 1 1 0 (300 ∷ [])) (replicate n (connection 1 300 1)) (replicate n no_past) [] []

-- a bound of 6,000 and lines of gap 3 and 150: reservations of 2,000 and 40
abbrev pub reserved_2040 : State
reserved_2040 = idle 0 (wire 1 1 0 (6_000 ∷ [])) (connection 1 3 1 ∷ connection 1 150 1 ∷ []) (replicate 2 no_past) [] []

-- link A and a line of level 1, gap 5, size 3, at clock t: 2 * 3 + 4 = 10 at level 1, 4 * 3 + 4 = 16 at level 2, reservation 2. It holds none, one, two
abbrev pub holds_none : ℕ → State
holds_none t = idle t wire_a (connection 1 5 3 ∷ []) (no_past ∷ []) [] []

abbrev pub holds_one : ℕ → State
holds_one t = idle t wire_a (connection 1 5 3 ∷ []) (last_at t ∷ []) (unit 0 71 t t ∷ []) []

abbrev pub holds_two : ℕ → State
holds_two t = idle t wire_a (connection 1 5 3 ∷ []) (((t + 5) ∷ t ∷ []) ∷ []) (unit 0 71 t t ∷ unit 0 72 t (t + 5) ∷ []) []

-- that line alone under number 1, number 0 free; and closed under number 0, its last eligibility 7, so charged until 7 + 20
abbrev pub free_0 : State
free_0 = idle 7 wire_a (no_connection ∷ connection 1 5 3 ∷ []) (no_past ∷ no_past ∷ []) [] []

abbrev pub charged : ℕ → State
charged t = with_closed (idle t wire_a (connection 1 5 3 ∷ []) (last_at 7 ∷ []) [] []) (true ∷ replicate (max_connections - 1) false)

-- all numbers closed, each with a last eligibility of 7, so charged until 7 + 300
abbrev pub all_charged : ℕ → State
all_charged t =
    with_closed (idle t (wire 1 1 0 (300 ∷ [])) (replicate max_connections (connection 1 300 1)) (replicate max_connections (last_at 7)) [] [])
    (replicate max_connections true)

-- link A and a line with stamps, of gap 5 and allowance 6, at clock t: reservation 16 / 5, rounded up. It holds none, one with the eligibility e, four
abbrev pub stamps_none : ℕ → State
stamps_none t = idle t wire_a (by_stamps 5 6 ∷ []) (no_past ∷ []) [] []

abbrev pub stamps_one : ℕ → ℕ → State
stamps_one t e = idle t wire_a (by_stamps 5 6 ∷ []) (last_at e ∷ []) (unit 0 71 t e ∷ []) []

abbrev pub stamps_four : ℕ → State
stamps_four t =
    idle (t + 10) wire_a (by_stamps 5 6 ∷ []) (((t + 15) ∷ (t + 10) ∷ (t + 5) ∷ t ∷ []) ∷ [])
    (unit 0 71 t t ∷ unit 0 72 t (t + 5) ∷ unit 0 73 t (t + 10) ∷ unit 0 74 t (t + 15) ∷ []) []

-- the same line of gap 5 and reservation 2 where the queue is on: its eligibilities lie at most 10 past the clock t. One that it has sent lay at e; it holds one
-- with the eligibility e, or two; that one is in service, with its unit to go
abbrev pub sent_at : ℕ → ℕ → State
sent_at t e = idle t (wire_by 1) (connection 1 5 3 ∷ []) (last_at e ∷ []) [] []

abbrev pub stands_at : ℕ → ℕ → ℕ → State
stands_at early t e = idle t (wire_by early) (connection 1 5 3 ∷ []) (last_at e ∷ []) (unit 0 71 t e ∷ []) []

abbrev pub two_stand : ℕ → ℕ → ℕ → State
two_stand t e f = idle t (wire_by 1) (connection 1 5 3 ∷ []) ((f ∷ e ∷ []) ∷ []) (unit 0 71 t e ∷ unit 0 72 t f ∷ []) []

abbrev pub goes_at : ℕ → ℕ → ℕ → State
goes_at early t e = with_line (stands_at early t e) 0 1 0

-- .. and one of the second kind
abbrev pub stamp_goes_at : ℕ → ℕ → State
stamp_goes_at t e = with_line (idle t (wire_by 1) (by_stamps 5 6 ∷ []) (last_at e ∷ []) (unit 0 71 t e ∷ []) []) 0 1 0

-- link A and n notices of one unit, at clock t
abbrev pub waits : ℕ → ℕ → State
waits t n = idle t wire_a [] [] [] (replicate n (record { len = 1; tag = 9; arrival = t }))

-- link A at clock 10; connection 0 of level 2, 1 and 2 of level 1, each holds one unit, with the tag 70, 71, 72. Their eligibilities by number, their numbers
-- in the order offered, and the tags of notices of one unit
abbrev pub three : List ℕ → List ℕ → List ℕ → State
three es order notes =
    idle 10 wire_a (connection 2 20 1 ∷ connection 1 10 1 ∷ connection 1 10 1 ∷ []) (map last_at es) (map (λ c. unit c (70 + c) 0 (get_or es c 0)) order)
    (map (λ tag. record { len = 1; tag = tag; arrival = 10 }) notes)

-- .. the same where the queue is on
abbrev pub three_early : List ℕ → List ℕ → List ℕ → State
three_early es order notes =
    idle 10 (wire_by 1) (connection 2 20 1 ∷ connection 1 10 1 ∷ connection 1 10 1 ∷ []) (map last_at es) (map (λ c. unit c (70 + c) 0 (get_or es c 0)) order)
    (map (λ tag. record { len = 1; tag = tag; arrival = 10 }) notes)

-- ---- rows: a call gives a verdict and a number; a tick and those after it send these, one in each tick

abbrev pub gives : State → Call → ℕ → ℕ → Trial
gives s k verdict number = record { on = s; call = k; ticks = 0; expected = record { verdict = verdict; number = number; departed = [] } }

abbrev pub sends : State → List (ℕ × ℕ) → Trial
sends s ps = record { on = s; call = tick; ticks = length ps - 1; expected = record { verdict = 0; number = 0; departed = ps } }

-- "Link, connections, places", of a link; document 02, R-4
abbrev pub link_limits : List Trial
link_limits =
    -- 1 to 8 levels
    gives fresh (link (wire 0 1 0 [])) 4 0
    ∷ gives fresh (link (wire 1 1 0 (1 ∷ []))) 0 0
    ∷ gives fresh (link (wire 8 1 0 (1 ∷ 2 ∷ 3 ∷ 4 ∷ 5 ∷ 6 ∷ 7 ∷ 8 ∷ []))) 0 0
    ∷ gives fresh (link (wire 9 1 0 (1 ∷ 2 ∷ 3 ∷ 4 ∷ 5 ∷ 6 ∷ 7 ∷ 8 ∷ 9 ∷ []))) 4 0
    -- S from 1 to 2,048
    ∷ gives fresh (link (wire 1 0 0 (1 ∷ []))) 4 0
    ∷ gives fresh (link (wire 1 2_048 0 (2_048 ∷ []))) 0 0
    ∷ gives fresh (link (wire 1 2_049 0 (2_049 ∷ []))) 4 0
    -- silence up to 64
    ∷ gives fresh (link (wire 1 1 64 (65 ∷ []))) 0 0
    ∷ gives fresh (link (wire 1 1 65 (66 ∷ []))) 4 0
    -- the bounds rise strictly
    ∷ gives fresh (link (wire 2 4 0 (10 ∷ 11 ∷ []))) 0 0
    ∷ gives fresh (link (wire 2 4 0 (10 ∷ 10 ∷ []))) 4 0
    -- the first is at least S plus the silence
    ∷ gives fresh (link (wire 1 4 2 (6 ∷ []))) 0 0
    ∷ gives fresh (link (wire 1 4 2 (5 ∷ []))) 4 0
    -- the last is at most 32,768
    ∷ gives fresh (link (wire 2 4 0 (10 ∷ 32_768 ∷ []))) 0 0
    ∷ gives fresh (link (wire 2 4 0 (10 ∷ 32_769 ∷ []))) 4 0
    -- past n they are 0
    ∷ gives fresh (link (wire 1 4 0 (10 ∷ 0 ∷ []))) 0 0
    ∷ gives fresh (link (wire 1 4 0 (10 ∷ 11 ∷ []))) 4 0
    ∷ []

-- .. of a connection; "The level test". An accepted admission gives the next number, a refused one 255
abbrev pub admission_limits : List Trial
admission_limits =
    -- level 1 to n
    gives (bare wire_a) (line 0 10 4) 5 255
    ∷ gives (bare wire_a) (line 1 10 4) 0 0
    ∷ gives (bare wire_a) (line 2 10 4) 0 0
    ∷ gives (bare wire_a) (line 3 10 4) 5 255
    -- gap from 1 to 65,535; what refuses a gap of 1 is the level test
    ∷ gives (bare wire_a) (line 1 0 4) 6 255
    ∷ gives (bare wire_a) (line 1 1 4) 8 255
    ∷ gives (bare wire_a) (line 1 65_535 4) 0 0
    ∷ gives (bare wire_a) (line 1 65_536 4) 6 255
    -- size from 1 to S
    ∷ gives (bare wire_a) (line 1 10 0) 6 255
    ∷ gives (bare wire_a) (line 1 10 1) 0 0
    ∷ gives (bare wire_a) (line 1 10 5) 6 255
    -- document 02, R-6: an averaging window up to 65,535 ticks, 16 packets in one, an average gap of the gap, 3
    ∷ gives (bare wire_a) (average_line 65_535 65_535) 0 0
    ∷ gives (bare wire_a) (average_line 65_536 65_536) 6 255
    ∷ gives (bare (wire 1 1 0 (33 ∷ []))) (average_line 32 2) 0 0
    ∷ gives (bare (wire 1 1 0 (33 ∷ []))) (average_line 34 2) 6 255
    ∷ gives (bare wire_a) (gap_3 6 3) 0 0
    ∷ gives (bare wire_a) (gap_3 4 2) 6 255
    -- 200 connections
    ∷ gives (many 199) (line 1 300 1) 0 199
    ∷ gives (many 200) (line 1 300 1) 7 255
    -- a sum at its bound, 4 + 4 of 8, and one above it, 4 + 4 of 7; with a silence of 2, 6 + 6 of 12 and of 11
    ∷ gives (bare (wire 1 4 0 (8 ∷ []))) (line 1 8 4) 0 0
    ∷ gives (bare (wire 1 4 0 (7 ∷ []))) (line 1 7 4) 8 255
    ∷ gives (bare (wire 1 4 2 (12 ∷ []))) (line 1 12 4) 0 0
    ∷ gives (bare (wire 1 4 2 (11 ∷ []))) (line 1 11 4) 8 255
    -- reservations of 2,048 together: 2,040 and 6,000 / 750; 2,040 and 6,000 / 700, rounded up
    ∷ gives reserved_2040 (line 1 750 1) 0 2
    ∷ gives reserved_2040 (line 1 700 1) 9 255
    ∷ []

-- offers, notices and ticks. A refused offer or notice gives 0 and not the clock
abbrev pub service_limits : List Trial
service_limits =
    -- a number that stands
    gives (holds_none 7) (offer 0 1 73 none) 0 7
    ∷ gives (holds_none 7) (offer 1 1 73 none) 10 0
    -- lengths from 1 to the connection's size, which is below S here
    ∷ gives (holds_none 7) (offer 0 0 73 none) 11 0
    ∷ gives (holds_none 7) (offer 0 3 73 none) 0 7
    ∷ gives (holds_none 7) (offer 0 4 73 none) 11 0
    -- as many packets as its reservation, 2
    ∷ gives (holds_one 7) (offer 0 1 73 none) 0 12
    ∷ gives (holds_two 7) (offer 0 1 73 none) 12 0
    -- of a notice from 1 to S
    ∷ gives (waits 7 0) (notice 0 73) 11 0
    ∷ gives (waits 7 0) (notice 1 73) 0 7
    ∷ gives (waits 7 0) (notice 4 73) 0 7
    ∷ gives (waits 7 0) (notice 5 73) 11 0
    -- 64 notices
    ∷ gives (waits 7 63) (notice 1 73) 0 7
    ∷ gives (waits 7 64) (notice 1 73) 15 0
    -- the clock's end, which admissions don't ask for
    ∷ gives (holds_none 3_999_999_999) (offer 0 1 73 none) 0 3_999_999_999
    ∷ gives (holds_none 3_999_999_999) (notice 1 73) 0 3_999_999_999
    ∷ gives (holds_none 3_999_999_999) tick 0 0
    ∷ gives (holds_none 4_000_000_000) (offer 0 1 73 none) 13 0
    ∷ gives (holds_none 4_000_000_000) (notice 1 73) 13 0
    ∷ gives (holds_none 4_000_000_000) tick 13 0
    ∷ gives (idle 4_000_000_000 wire_a [] [] [] []) (line 1 10 4) 0 0
    ∷ []

-- document 02, R-8: closing, and the numbers
abbrev pub close_limits : List Trial
close_limits =
    -- a number that stands and holds nothing; also at the clock's end
    gives (holds_none 7) (close 0) 0 0
    ∷ gives (holds_none 7) (close 1) 10 0
    ∷ gives (holds_none 7) (close 200) 10 0
    ∷ gives (holds_one 7) (close 0) 16 0
    ∷ gives (holds_none 4_000_000_000) (close 0) 0 0
    -- closed and charged until 27: at 26 it gets 10, and its number is not given
    ∷ gives (charged 26) (offer 0 1 73 none) 10 0
    ∷ gives (charged 26) (close 0) 10 0
    ∷ gives (charged 26) (line 2 20 1) 0 1
    ∷ gives (charged 26) tick 0 0
    -- all numbers are charged: none is given
    ∷ gives (all_charged 306) (line 1 300 1) 7 255
    -- the lowest free number is given
    ∷ gives free_0 (line 2 20 1) 0 0
    ∷ []

-- document 02, R-9: allowances and stamps
abbrev pub stamp_limits : List Trial
stamp_limits =
    -- an allowance up to 65,535; reservations of 20,480 / 10 and 20,481 / 10, rounded up
    gives (bare wire_a) (admit (by_stamps 100 65_535)) 0 0
    ∷ gives (bare wire_a) (admit (by_stamps 100 65_536)) 6 255
    ∷ gives (bare wire_a) (admit (by_stamps 10 20_470)) 0 0
    ∷ gives (bare wire_a) (admit (by_stamps 10 20_471)) 9 255
    -- a stamp to one of the second kind, none to one of the first
    ∷ gives (stamps_none 7) (offer 0 1 73 none) 10 0
    ∷ gives (holds_none 7) (offer 0 1 73 (some 7)) 10 0
    -- a stamp up to the present tick
    ∷ gives (stamps_none 7) (offer 0 1 73 (some 7)) 0 13
    ∷ gives (stamps_none 7) (offer 0 1 73 (some 8)) 17 0
    -- a sum from the present tick on
    ∷ gives (stamps_none 7) (offer 0 1 73 (some 1)) 0 7
    ∷ gives (stamps_none 7) (offer 0 1 73 (some 0)) 17 0
    -- 5 after the last eligibility
    ∷ gives (stamps_one 7 7) (offer 0 1 73 (some 6)) 0 12
    ∷ gives (stamps_one 7 7) (offer 0 1 73 (some 5)) 17 0
    -- it is held until its eligibility, on an idle line too: 6 beyond the clock
    ∷ gives (stamps_one 7 13) tick 0 0
    ∷ []

-- document 02, R-11: the setting, the distance, and what a sound state asks where the queue is on
abbrev pub stand_by_limits : List Trial
stand_by_limits =
    gives fresh (link (wire_by 1)) 0 0
    ∷ gives fresh (link (wire_by 2)) 4 0
    -- the last eligibility 17: the next one, 22, is 10 past the present tick at 12
    ∷ gives (sent_at 12 17) (offer 0 1 73 none) 0 22
    ∷ gives (sent_at 11 17) (offer 0 1 73 none) 18 0
    -- the last eligibility at most 10 past the clock, sent or held; the second held one 5 after the first
    ∷ gives (sent_at 7 17) tick 0 0
    ∷ sends (stands_at 1 7 17) ((0, 71) ∷ [])
    ∷ sends (two_stand 7 11 16) ((0, 71) ∷ (0, 72) ∷ [])
    -- .. at most 10 past the clock behind one that is eligible
    ∷ sends (two_stand 7 7 17) ((0, 71) ∷ (0, 72) ∷ [])
    -- in service before it is eligible
    ∷ sends (goes_at 1 7 17) ((0, 71) ∷ [])
    -- 12 and 13 before 18
    ∷ gives (two_stand 7 11 16) (offer 0 1 73 none) 12 0
    ∷ gives (sent_at 4_000_000_000 4_000_000_010) (offer 0 1 73 none) 13 0
    -- an eligible packet first, then a notice, then the one that was offered first, whatever its level
    ∷ sends (three_early (12 ∷ 10 ∷ 13 ∷ []) (0 ∷ 1 ∷ 2 ∷ []) []) ((1, 71) ∷ (0, 70) ∷ (2, 72) ∷ [])
    ∷ sends (three_early (13 ∷ 13 ∷ 13 ∷ []) (0 ∷ 2 ∷ 1 ∷ []) (9 ∷ [])) ((254, 9) ∷ (0, 70) ∷ (2, 72) ∷ (1, 71) ∷ [])
    ∷ []

-- states that are not sound: number 1 first
abbrev pub not_sound : List Trial
not_sound =
    -- with no link everything is zero; 1 before 2, at every call
    gives (idle 1 no_link [] [] [] []) (link (wire 1 1 0 (1 ∷ []))) 1 0
    ∷ gives (idle 1 no_link [] [] [] []) (line 1 10 4) 1 255
    ∷ gives (idle 1 no_link [] [] [] []) (offer 0 1 73 none) 1 0
    ∷ gives (idle 1 no_link [] [] [] []) (notice 1 73) 1 0
    ∷ gives (idle 1 no_link [] [] [] []) (close 0) 1 0
    ∷ gives (idle 1 no_link [] [] [] []) tick 1 0
    -- a tick beyond the clock's end
    ∷ gives (holds_none 4_000_000_001) tick 1 0
    -- a charge that is over (document 02, R-8)
    ∷ gives (charged 27) tick 1 0
    -- a packet farther than the allowance beyond the clock (document 02, R-9)
    ∷ gives (stamps_one 7 14) tick 1 0
    -- document 02, R-11: farther than the distance, sent or held; not 5 after the one before, which lies beyond the clock too
    ∷ gives (sent_at 7 18) tick 1 0
    ∷ gives (stands_at 1 7 18) tick 1 0
    ∷ gives (two_stand 7 11 17) tick 1 0
    -- .. where the queue is off as before: at most 5 beyond the clock, and eligible in service; of the second kind so in either setting
    ∷ gives (stands_at 0 7 13) tick 1 0
    ∷ gives (goes_at 0 7 8) tick 1 0
    ∷ gives (stamp_goes_at 7 8) tick 1 0
    ∷ []

-- "Verdict numbers": otherwise the lowest that applies. Calls with several causes
abbrev pub causes : List Trial
causes =
    -- 2 before 5, 10 and 11
    gives fresh (line 0 0 0) 2 255
    ∷ gives fresh (offer 0 0 73 none) 2 0
    ∷ gives fresh (notice 0 73) 2 0
    ∷ gives fresh (close 0) 2 0
    ∷ gives fresh tick 2 0
    -- 3 before 4
    ∷ gives (bare wire_a) (link wire_a) 3 0
    ∷ gives (bare wire_a) (link no_link) 3 0
    -- 5 before 6, 6 before 7, 7 before 8, 8 before 9
    ∷ gives (bare wire_a) (line 0 0 4) 5 255
    ∷ gives (many 200) (line 1 0 1) 6 255
    ∷ gives (many 200) (line 1 1 1) 7 255
    ∷ gives reserved_2040 (line 1 1 1) 8 255
    -- 10 before 11, 11 before 12, 12 before 13
    ∷ gives (holds_two 7) (offer 1 0 73 none) 10 0
    ∷ gives (holds_two 7) (offer 0 4 73 none) 11 0
    ∷ gives (holds_two 4_000_000_000) (offer 0 1 73 none) 12 0
    -- document 02, R-9: 10 before 11, 12 and 13 before 17
    ∷ gives (stamps_none 7) (offer 0 0 73 none) 10 0
    ∷ gives (stamps_four 7) (offer 0 1 75 (some 18)) 12 0
    ∷ gives (stamps_none 4_000_000_000) (offer 0 1 73 (some 4_000_000_001)) 13 0
    -- 11 before 13, 13 before 15
    ∷ gives (waits 4_000_000_000 0) (notice 5 73) 11 0
    ∷ gives (waits 4_000_000_000 64) (notice 1 73) 13 0
    ∷ []

-- "One tick", step 1; document 02, R-1
abbrev pub ties : List Trial
ties =
    -- the lower level first; of the same level and eligibility the first offered
    sends (three (10 ∷ 10 ∷ 10 ∷ []) (0 ∷ 2 ∷ 1 ∷ []) []) ((2, 72) ∷ (1, 71) ∷ (0, 70) ∷ [])
    -- the lower level first, though eligible and offered later; of the same level the earlier eligibility, though offered later
    ∷ sends (three (3 ∷ 10 ∷ 5 ∷ []) (0 ∷ 1 ∷ 2 ∷ []) []) ((2, 72) ∷ (1, 71) ∷ (0, 70) ∷ [])
    -- eligible at the clock, not a tick beyond it
    ∷ sends (three (10 ∷ 11 ∷ 11 ∷ []) (1 ∷ 2 ∷ 0 ∷ []) []) ((0, 70) ∷ (1, 71) ∷ (2, 72) ∷ [])
    -- notices in the order offered, as connection 254, and only where no packet is eligible
    ∷ sends (three (12 ∷ 12 ∷ 12 ∷ []) (0 ∷ 1 ∷ 2 ∷ []) (9 ∷ 8 ∷ 7 ∷ [])) ((254, 9) ∷ (254, 8) ∷ (1, 71) ∷ (2, 72) ∷ (0, 70) ∷ (254, 7) ∷ [])
    ∷ []

abbrev pub AsWorked : List Trial → Type 0
AsWorked rows = map outcome rows ≡ map (λ (x : Trial). x.expected) rows

abbrev pub WorkedLimits : Type 0
WorkedLimits =
    AsWorked link_limits × AsWorked admission_limits × AsWorked service_limits × AsWorked close_limits × AsWorked stamp_limits × AsWorked stand_by_limits × AsWorked not_sound
    × AsWorked causes × AsWorked ties
