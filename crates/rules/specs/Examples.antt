-- Document 01, "Table of proved examples", P1 to P10, as one table under one statement.
use Rattle.std.specs.Prelude.{ℕ, zero, suc, ◌+◌, ◌≤◌, ◌≡◌, false, List, [], ◌∷◌, ◌++◌, map, length, replicate, set}
use Rattle.std.proofs.Math.Option.{none, some}
use Rattle.rules.specs.Words.{first_number}
use Rattle.rules.specs.Limits.{max_remembered}
use Rattle.rules.specs.Model.{Connection, Past, State, Call, link, admit, offer, notice, close, tick, Short, no_short, no_windows, no_connection, no_past, fresh, past, figures, with_link, with_connections, with_closed, with_held}
use Rattle.rules.specs.Admission.{joining, reservation, level_sum}
use Rattle.rules.specs.Service.{remember_all, Spaced, eligibilities}
use Rattle.rules.specs.SoundState.{in_order, departed_of, Beyond}
use Rattle.rules.specs.Calls.{causes, done, answer}
use Rattle.rules.specs.Runs.{Departure, History, run_from, run, own_departures, Exchange, exchanges, asked_of}
use Rattle.rules.specs.TwoHubs.{Follows, Carries}

-- what is seen of a call: its verdict, its number, which level was short and by how many units, and for an admission the level sums with the newcomer counted, within d or
-- within w where the link has windows, and its reservation;
-- and the finishes once so many ticks have followed
pub record Seen : Type 0 where
  pub verdict : ℕ
  pub number : ℕ
  pub short : Short
  pub sums : List ℕ
  pub reservations : List ℕ
  pub finishes : List ℕ

-- the calls from fresh, the call that is looked at, the ticks that follow
pub record Case : Type 0 where
  pub before : List Call
  pub call : Call
  pub ticks : ℕ
  pub expected : Seen

abbrev pub sums_at : State → Call → List ℕ
sums_at s (link l) = []
sums_at s (admit x) = level_sum s.link (joining s.connections x) 1 0 ∷ level_sum s.link (joining s.connections x) 2 0 ∷ []
sums_at s (offer c len tag st) = []
sums_at s (notice len tag) = []
sums_at s (close c) = []
sums_at s tick = []

abbrev pub reservations_at : State → Call → List ℕ
reservations_at s (link l) = []
reservations_at s (admit x) = reservation s.link x ∷ []
reservations_at s (offer c len tag st) = []
reservations_at s (notice len tag) = []
reservations_at s (close c) = []
reservations_at s tick = []

unfoldable pub seen : Case → Seen
seen x =
    let s = (run x.before).now in
    record {
      verdict = (answer x.call s).verdict;
      number = (answer x.call s).number;
      short = (answer x.call s).short;
      sums = sums_at s x.call;
      reservations = reservations_at s x.call;
      finishes = map (λ (d : Departure). d.finish) (run (x.before ++ x.call ∷ replicate x.ticks tick)).departed;
    }

-- Link A: S 4, bounds 10, 20
abbrev pub link_a : Call
link_a = link (record { levels = 2; largest = 4; silence = 0; early = 0; bounds = 10 ∷ 20 ∷ 0 ∷ 0 ∷ 0 ∷ 0 ∷ 0 ∷ 0 ∷ []; windows = no_windows })

-- an admission with level, gap and size
abbrev pub line : ℕ → ℕ → ℕ → Call
line level gap size = admit (record { level = level; gap = gap; size = size; window = 0; average = 0; kind = 0; allowance = 0 })

abbrev pub over : ℕ → ℕ → Short
over level units = record { level = level; units = units }

abbrev pub admission : List Call → Call → ℕ → ℕ → Short → List ℕ → ℕ → Case
admission before call verdict number short sums reserve = record {
  before = before;
  call = call;
  ticks = 0;
  expected = record { verdict = verdict; number = number; short = short; sums = sums; reservations = reserve ∷ []; finishes = [] };
}

abbrev pub service : List Call → Call → ℕ → ℕ → ℕ → List ℕ → Case
service before call ticks verdict number finishes = record {
  before = before;
  call = call;
  ticks = ticks;
  expected = record { verdict = verdict; number = number; short = no_short; sums = []; reservations = []; finishes = finishes };
}

abbrev pub after_p1 : List Call
after_p1 = link_a ∷ line 1 10 4 ∷ []

abbrev pub after_p2 : List Call
after_p2 = after_p1 ++ line 2 20 4 ∷ []

abbrev pub after_p3 : List Call
after_p3 = after_p2 ++ line 1 9 1 ∷ []

abbrev pub after_p5 : List Call
after_p5 = after_p3 ++ line 2 20 1 ∷ []

abbrev pub after_p8 : List Call
after_p8 = after_p2 ++ offer 1 4 71 none ∷ tick ∷ offer 0 4 72 none ∷ []

abbrev pub table : List Case
table =
    -- P1, P2, P3
    admission (link_a ∷ []) (line 1 10 4) 0 0 no_short (8 ∷ 12 ∷ []) 1
    ∷ admission after_p1 (line 2 20 4) 0 1 no_short (8 ∷ 16 ∷ []) 1
    ∷ admission after_p2 (line 1 9 1) 0 2 no_short (10 ∷ 19 ∷ []) 2
    -- P4 instead of P3: 12 at level 1, 2 units over
    ∷ admission after_p2 (line 1 9 2) 8 255 (over 1 2) (12 ∷ 22 ∷ []) 2
    -- P5, and P6 the same again: 20 and 21 at level 2, 1 unit over
    ∷ admission after_p3 (line 2 20 1) 0 3 no_short (10 ∷ 20 ∷ []) 1
    ∷ admission after_p5 (line 2 20 1) 8 255 (over 2 1) (10 ∷ 21 ∷ []) 1
    -- P7: passes level 1 with 8, fails level 2 with 24, 4 units over
    ∷ admission (link_a ∷ line 2 20 4 ∷ line 2 20 4 ∷ line 2 20 4 ∷ []) (line 1 10 4) 8 255 (over 2 4) (8 ∷ 24 ∷ []) 1
    -- P8: offer 1 at 0, one tick, offer 0 at 1: eligible at 1, finishes 4 and 8
    ∷ service (after_p2 ++ offer 1 4 71 none ∷ tick ∷ []) (offer 0 4 72 none) 7 0 1 (4 ∷ 8 ∷ [])
    -- P9: a second such offer on 0 at clock 1
    ∷ service after_p8 (offer 0 4 73 none) 7 12 0 (4 ∷ 8 ∷ [])
    -- P10: offer 0, length 1, at clock 8: eligible 11, finish 12
    ∷ service (after_p8 ++ replicate 7 tick) (offer 0 1 74 none) 4 0 11 (4 ∷ 8 ∷ 12 ∷ [])
    ∷ []

-- document 02, R-2: a bound that is longer by the units lengthens the window too, so a level can fail again. A line of gap 1 and size 1 on a link with S 1:
-- with bound 4 one unit is missing, and with bound 5 one is missing again
abbrev pub one_level : ℕ → Call
one_level d = link (record { levels = 1; largest = 1; silence = 0; early = 0; bounds = d ∷ 0 ∷ 0 ∷ 0 ∷ 0 ∷ 0 ∷ 0 ∷ 0 ∷ []; windows = no_windows })

abbrev pub longer_bound : List Case
longer_bound =
    admission (one_level 4 ∷ []) (line 1 1 1) 8 255 (over 1 1) (5 ∷ 1 ∷ []) 4
    ∷ admission (one_level 5 ∷ []) (line 1 1 1) 8 255 (over 1 1) (6 ∷ 1 ∷ []) 5
    ∷ []

abbrev pub ALongerBoundCanFailToo : Type 0
ALongerBoundCanFailToo = map seen longer_bound ≡ map (λ (x : Case). x.expected) longer_bound

abbrev pub WorkedExamples : Type 0
WorkedExamples = map seen table ≡ map (λ (x : Case). x.expected) table

-- document 02, R-4: a link with S 4, a silence and two bounds, the second longer by 12. With a silence of 2 a packet of 4 units takes the line for 6 ticks
abbrev pub link_with_silence : ℕ → ℕ → Call
link_with_silence silence bound = link (record { levels = 2; largest = 4; silence = silence; early = 0; bounds = bound ∷ (bound + 12) ∷ 0 ∷ 0 ∷ 0 ∷ 0 ∷ 0 ∷ 0 ∷ []; windows = no_windows })

abbrev pub two_lines : List Call
two_lines = link_with_silence 2 12 ∷ line 1 12 4 ∷ line 2 24 4 ∷ []

abbrev pub silences : List Case
silences =
    -- the first bound is at least S plus the silence, and the silence at most 64
    service [] (link_with_silence 2 5) 0 4 0 []
    ∷ service [] (link_with_silence 2 6) 0 0 0 []
    ∷ service [] (link_with_silence 65 69) 0 4 0 []
    ∷ service [] (link_with_silence 64 68) 0 0 0 []
    -- each size and S grow by the silence: 6 + 6 at level 1, 2 times 6 + 6 at level 2; then 6 more; then 3 more, 3 units over
    ∷ admission (link_with_silence 2 12 ∷ []) (line 1 12 4) 0 0 no_short (12 ∷ 18 ∷ []) 1
    ∷ admission (link_with_silence 2 12 ∷ line 1 12 4 ∷ []) (line 2 24 4) 0 1 no_short (12 ∷ 24 ∷ []) 1
    ∷ admission two_lines (line 2 24 1) 8 255 (over 2 3) (12 ∷ 27 ∷ []) 1
    -- offer 1 at 0 departs at 4; the line is silent in ticks 4 and 5; offer 0, eligible at 1, starts at 6 and departs at 10
    ∷ service (two_lines ++ offer 1 4 71 none ∷ tick ∷ []) (offer 0 4 72 none) 9 0 1 (4 ∷ 10 ∷ [])
    -- its place is free at 4, in the silence
    ∷ service (two_lines ++ offer 1 4 71 none ∷ replicate 4 tick) (offer 1 1 73 none) 21 0 24 (4 ∷ 25 ∷ [])
    -- a notice needs the silence too: the packet that comes behind it at 1 starts at 3
    ∷ service (two_lines ++ notice 1 74 ∷ tick ∷ []) (offer 0 1 75 none) 3 0 1 (1 ∷ 4 ∷ [])
    ∷ []

abbrev pub WorkedSilences : Type 0
WorkedSilences = map seen silences ≡ map (λ (x : Case). x.expected) silences

-- document 02, R-6: a line of level 1 with gap 1 and size 1, an averaging window and an average gap
abbrev pub average_line : ℕ → ℕ → Call
average_line window average = admit (record { level = 1; gap = 1; size = 1; window = window; average = average; kind = 0; allowance = 0 })

-- .. with the gap 3
abbrev pub gap_3 : ℕ → ℕ → Call
gap_3 window average = admit (record { level = 1; gap = 3; size = 1; window = window; average = average; kind = 0; allowance = 0 })

-- n offers of one unit at the same tick
abbrev pub at_once : ℕ → List Call
at_once n = replicate n (offer 0 1 71 none)

abbrev pub two_in_100 : List Call
two_in_100 = link_a ∷ average_line 100 50 ∷ []

-- a bound of 10 reserves 3, one of 13 reserves 3 + 1
abbrev pub three_in_12 : ℕ → List Call
three_in_12 d = one_level d ∷ average_line 12 4 ∷ []

-- offers at 0, 6 and 7, and the clock at 12
abbrev pub burst_at_6 : List Call
burst_at_6 = three_in_12 13 ++ offer 0 1 71 none ∷ replicate 6 tick ++ offer 0 1 72 none ∷ tick ∷ offer 0 1 73 none ∷ replicate 5 tick

abbrev pub averages : List Case
averages =
    -- a window without an average gap, or the other way; one that it does not divide; 17 packets in a window; an average gap below the gap
    admission (link_a ∷ []) (average_line 100 0) 6 255 no_short (14 ∷ 24 ∷ []) 10
    ∷ admission (link_a ∷ []) (average_line 0 50) 6 255 no_short (14 ∷ 24 ∷ []) 10
    ∷ admission (link_a ∷ []) (average_line 100 51) 6 255 no_short (5 ∷ 5 ∷ []) 1
    ∷ admission (link_a ∷ []) (average_line 17 1) 6 255 no_short (14 ∷ 24 ∷ []) 10
    ∷ admission (link_a ∷ []) (gap_3 4 2) 6 255 no_short (8 ∷ 11 ∷ []) 4
    -- the count within 10 and 20 ticks, and 4 for S. 2 in 100: 2 and 2. 2 in 8: 2 + 2 and 2 * 2 + 2. 1 in 8: 1 + 1 and 2 * 1 + 1
    ∷ admission (link_a ∷ []) (average_line 100 50) 0 0 no_short (6 ∷ 6 ∷ []) 2
    ∷ admission (link_a ∷ []) (average_line 8 4) 0 0 no_short (8 ∷ 10 ∷ []) 4
    ∷ admission (link_a ∷ []) (average_line 8 8) 0 0 no_short (6 ∷ 7 ∷ []) 2
    -- 2 in 8 with the gap 3: of the rest, 2 and 4 ticks, 1 and 2 packets, so 2 + 1 and 2 * 2 + 2
    ∷ admission (link_a ∷ []) (gap_3 8 4) 0 0 no_short (7 ∷ 10 ∷ []) 3
    -- 16 in 32, within 33 ticks: 16 + 1, and 1 for S
    ∷ admission (one_level 33 ∷ []) (average_line 32 2) 0 0 no_short (18 ∷ 1 ∷ []) 17
    -- offers at 0 and 1 are eligible on arrival; the third, at 2, 100 after the first; the fourth 100 after the second; the fifth finds no room
    ∷ service (two_in_100 ++ offer 0 1 71 none ∷ tick ∷ []) (offer 0 1 72 none) 1 0 1 (1 ∷ 2 ∷ [])
    ∷ service (two_in_100 ++ offer 0 1 71 none ∷ tick ∷ offer 0 1 72 none ∷ tick ∷ []) (offer 0 1 73 none) 1 0 100 (1 ∷ 2 ∷ [])
    ∷ service (two_in_100 ++ offer 0 1 71 none ∷ tick ∷ offer 0 1 72 none ∷ tick ∷ offer 0 1 73 none ∷ []) (offer 0 1 74 none) 1 0 101 (1 ∷ 2 ∷ [])
    ∷ service (two_in_100 ++ offer 0 1 71 none ∷ tick ∷ offer 0 1 72 none ∷ tick ∷ offer 0 1 73 none ∷ offer 0 1 74 none ∷ []) (offer 0 1 75 none) 1 12 0 (1 ∷ 2 ∷ [])
    -- a burst of 3 in 12, all offered at 0: the gap alone between the three, and the fourth 12 after the first
    ∷ service (three_in_12 13 ++ at_once 2) (offer 0 1 72 none) 3 0 2 (1 ∷ 2 ∷ 3 ∷ [])
    ∷ service (three_in_12 13 ++ at_once 3) (offer 0 1 72 none) 0 0 12 []
    -- with room for 3 the fourth is refused. It is not remembered: one that is offered at 1 is eligible 12 after the first, not after the second
    ∷ service (three_in_12 10 ++ at_once 3) (offer 0 1 72 none) 0 12 0 []
    ∷ service (three_in_12 10 ++ at_once 4 ++ tick ∷ []) (offer 0 1 72 none) 0 0 12 (1 ∷ [])
    -- a window that begins inside a burst, at 6: it holds 6, 7 and the one offered at 12, which is eligible at once, 12 after the first; the next 12 after 6
    ∷ service burst_at_6 (offer 0 1 74 none) 1 0 12 (1 ∷ 7 ∷ 8 ∷ 13 ∷ [])
    ∷ service (burst_at_6 ++ offer 0 1 74 none ∷ []) (offer 0 1 75 none) 0 0 18 (1 ∷ 7 ∷ 8 ∷ [])
    -- 1 in 8: the second waits for the window, not for the gap
    ∷ service (link_a ∷ average_line 8 8 ∷ at_once 1) (offer 0 1 72 none) 0 0 8 []
    -- 16 in 32, all offered at 0: the seventeenth is held back by the first, until 32, where the gap alone would give 16
    ∷ service (one_level 33 ∷ average_line 32 2 ∷ at_once 16) (offer 0 1 72 none) 0 0 32 []
    ∷ []

abbrev pub WorkedAverages : Type 0
WorkedAverages = map seen averages ≡ map (λ (x : Case). x.expected) averages

-- document 02's sound state does not say that what has left was eligible (`left_eligible`, SoundState). The other clauses of `Queue`, of connection 0
abbrev pub QueueButLeft : Connection → ℕ → Past → List ℕ → Type 0
QueueButLeft c t h es =
    (length h ≤ max_remembered)
    × (remember_all (departed_of h es) es ≡ h)
    × Spaced c (in_order (departed_of h es) es)
    × Beyond c none t (departed_of h es) es

abbrev pub ButLeft : State → Type 0
ButLeft s = QueueButLeft (figures s 0) s.clock (past s 0) (eligibilities 0 s.held)

-- a line with 1 packet in 4 ticks and a reservation of 72 / 4 = 18, at clock 0; of what it remembers, 160, 156 .. 100, only the first is held
abbrev pub left_too_early : State
left_too_early =
    with_held
    (with_connections
    (with_link fresh (record { levels = 1; largest = 1; silence = 0; early = 0; bounds = 72 ∷ replicate 7 0; windows = no_windows }))
    (set fresh.connections 0 (record { level = 1; gap = 2; size = 1; window = 4; average = 4; kind = 0; allowance = 0 }))
    (set fresh.pasts 0 (160 ∷ 156 ∷ 152 ∷ 148 ∷ 144 ∷ 140 ∷ 136 ∷ 132 ∷ 128 ∷ 124 ∷ 120 ∷ 116 ∷ 112 ∷ 108 ∷ 104 ∷ 100 ∷ [])))
    (record { connection = 0; len = 1; tag = 71; arrival = 0; eligibility = 160 } ∷ [])

-- n offers, one after the other: the state behind them, and for each the lowest verdict that applies, 1 left out
abbrev pub offered : ℕ → State → State
offered zero s = s
offered (suc n) s = offered n (done (offer 0 1 72 none) s).next

abbrev pub told : ℕ → State → List ℕ
told zero s = []
told (suc n) s = first_number (causes (offer 0 1 72 none) s) ∷ told n (done (offer 0 1 72 none) s).next

-- these clauses hold of it, fifteen offers get no such verdict, and then the clauses hold no longer: 156 is forgotten, and 160 lies too far past the clock
abbrev pub LeftMustBeEligible : Type 0
LeftMustBeEligible = ButLeft left_too_early × (told 15 left_too_early ≡ replicate 15 0) × (ButLeft (offered 15 left_too_early) → ⊥)

-- document 02, R-8: a link with one level, S 1 and bound 4, and three lines of gap 4 and size 1; a fourth would be one unit too many
abbrev pub three_lines : List Call
three_lines = one_level 4 ∷ line 1 4 1 ∷ line 1 4 1 ∷ line 1 4 1 ∷ []

abbrev pub late_admission : List Call → Call → ℕ → ℕ → Short → List ℕ → ℕ → Case
late_admission before call verdict number short sums reserve = record {
  before = before;
  call = call;
  ticks = 0;
  expected = record { verdict = verdict; number = number; short = short; sums = sums; reservations = reserve ∷ []; finishes = 1 ∷ [] };
}

-- line 0 has sent at 0, and is closed once that has left, at 1
abbrev pub sent_and_closed : List Call
sent_and_closed = three_lines ++ offer 0 1 71 none ∷ tick ∷ close 0 ∷ []

abbrev pub closings : List Case
closings =
    -- a number that does not stand; one that holds a packet; one that never sent, which is free at once and given next
    service three_lines (close 3) 0 10 0 []
    ∷ service (three_lines ++ offer 0 1 71 none ∷ []) (close 0) 1 16 0 (1 ∷ [])
    ∷ service three_lines (close 1) 0 0 0 []
    ∷ admission (three_lines ++ close 1 ∷ []) (line 1 4 1) 0 1 no_short (4 ∷ 1 ∷ []) 1
    -- one that has sent: offers and a second close get 10; at 3 it is still charged, 1 unit over; at 4 its number is given again
    ∷ service sent_and_closed (offer 0 1 72 none) 0 10 0 (1 ∷ [])
    ∷ service sent_and_closed (close 0) 0 10 0 (1 ∷ [])
    ∷ late_admission (sent_and_closed ++ tick ∷ tick ∷ []) (line 1 4 1) 8 255 (over 1 1) (5 ∷ 1 ∷ []) 1
    ∷ late_admission (sent_and_closed ++ tick ∷ tick ∷ tick ∷ []) (line 1 4 1) 0 0 no_short (4 ∷ 1 ∷ []) 1
    -- closed at 4 it is freed at once; of two free numbers the lower is given
    ∷ late_admission (three_lines ++ offer 0 1 71 none ∷ replicate 4 tick ++ close 0 ∷ []) (line 1 4 1) 0 0 no_short (4 ∷ 1 ∷ []) 1
    ∷ admission (three_lines ++ close 2 ∷ close 1 ∷ []) (line 1 4 1) 0 1 no_short (3 ∷ 1 ∷ []) 1
    -- its new owner starts fresh: eligible on arrival
    ∷ service (sent_and_closed ++ tick ∷ tick ∷ tick ∷ line 1 4 1 ∷ []) (offer 0 1 73 none) 1 0 4 (1 ∷ 5 ∷ [])
    ∷ []

abbrev pub WorkedClosings : Type 0
WorkedClosings = map seen closings ≡ map (λ (x : Case). x.expected) closings

-- a charge that ended two ticks earlier would be too short. S 2, bounds 4 and 5. A notice of two units starts at 0; at 1 a line of level 1 and gap 6 is admitted and sends
-- two units, and one of level 2 sends one unit; at 4 the first is closed: by the rules it is charged until 1 + 5. Were it freed at 4 = 1 + 3, the same line could
-- come again and send at once, and the packet of level 2, eligible at 1, would still be held at 6 = 1 + 5. By the rules it gets 8 and its offer 10, and that
-- packet has left at 5
abbrev pub before_early : List Call
before_early =
    link (record { levels = 2; largest = 2; silence = 0; early = 0; bounds = 4 ∷ 5 ∷ 0 ∷ 0 ∷ 0 ∷ 0 ∷ 0 ∷ 0 ∷ []; windows = no_windows })
    ∷ notice 2 70 ∷ tick ∷ line 1 6 2 ∷ offer 0 2 71 none ∷ line 2 9 1 ∷ offer 1 1 72 none ∷ tick ∷ tick ∷ tick ∷ close 0 ∷ []

-- number 0 is freed, whatever the clock
abbrev pub freed_early : History → History
freed_early h =
    let s = h.now in
    record {
      accepted = h.accepted;
      departed = h.departed;
      present = h.present;
      now = with_closed (with_connections s (set s.connections 0 no_connection) (set s.pasts 0 no_past)) (set s.closed 0 false);
    }

abbrev pub behind_early : List Call
behind_early = line 1 6 2 ∷ offer 0 2 73 none ∷ tick ∷ tick ∷ []

abbrev pub too_early : History
too_early = run_from (freed_early (run before_early)) behind_early

abbrev pub FreedTooEarlyIsLate : Type 0
FreedTooEarlyIsLate =
    (map (λ (d : Departure). d.finish) (run before_early).departed ≡ 2 ∷ 4 ∷ [])
    × (too_early.now.clock ≡ 6)
    × (too_early.now.held ≡ record { connection = 1; len = 1; tag = 72; arrival = 1; eligibility = 1 } ∷ [])
    × (map (λ (d : Departure). d.finish) (run (before_early ++ behind_early)).departed ≡ 2 ∷ 4 ∷ 5 ∷ [])

-- document 02, R-9: on link A a connection of the second kind, of level 1 with gap 10 and size 4, and an allowance; and one with any kind, window and average
abbrev pub stamped_line : ℕ → Call
stamped_line allowance = admit (record { level = 1; gap = 10; size = 4; window = 0; average = 0; kind = 1; allowance = allowance })

abbrev pub kind_line : ℕ → ℕ → ℕ → Call
kind_line kind allowance window = admit (record { level = 1; gap = 10; size = 4; window = window; average = window; kind = kind; allowance = allowance })

abbrev pub with_stamps : List Call
with_stamps = link_a ∷ stamped_line 5 ∷ []

abbrev pub stamps : List Case
stamps =
    -- an allowance up to 65,535; a gap connection has none, a connection with one has no average, and there is no third kind
    admission (link_a ∷ []) (stamped_line 65_536) 6 255 no_short (8 ∷ 12 ∷ []) 6_555
    ∷ admission (link_a ∷ []) (kind_line 0 1 0) 6 255 no_short (8 ∷ 12 ∷ []) 2
    ∷ admission (link_a ∷ []) (kind_line 1 1 10) 6 255 no_short (8 ∷ 12 ∷ []) 2
    ∷ admission (link_a ∷ []) (kind_line 2 1 0) 6 255 no_short (8 ∷ 12 ∷ []) 2
    -- the level test counts 10 / 10 and 20 / 10, the reservation (5 + 10) / 10 rounded up; a long allowance passes the places
    ∷ admission (link_a ∷ []) (stamped_line 5) 0 0 no_short (8 ∷ 12 ∷ []) 2
    ∷ admission (link_a ∷ []) (stamped_line 20_470) 0 0 no_short (8 ∷ 12 ∷ []) 2_048
    ∷ admission (link_a ∷ []) (stamped_line 20_471) 9 255 no_short (8 ∷ 12 ∷ []) 2_049
    -- without a stamp: 10; and with one to a gap connection
    ∷ service with_stamps (offer 0 4 71 none) 0 10 0 []
    ∷ service (link_a ∷ line 1 10 4 ∷ []) (offer 0 4 71 (some 0)) 0 10 0 []
    -- the stamp plus 5 is the eligibility, on an idle line too: finish 9
    ∷ service with_stamps (offer 0 4 71 (some 0)) 9 0 5 (9 ∷ [])
    -- 17: the stamp is later than now; the sum is before now; it is less than 10 after the last eligibility
    ∷ service with_stamps (offer 0 4 71 (some 1)) 0 17 0 []
    ∷ service (with_stamps ++ replicate 6 tick) (offer 0 4 71 (some 0)) 0 17 0 []
    ∷ service (with_stamps ++ offer 0 4 71 (some 0) ∷ replicate 9 tick) (offer 0 4 72 (some 9)) 0 17 0 (9 ∷ [])
    ∷ service (with_stamps ++ offer 0 4 71 (some 0) ∷ replicate 10 tick) (offer 0 4 72 (some 10)) 9 0 15 (9 ∷ 19 ∷ [])
    ∷ []

abbrev pub WorkedStamps : Type 0
WorkedStamps = map seen stamps ≡ map (λ (x : Case). x.expected) stamps

-- document 02, R-3, speaks of lines that keep their gap; of others it is false. A line of gap 10 offers at 1 and at 2, one unit each: alone on the wire it is
-- accepted twice; beside a connection that sent four units at 0 its first packet still waits at 2, and the second is refused for room
abbrev pub gap_broken_calls : List Call → List Call
gap_broken_calls others = after_p2 ++ others ++ tick ∷ offer 0 1 72 none ∷ tick ∷ offer 0 1 73 none ∷ []

abbrev pub gap_broken : List Call → List Exchange
gap_broken others = exchanges 0 (gap_broken_calls others)

abbrev pub said : ℕ → ℕ → ℕ → ℕ → Exchange
said at tag verdict eligibility = record { asked = record { at = at; len = 1; tag = tag; stamp = none }; verdict = verdict; eligibility = eligibility }

abbrev pub ABrokenGapCanBeToldApart : Type 0
ABrokenGapCanBeToldApart =
    (gap_broken [] ≡ said 1 72 0 1 ∷ said 2 73 0 11 ∷ []) × (gap_broken (offer 1 4 71 none ∷ []) ≡ said 1 72 0 1 ∷ said 2 73 12 0 ∷ [])

-- .. and of connections by stamps, whose offers must be a gap apart too (document 02, R-9). One of gap 4 and allowance 4 has room for two. At 10 it offers twice,
-- eligible at 10 and 14; at 11 its stamp is later than the present tick, so alone it gets 17; beside a connection of level 2 that sent two units at 9 its first
-- packet still waits, and it gets 12
abbrev pub stamps_broken_calls : List Call → List Call
stamps_broken_calls others =
    link (record { levels = 2; largest = 2; silence = 0; early = 0; bounds = 4 ∷ 8 ∷ 0 ∷ 0 ∷ 0 ∷ 0 ∷ 0 ∷ 0 ∷ []; windows = no_windows })
    ∷ admit (record { level = 1; gap = 4; size = 1; window = 0; average = 0; kind = 1; allowance = 4 }) ∷ line 2 8 2
    ∷ replicate 9 tick ++ others ++ tick ∷ offer 0 1 72 (some 6) ∷ offer 0 1 73 (some 10) ∷ tick ∷ offer 0 1 74 (some 12) ∷ []

abbrev pub said_of_stamp : ℕ → ℕ → ℕ → ℕ → ℕ → Exchange
said_of_stamp at tag stamp verdict eligibility = record {
  asked = record { at = at; len = 1; tag = tag; stamp = some stamp };
  verdict = verdict;
  eligibility = eligibility;
}

abbrev pub BrokenStampsCanBeToldApart : Type 0
BrokenStampsCanBeToldApart =
    (exchanges 0 (stamps_broken_calls []) ≡ said_of_stamp 10 72 6 0 10 ∷ said_of_stamp 10 73 10 0 14 ∷ said_of_stamp 11 74 12 17 0 ∷ [])
    × (exchanges 0 (stamps_broken_calls (offer 1 2 71 none ∷ [])) ≡ said_of_stamp 10 72 6 0 10 ∷ said_of_stamp 10 73 10 0 14 ∷ said_of_stamp 11 74 12 12 0 ∷ [])

-- document 02, R-9: two hubs in a row, with a delay of 1 between them. A packet of one unit is offered to hub 1 at 0 and leaves at 1; hub 2 gets it at 2 with the
-- stamp 0, and its connection has the allowance 4 + 1. So the conditions of `TwoHubs` can be met
abbrev pub hub_1 : List Call
hub_1 = one_level 4 ∷ line 1 4 1 ∷ offer 0 1 71 none ∷ tick ∷ []

abbrev pub hub_2 : List Call
hub_2 =
    one_level 4 ∷ admit (record { level = 1; gap = 4; size = 1; window = 0; average = 0; kind = 1; allowance = 5 })
    ∷ tick ∷ tick ∷ offer 0 1 71 (some 0) ∷ []

abbrev pub ARowOfTwo : Type 0
ARowOfTwo =
    Follows (run hub_1).now (run hub_2).now 0 0 1
    × Carries 1 (own_departures 0 hub_1) (asked_of 0 hub_2)
    × (map (λ (e : Exchange). e.eligibility) (exchanges 0 hub_2) ≡ 5 ∷ [])

-- document 02, R-11: link A with the stand-by queue on, 1, or off, 0
abbrev pub link_early : ℕ → Call
link_early early = link (record { levels = 2; largest = 4; silence = 0; early = early; bounds = 10 ∷ 20 ∷ 0 ∷ 0 ∷ 0 ∷ 0 ∷ 0 ∷ 0 ∷ []; windows = no_windows })

-- a line of gap 10 and reservation 1 has sent at 0, and its packet has left at 4
abbrev pub sent_once : ℕ → List Call
sent_once early = link_early early ∷ line 1 10 4 ∷ line 2 20 4 ∷ offer 0 4 71 none ∷ replicate 4 tick

-- .. a second one, eligible at 10, has been offered at 4
abbrev pub sent_twice : ℕ → List Call
sent_twice early = sent_once early ++ offer 0 4 72 none ∷ []

-- S 1 and bound 4: a line of gap 4 has sent at 0 and at 1; its second packet, eligible at 4, has left at 2
abbrev pub early_hub_1 : List Call
early_hub_1 =
    link (record { levels = 1; largest = 1; silence = 0; early = 1; bounds = 4 ∷ 0 ∷ 0 ∷ 0 ∷ 0 ∷ 0 ∷ 0 ∷ 0 ∷ []; windows = no_windows })
    ∷ line 1 4 1 ∷ offer 0 1 71 none ∷ tick ∷ offer 0 1 72 none ∷ tick ∷ []

abbrev pub admission_after_early : List Call → Call → ℕ → List ℕ → Case
admission_after_early before call number sums = record {
  before = before;
  call = call;
  ticks = 0;
  expected = record { verdict = 0; number = number; short = no_short; sums = sums; reservations = 1 ∷ []; finishes = 1 ∷ 2 ∷ [] };
}

abbrev pub early_departures : List Case
early_departures =
    -- on or off, nothing else
    service [] (link_early 2) 0 4 0 []
    ∷ service [] (link_early 1) 0 0 0 []
    -- the second packet finishes at 8, two ticks before it is eligible; with the queue off at 14
    ∷ service (sent_once 1) (offer 0 4 72 none) 10 0 10 (4 ∷ 8 ∷ [])
    ∷ service (sent_once 0) (offer 0 4 72 none) 10 0 10 (4 ∷ 14 ∷ [])
    -- at 8 and at 9 the next eligibility, 20, is more than 10 ticks off, at 10 it is not
    ∷ service (sent_twice 1 ++ replicate 4 tick) (offer 0 4 73 none) 0 18 0 (4 ∷ 8 ∷ [])
    ∷ service (sent_twice 1 ++ replicate 5 tick) (offer 0 4 73 none) 0 18 0 (4 ∷ 8 ∷ [])
    ∷ service (sent_twice 1 ++ replicate 6 tick) (offer 0 4 73 none) 4 0 20 (4 ∷ 8 ∷ 14 ∷ [])
    -- a notice goes before a packet that stands by, and so does one that is eligible
    ∷ service (sent_twice 1) (notice 1 73) 5 0 4 (4 ∷ 5 ∷ 9 ∷ [])
    ∷ service (sent_twice 1) (offer 1 4 73 none) 8 0 4 (4 ∷ 8 ∷ 12 ∷ [])
    -- the packet offered first goes early, whatever its level: line 1 has sent at 0 too; its second, eligible at 20, finishes at 12, and line 0's, eligible at 10, at 16
    ∷ service (link_early 1 ∷ line 1 10 4 ∷ line 2 20 4 ∷ offer 0 4 71 none ∷ offer 1 4 72 none ∷ replicate 8 tick ++ offer 1 4 73 none ∷ [])
    (offer 0 4 74 none) 8 0 10 (4 ∷ 8 ∷ 12 ∷ 16 ∷ [])
    -- nothing interrupts it: line 0's packet of 5, eligible on arrival, waits for line 1's, which began at 4
    ∷ service (link_early 1 ∷ line 1 10 4 ∷ line 2 20 4 ∷ offer 1 4 71 none ∷ replicate 4 tick ++ offer 1 4 72 none ∷ tick ∷ []) (offer 0 4 73 none) 7 0 5 (4 ∷ 8 ∷ 12 ∷ [])
    -- a line with an average, 2 in 100 ticks, gap 1 and reservation 2: its third would be eligible at 100
    ∷ service (link_early 1 ∷ average_line 100 50 ∷ offer 0 1 71 none ∷ tick ∷ offer 0 1 72 none ∷ tick ∷ []) (offer 0 1 73 none) 0 18 0 (1 ∷ 2 ∷ [])
    -- a connection of the second kind is passed over, though its packet was offered first: it waits for its eligibility, 9, on the idle line
    ∷ service (link_early 1 ∷ stamped_line 5 ∷ line 2 20 4 ∷ offer 1 4 71 none ∷ replicate 4 tick ++ offer 0 4 72 (some 4) ∷ []) (offer 1 4 73 none) 9 0 20 (4 ∷ 8 ∷ 13 ∷ [])
    -- R-8's charge counts from the last eligibility, 4, though its packet has left before: until 4 + 4
    ∷ admission_after_early (early_hub_1 ++ close 0 ∷ replicate 5 tick) (line 1 4 1) 1 (3 ∷ 1 ∷ [])
    ∷ admission_after_early (early_hub_1 ++ close 0 ∷ replicate 6 tick) (line 1 4 1) 0 (2 ∷ 1 ∷ [])
    ∷ []

abbrev pub WorkedStandBy : Type 0
WorkedStandBy = map seen early_departures ≡ map (λ (x : Case). x.expected) early_departures

-- "verdict 1 follows it": at 8 the second packet has left two ticks before its eligibility. This state is sound where the queue is on, and would not be where it is off
abbrev pub turned_off : State → State
turned_off s = with_link s (record { levels = s.link.levels; largest = s.link.largest; silence = s.link.silence; early = 0; bounds = s.link.bounds; windows = s.link.windows })

abbrev pub Verdict1ByTheSetting : Type 0
Verdict1ByTheSetting =
    let eight = (run (sent_twice 1 ++ replicate 4 tick)).now in
    map (λ (s : State). (answer tick s).verdict) (eight ∷ turned_off eight ∷ []) ≡ 0 ∷ 1 ∷ []

-- a hub whose queue is on cannot be the first of two in a row, as `Follows` asks: that second packet comes to hub 2 at 3, within the delay of 1 and before its stamp, 4
abbrev pub early_hub_2 : List Call
early_hub_2 = hub_2 ++ tick ∷ offer 0 1 72 (some 4) ∷ []

abbrev pub EarlyBeforeItsStamp : Type 0
EarlyBeforeItsStamp =
    Carries 1 (own_departures 0 early_hub_1) (asked_of 0 early_hub_2) × (map (λ (e : Exchange). e.verdict) (exchanges 0 early_hub_2) ≡ 0 ∷ 17 ∷ [])
