-- Examples of the finer test, document 02, R-12, in the form of those of Examples.
use Rattle.std.specs.Prelude.{ℕ, zero, suc, ◌+◌, ◌≡◌, Bool, true, ◌&&◌, List, [], ◌∷◌, ◌++◌, map, leb, replicate}
use Rattle.std.proofs.Math.Option.{none}
use Rattle.rules.specs.Words.{every}
use Rattle.rules.specs.Model.{Link, Connection, State, Call, link, admit, offer, notice, close, tick, no_short, Answer}
use Rattle.rules.specs.Admission.{bound, window, cost, load_by, span, level_sum, level_test}
use Rattle.rules.specs.Service.{ticked}
use Rattle.rules.specs.Calls.{done}
use Rattle.rules.specs.Runs.{Departure, History, logged, nothing_yet}
use Rattle.rules.specs.Examples.{Case, seen, line, over, admission, service, one_level, late_admission, freed_early}

-- two levels, S and bounds 4 and 5, with these windows
abbrev pub link_by : ℕ → List ℕ → Link
link_by largest ws = record { levels = 2; largest = largest; silence = 0; early = 0; bounds = 4 ∷ 5 ∷ 0 ∷ 0 ∷ 0 ∷ 0 ∷ 0 ∷ 0 ∷ []; windows = ws }

-- one level: S, a bound and a window
abbrev pub level_by : ℕ → ℕ → ℕ → Link
level_by largest d w = record { levels = 1; largest = largest; silence = 0; early = 0; bounds = d ∷ 0 ∷ 0 ∷ 0 ∷ 0 ∷ 0 ∷ 0 ∷ 0 ∷ []; windows = w ∷ 0 ∷ 0 ∷ 0 ∷ 0 ∷ 0 ∷ 0 ∷ 0 ∷ [] }

abbrev pub one_window : ℕ → ℕ → ℕ → Call
one_window largest d w = link (level_by largest d w)

-- ---- which windows a link may have: "d at most w, w at most 32,768, else 4"; one for each level, or none

abbrev pub window_limits : List Case
window_limits =
    service [] (one_window 1 4 3) 0 4 0 []
    ∷ service [] (one_window 1 4 4) 0 0 0 []
    ∷ service [] (one_window 1 4 32768) 0 0 0 []
    ∷ service [] (one_window 1 4 32769) 0 4 0 []
    -- they need not rise
    ∷ service [] (link (link_by 3 (9 ∷ 5 ∷ 0 ∷ 0 ∷ 0 ∷ 0 ∷ 0 ∷ 0 ∷ []))) 0 0 0 []
    -- the second below its bound, or left out; the first left out; a third
    ∷ service [] (link (link_by 3 (9 ∷ 4 ∷ 0 ∷ 0 ∷ 0 ∷ 0 ∷ 0 ∷ 0 ∷ []))) 0 4 0 []
    ∷ service [] (link (link_by 3 (9 ∷ 0 ∷ 0 ∷ 0 ∷ 0 ∷ 0 ∷ 0 ∷ 0 ∷ []))) 0 4 0 []
    ∷ service [] (link (link_by 3 (0 ∷ 9 ∷ 0 ∷ 0 ∷ 0 ∷ 0 ∷ 0 ∷ 0 ∷ []))) 0 4 0 []
    ∷ service [] (link (link_by 3 (9 ∷ 9 ∷ 9 ∷ 0 ∷ 0 ∷ 0 ∷ 0 ∷ 0 ∷ []))) 0 4 0 []
    ∷ []

-- ---- a set of lines that document 01's test refuses and the finer test accepts

-- lines of gaps 3 and 5 and size 1
abbrev pub gaps_3_5 : Call → List Call
gaps_3_5 k = k ∷ line 1 3 1 ∷ line 1 5 1 ∷ []

-- .. a third of gap 5, and an offer on each of the first two, at 0
abbrev pub all_at_once : List Call
all_at_once = gaps_3_5 (one_window 1 4 5) ++ line 1 5 1 ∷ offer 0 1 71 none ∷ offer 1 1 72 none ∷ []

abbrev pub finer : List Case
finer =
    -- the third line: one unit over with bound 4 and no window, and with window 4 just so; accepted with window 5
    admission (gaps_3_5 (one_level 4)) (line 1 5 1) 8 255 (over 1 1) (5 ∷ 1 ∷ []) 1
    ∷ admission (gaps_3_5 (one_window 1 4 4)) (line 1 5 1) 8 255 (over 1 1) (5 ∷ 1 ∷ []) 1
    ∷ admission (gaps_3_5 (one_window 1 4 5)) (line 1 5 1) 0 2 no_short (5 ∷ 1 ∷ []) 1
    -- all three at once leave by 4
    ∷ service all_at_once (offer 2 1 73 none) 4 0 0 (1 ∷ 2 ∷ 3 ∷ [])
    ∷ []

abbrev pub WorkedWindows : Type 0
WorkedWindows = (map seen window_limits ≡ map (λ (x : Case). x.expected) window_limits) × (map seen finer ≡ map (λ (x : Case). x.expected) finer)

-- ---- the first excess

-- a line of a level, with its gap and its size; one of size 1 with 2 packets in 100 ticks
abbrev pub line_of : ℕ → ℕ → ℕ → Connection
line_of level gap size = record { level = level; gap = gap; size = size; window = 0; average = 0; kind = 0; allowance = 0 }

abbrev pub average_of : Connection
average_of = record { level = 1; gap = 1; size = 1; window = 100; average = 50; kind = 0; allowance = 0 }

abbrev pub WorkedExcesses : Type 0
WorkedExcesses =
    -- of the w condition where that fails, 6 within 5
    (level_test (level_by 1 4 5) (line_of 1 3 1 ∷ line_of 1 5 1 ∷ line_of 1 5 1 ∷ line_of 1 9 1 ∷ []) ≡ over 1 1)
    -- else of the least β that does: with window 9 four lines of gap 9 and S make 5 units, one more than 4 at β = 0
    × (level_test (level_by 1 4 9) (replicate 4 (line_of 1 9 1)) ≡ over 1 1)
    -- a line with an average counts by it in every condition: 2 in 100 ticks. Two such lines and S are 5 units within 6; three are 7, one over; within 7 they are 7 as
    -- well, and hold at β = 0 with 4, but at β = 1 they are 2 over 5
    × (level_test (level_by 1 4 6) (replicate 2 average_of) ≡ no_short)
    × (level_test (level_by 1 4 6) (replicate 3 average_of) ≡ over 1 1)
    × (level_test (level_by 1 4 7) (replicate 3 average_of) ≡ over 1 2)

-- ---- the charge: "until the last eligibility plus the largest d plus the largest w", even where that is the d

-- of three lines one has sent at 0 and is closed at 1; a fourth is one unit too many
abbrev pub closed_on : Call → ℕ → List Call
closed_on k gap = k ∷ line 1 gap 1 ∷ line 1 gap 1 ∷ line 1 gap 1 ∷ offer 0 1 71 none ∷ tick ∷ close 0 ∷ []

abbrev pub window_charges : List Case
window_charges =
    late_admission (closed_on (one_window 1 4 6) 6 ++ replicate 8 tick) (line 1 6 1) 8 255 (over 1 1) (5 ∷ 1 ∷ []) 1
    ∷ late_admission (closed_on (one_window 1 4 6) 6 ++ replicate 9 tick) (line 1 6 1) 0 0 no_short (4 ∷ 1 ∷ []) 1
    ∷ late_admission (closed_on (one_window 1 4 4) 4 ++ replicate 6 tick) (line 1 4 1) 8 255 (over 1 1) (5 ∷ 1 ∷ []) 1
    ∷ late_admission (closed_on (one_window 1 4 4) 4 ++ replicate 7 tick) (line 1 4 1) 0 0 no_short (4 ∷ 1 ∷ []) 1
    ∷ late_admission (closed_on (one_level 4) 4 ++ replicate 3 tick) (line 1 4 1) 0 0 no_short (4 ∷ 1 ∷ []) 1
    ∷ []

abbrev pub WorkedWindowCharges : Type 0
WorkedWindowCharges = map seen window_charges ≡ map (λ (x : Case). x.expected) window_charges

-- ---- what each part of the test is for: a test without it takes lines that break the promise, and their run shows it

-- what the calls do if nobody asks for a verdict; a tick by its three steps, as no charge ends in these runs
abbrev pub let_through : Call → State → Answer
let_through (link l) s = done (link l) s
let_through (admit x) s = done (admit x) s
let_through (offer c len tag st) s = done (offer c len tag st) s
let_through (notice len tag) s = done (notice len tag) s
let_through (close c) s = done (close c) s
let_through tick s = ticked s

abbrev pub unasked : History → List Call → History
unasked h [] = h
unasked h (k ∷ ks) = unasked (logged h k (let_through k h.now)) ks

-- of each packet that has left its connection, its eligibility and its finish
abbrev pub timed : Departure → ℕ × (ℕ × ℕ)
timed d = (d.what.connection, (d.what.eligibility, d.finish))

abbrev pub left_unasked : List Call → List (ℕ × (ℕ × ℕ))
left_unasked ks = map timed (unasked nothing_yet ks).departed

-- the more urgent levels seen within β + 1, as level m itself is. S 3, bounds 4 and 5, windows 10 and 25; an urgent line of gap 2 and one of gap 18 below it, size 1 each
unfoldable pub shorter_view_holds : Link → List Connection → ℕ → Bool
shorter_view_holds l cs m =
    leb (level_sum l cs m 0) (window l m)
    && every (window l m) (λ β. leb (load_by l cs m (λ _. suc β) + cost l l.largest) (bound l m + β))

abbrev pub two_windows : Link
two_windows = link_by 3 (10 ∷ 25 ∷ 0 ∷ 0 ∷ 0 ∷ 0 ∷ 0 ∷ 0 ∷ [])

abbrev pub urgent_and_other : List Connection
urgent_and_other = line_of 1 2 1 ∷ line_of 2 18 1 ∷ []

-- a notice of 3 units at 0; at 1 an offer on each line, and at 3 and 5 again on the urgent one, which keeps its gap
abbrev pub overtaken : List Call
overtaken =
    link two_windows ∷ admit (line_of 1 2 1) ∷ admit (line_of 2 18 1) ∷ notice 3 70 ∷ tick
    ∷ offer 0 1 71 none ∷ offer 1 1 72 none ∷ tick ∷ tick ∷ offer 0 1 73 none ∷ tick ∷ tick ∷ offer 0 1 74 none ∷ tick ∷ tick ∷ []

-- it holds at both levels; the rules refuse the second line, 2 units over at β = 0; let in, its packet, eligible at 1 with bound 5, leaves at 7
abbrev pub AShorterViewBreaksThePromise : Type 0
AShorterViewBreaksThePromise =
    ((shorter_view_holds two_windows urgent_and_other 1 && shorter_view_holds two_windows urgent_and_other 2) ≡ true)
    × (level_test two_windows urgent_and_other ≡ over 2 2)
    × (left_unasked overtaken ≡ (254, (0, 3)) ∷ (0, (1, 4)) ∷ (0, (3, 5)) ∷ (0, (5, 6)) ∷ (1, (1, 7)) ∷ [])

-- the w condition left out. S 2, bound and window 8; two lines of gap 3 and size 2, which together ask for 4 units in 3 ticks
unfoldable pub betas_hold : Link → List Connection → ℕ → Bool
betas_hold l cs m = every (window l m) (λ β. leb (level_sum l cs m (suc β)) (bound l m + β))

abbrev pub two_of_gap_3 : List Connection
two_of_gap_3 = line_of 1 3 2 ∷ line_of 1 3 2 ∷ []

-- an offer on each every 3 ticks, so often
abbrev pub rounds : ℕ → List Call
rounds zero = []
rounds (suc n) = offer 0 2 71 none ∷ offer 1 2 72 none ∷ tick ∷ tick ∷ tick ∷ rounds n

abbrev pub falling_behind : List Call
falling_behind = one_window 2 8 8 ∷ admit (line_of 1 3 2) ∷ admit (line_of 1 3 2) ∷ rounds 6 ++ replicate 6 tick

-- the rest holds; the rules refuse the second line, 6 units over within w; let in, a packet that is eligible at 15 leaves at 24
abbrev pub NoWBreaksThePromise : Type 0
NoWBreaksThePromise =
    (betas_hold (level_by 2 8 8) two_of_gap_3 1 ≡ true)
    × (level_test (level_by 2 8 8) two_of_gap_3 ≡ over 1 6)
    × (left_unasked falling_behind
    ≡ (0, (0, 2)) ∷ (1, (0, 4)) ∷ (0, (3, 6)) ∷ (1, (3, 8)) ∷ (0, (6, 10)) ∷ (1, (6, 12)) ∷ (0, (9, 14)) ∷ (1, (9, 16)) ∷ (0, (12, 18)) ∷ (1, (12, 20)) ∷ (0, (15, 22))
    ∷ (1, (15, 24)) ∷ [])

-- S left out for β. S 4, bound 4, window 20; four lines of gap 20 and size 1
unfoldable pub largest_left_out_holds : Link → List Connection → ℕ → Bool
largest_left_out_holds l cs m =
    leb (level_sum l cs m 0) (window l m)
    && every (window l m) (λ β. leb (load_by l cs m (span l m (suc β))) (bound l m + β))

abbrev pub four_of_gap_20 : List Connection
four_of_gap_20 = replicate 4 (line_of 1 20 1)

-- a notice of 4 units at 0, and at 1 an offer on each
abbrev pub blocked : List Call
blocked =
    one_window 4 4 20 ∷ replicate 4 (admit (line_of 1 20 1))
    ++ notice 4 70 ∷ tick ∷ offer 0 1 71 none ∷ offer 1 1 72 none ∷ offer 2 1 73 none ∷ offer 3 1 74 none ∷ replicate 7 tick

-- the rest holds; the rules refuse the four, 4 units over at β = 0; let in, the last packet, eligible at 1 with bound 4, leaves at 8
abbrev pub NoLargestBreaksThePromise : Type 0
NoLargestBreaksThePromise =
    (largest_left_out_holds (level_by 4 4 20) four_of_gap_20 1 ≡ true)
    × (level_test (level_by 4 4 20) four_of_gap_20 ≡ over 1 4)
    × (left_unasked blocked ≡ (254, (0, 4)) ∷ (0, (1, 5)) ∷ (1, (1, 6)) ∷ (2, (1, 7)) ∷ (3, (1, 8)) ∷ [])

-- ---- a charge of d alone, without w, would be too short. S 4, bound 14, window 56; a line of gap 56 and size 4, and two of gap 7 and size 3

abbrev pub sparse_and_two : List Connection
sparse_and_two = line_of 1 56 4 ∷ line_of 1 7 3 ∷ line_of 1 7 3 ∷ []

-- a notice of 4 units at 0; at 1 an offer on each line, at 8 again on the two; at 15 the first is closed: by the rules it is charged until 1 + 14 + 56
abbrev pub sent_and_closed_at_15 : List Call
sent_and_closed_at_15 =
    one_window 4 14 56 ∷ admit (line_of 1 56 4) ∷ admit (line_of 1 7 3) ∷ admit (line_of 1 7 3)
    ∷ notice 4 70 ∷ tick ∷ offer 0 4 71 none ∷ offer 1 3 72 none ∷ offer 2 3 73 none
    ∷ replicate 7 tick ++ offer 1 3 74 none ∷ offer 2 3 75 none ∷ replicate 7 tick ++ close 0 ∷ []

-- were it freed at 15 = 1 + 14, the same line could come again: it sends at once, and so do the two
abbrev pub sent_again_at_15 : List Call
sent_again_at_15 = admit (line_of 1 56 4) ∷ offer 0 4 76 none ∷ offer 1 3 77 none ∷ offer 2 3 78 none ∷ replicate 15 tick

-- the rules take the three, and not the first once more beside them, 4 units over within w; let in, the last packet, eligible at 15 with bound 14, leaves at 30
abbrev pub AChargeOfDBreaksThePromise : Type 0
AChargeOfDBreaksThePromise =
    (level_test (level_by 4 14 56) sparse_and_two ≡ no_short)
    × (level_test (level_by 4 14 56) (line_of 1 56 4 ∷ sparse_and_two) ≡ over 1 4)
    × (map timed (unasked (freed_early (unasked nothing_yet sent_and_closed_at_15)) sent_again_at_15).departed
    ≡ (254, (0, 4)) ∷ (0, (1, 8)) ∷ (1, (1, 11)) ∷ (2, (1, 14)) ∷ (1, (8, 17)) ∷ (2, (8, 20)) ∷ (0, (15, 24)) ∷ (1, (15, 27)) ∷ (2, (15, 30)) ∷ [])
