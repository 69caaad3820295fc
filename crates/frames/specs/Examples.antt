-- Worked examples of document 02, R-13, as one table under one statement, and two that show where the promise ends.
use Rattle.std.specs.Prelude.{ℕ, ◌≡◌, List, [], ◌∷◌, ◌++◌, map, replicate}
use Rattle.std.proofs.Math.Option.{none}
use Rattle.rules.specs.Runs.{Departure, Exchange}
use Rattle.frames.specs.Model.{Call, link, admit, offer, notice, tick}
use Rattle.frames.specs.Calls.{answer}
use Rattle.frames.specs.Runs.{run, exchanges}

-- what is seen of a call: its verdict, its number, by how many units the frame is over; and the finishes once so many ticks have followed
pub record Seen : Type 0 where
  pub verdict : ℕ
  pub number : ℕ
  pub over : ℕ
  pub finishes : List ℕ

-- the calls from fresh, the call that is looked at, the ticks that follow
pub record Case : Type 0 where
  pub before : List Call
  pub call : Call
  pub ticks : ℕ
  pub expected : Seen

unfoldable pub seen : Case → Seen
seen x =
    let s = (run x.before).now in
    record {
      verdict = (answer x.call s).verdict;
      number = (answer x.call s).number;
      over = (answer x.call s).short.units;
      finishes = map (λ (d : Departure). d.finish) (run (x.before ++ x.call ∷ replicate x.ticks tick)).departed;
    }

-- T, S and the silence; r and p; ticks that pass
abbrev pub framed : ℕ → ℕ → ℕ → Call
framed T S q = link (record { frame = T; largest = S; silence = q })

abbrev pub share : ℕ → ℕ → Call
share r p = admit (record { units = r; places = p })

abbrev pub pass : ℕ → List Call
pass n = replicate n tick

abbrev pub told : List Call → Call → ℕ → ℕ → ℕ → Case
told before call verdict number over = record { before = before; call = call; ticks = 0; expected = record { verdict = verdict; number = number; over = over; finishes = [] } }

abbrev pub sent : List Call → Call → ℕ → ℕ → ℕ → List ℕ → Case
sent before call ticks verdict number finishes = record {
  before = before;
  call = call;
  ticks = ticks;
  expected = record { verdict = verdict; number = number; over = 0; finishes = finishes };
}

-- T 10, S 4, silence 1; connection 0 with r 3 and p 2, connection 1 with r 2 and p 2: 3 + 2 + 4 + 1 is 10
abbrev pub line_a : List Call
line_a = framed 10 4 1 ∷ share 3 2 ∷ share 2 2 ∷ []

abbrev pub admissions : List Case
admissions =
    -- T 1 to 32,768, and S with its silence at most T; S and the silence as in the first discipline
    told [] (framed 0 1 0) 4 0 0
    ∷ told [] (framed 1 1 0) 0 0 0
    ∷ told [] (framed 32_768 2_048 64) 0 0 0
    ∷ told [] (framed 32_769 2_048 64) 4 0 0
    ∷ told [] (framed 4 4 1) 4 0 0
    ∷ told [] (framed 5 4 1) 0 0 0
    ∷ told [] (framed 3_000 2_049 0) 4 0 0
    ∷ told [] (framed 3_000 0 0) 4 0 0
    ∷ told [] (framed 3_000 1 65) 4 0 0
    -- one link only; without one nothing else
    ∷ told line_a (framed 10 4 1) 3 0 0
    ∷ told [] (share 1 1) 2 255 0
    ∷ told [] (offer 0 1 7) 2 0 0
    -- r and p each 1 to 2,048
    ∷ told (framed 32_768 1 0 ∷ []) (share 0 1) 6 255 0
    ∷ told (framed 32_768 1 0 ∷ []) (share 1 0) 6 255 0
    ∷ told (framed 32_768 1 0 ∷ []) (share 2_049 1) 6 255 0
    ∷ told (framed 32_768 1 0 ∷ []) (share 1 2_049) 6 255 0
    ∷ told (framed 32_768 1 0 ∷ []) (share 2_048 2_048) 0 0 0
    -- the sum of all r plus S and its silence at most T: 3 + 5, then 5 + 5, then 6 + 5 is 1 over, 9 + 5 is 4 over
    ∷ told (framed 10 4 1 ∷ []) (share 3 2) 0 0 0
    ∷ told (framed 10 4 1 ∷ share 3 2 ∷ []) (share 2 2) 0 1 0
    ∷ told line_a (share 1 1) 8 255 1
    ∷ told line_a (share 4 1) 8 255 4
    -- the sum of all p at most 2,048; 8 comes before it
    ∷ told (framed 100 4 1 ∷ share 10 2_000 ∷ []) (share 10 48) 0 1 0
    ∷ told (framed 100 4 1 ∷ share 10 2_000 ∷ []) (share 10 49) 9 255 0
    ∷ told (framed 100 4 1 ∷ share 10 2_000 ∷ []) (share 90 49) 8 255 5
    ∷ []

-- offers at 3 and 5, in the order offered: both eligible at 10
abbrev pub two_wait : List Call
two_wait = line_a ++ pass 3 ++ offer 0 2 71 ∷ pass 2 ++ offer 1 1 72 ∷ []

abbrev pub services : List Case
services =
    -- an offer in frame 0 is eligible at 10, at its last tick still; in frame 1 at 20
    sent line_a (offer 0 2 71) 0 0 10 []
    ∷ sent (line_a ++ pass 9) (offer 0 2 71) 0 0 10 []
    ∷ sent (line_a ++ pass 10) (offer 0 2 71) 0 0 20 []
    -- no such connection; length outside 1 to S
    ∷ sent line_a (offer 2 1 71) 0 10 0 []
    ∷ sent line_a (offer 0 0 71) 0 11 0 []
    ∷ sent line_a (offer 0 5 71) 0 11 0 []
    -- 2 units and the silence are 3 of r 3; one unit more with its silence passes r in this frame, not in the next
    ∷ sent (line_a ++ offer 0 2 71 ∷ []) (offer 0 1 72) 0 19 0 []
    ∷ sent (line_a ++ offer 0 2 71 ∷ pass 9) (offer 0 1 72) 0 19 0 []
    ∷ sent (line_a ++ offer 0 2 71 ∷ pass 10) (offer 0 1 72) 0 0 20 []
    -- 3 units and the silence pass r by themselves
    ∷ sent line_a (offer 0 3 71) 0 19 0 []
    -- the first goes in ticks 10 and 11, silence in 12, the second in 13: finishes 12 and 14
    ∷ sent (line_a ++ pass 3 ++ offer 0 2 71 ∷ pass 2) (offer 1 1 72) 15 0 10 (12 ∷ 14 ∷ [])
    -- the line stays idle to the frame's end: nothing goes before 10
    ∷ sent (line_a ++ pass 3 ++ offer 0 2 71 ∷ pass 2) (offer 1 1 72) 6 0 10 []
    -- it holds p packets, and 12 comes before 19; the place is free with the last unit, at 11
    ∷ sent (framed 10 4 1 ∷ share 4 1 ∷ offer 0 1 71 ∷ []) (offer 0 4 72) 0 12 0 []
    ∷ sent (framed 10 4 1 ∷ share 4 1 ∷ offer 0 1 71 ∷ pass 10) (offer 0 1 72) 0 12 0 []
    ∷ sent (framed 10 4 1 ∷ share 4 1 ∷ offer 0 1 71 ∷ pass 11) (offer 0 1 72) 10 0 20 (11 ∷ 21 ∷ [])
    -- a notice fills idle ticks, 9 to 12 here, and its silence 13; the packet that is eligible at 10 waits for it
    ∷ sent (line_a ++ offer 0 2 71 ∷ pass 9) (notice 4 73) 7 0 9 (13 ∷ 16 ∷ [])
    -- a notice that comes while a packet is eligible goes behind all that are
    ∷ sent (two_wait ++ pass 5) (notice 4 73) 9 0 10 (12 ∷ 14 ∷ 19 ∷ [])
    ∷ sent line_a (notice 5 73) 0 11 0 []
    -- 64 notices wait
    ∷ sent (line_a ++ replicate 63 (notice 1 73)) (notice 1 73) 0 0 0 []
    ∷ sent (line_a ++ replicate 64 (notice 1 73)) (notice 1 73) 0 15 0 []
    ∷ []

-- the latest finish that can be: T 6, S 2, silence 1, r 3. A notice of 2 units starts in the last tick of frame 0 and is silent to 8; the packet of 2 units goes in 8 and 9:
-- finish 10, two ticks (one and the silence) before the frame's end at 12
abbrev pub latest_finish : List Case
latest_finish = sent (framed 6 2 1 ∷ share 3 2 ∷ offer 0 2 71 ∷ pass 5) (notice 2 72) 7 0 5 (7 ∷ 10 ∷ []) ∷ []

-- what is seen of each is what is expected
abbrev pub worked : List Case
worked = admissions ++ services ++ latest_finish

abbrev pub WorkedExamples : Type 0
WorkedExamples = map seen worked ≡ map (λ (x : Case). x.expected) worked

-- "at most p / 2" rounded up would be false: with p 1 and one offer in each frame the second gets 12
abbrev pub said : ℕ → ℕ → ℕ → ℕ → Exchange
said at tag verdict eligibility = record { asked = record { at = at; len = 1; tag = tag; stamp = none }; verdict = verdict; eligibility = eligibility }

abbrev pub HalfRoundedUpCanGet12 : Type 0
HalfRoundedUpCanGet12 = exchanges 0 (framed 2 1 0 ∷ share 1 1 ∷ tick ∷ offer 0 1 71 ∷ tick ∷ offer 0 1 72 ∷ []) ≡ said 1 71 0 2 ∷ said 2 72 12 0 ∷ []

-- and of a connection that offers more than half another can change the verdict: alone its first packet has left at 5, behind the other's it still waits
abbrev pub more_than_half : List Call → List Exchange
more_than_half others = exchanges 0 (framed 4 1 0 ∷ share 1 1 ∷ share 2 2 ∷ others ++ offer 0 1 71 ∷ pass 5 ++ offer 0 1 72 ∷ [])

abbrev pub MoreThanHalfCanBeToldApart : Type 0
MoreThanHalfCanBeToldApart =
    (more_than_half [] ≡ said 0 71 0 4 ∷ said 5 72 0 8 ∷ []) × (more_than_half (offer 1 1 73 ∷ []) ≡ said 0 71 0 4 ∷ said 5 72 12 0 ∷ [])
