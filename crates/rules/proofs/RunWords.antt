-- What is noted of the present owner of a number, in words that proofs use.
use Prim.Native.Nat.{ℕ}
use mathlib.Core.Bool.{Bool, false, cond, ◌&&◌}
use mathlib.Core.List.{List, [], ◌∷◌}
use mathlib.Core.Option.{Option, none, some}
use lib.Dec.{leb, eqb}
use Rattle.rules.specs.Words.{within}
use Rattle.rules.specs.Limits.{clock_end}
use Rattle.rules.specs.Model.{Connection, Past, Packet, State, Answer, Call, link, admit, offer, notice, close, tick, figures}
use Rattle.rules.specs.Admission.{owned}
use Rattle.rules.specs.Service.{eligibility_by, untimely_by, remember_all, Spaced}
use Rattle.rules.specs.Calls.{form, answer}
use Rattle.rules.specs.Runs as S
use Rattle.rules.specs.Runs.{Departure, History, of_its_owner, nothing_yet, run, allowed, Asked, Exchange, exchange}

abbrev pub while_owned : {A : Type 0} → State → ℕ → List A → List A
while_owned s c xs = cond (owned s.connections c) xs []

abbrev pub departing : ℕ → State → Call → Option Departure
departing c s k = S.departure_of c (S.leaving s.clock (answer k s).departed)

abbrev pub own_departures_from : ℕ → History → List Departure → List Call → List Departure
own_departures_from c h ds ks = of_its_owner (departing c) c h ds ks

abbrev pub exchanges_from : ℕ → History → List Exchange → List Call → List Exchange
exchanges_from c h es ks = of_its_owner (exchange c) c h es ks

-- the tick of an offer of allowed length
abbrev pub offer_tick : ℕ → State → Call → Option ℕ
offer_tick c s (link l) = none
offer_tick c s (admit x) = none
offer_tick c s (offer d len tag st) = cond (eqb d c && allowed s c len st) (some s.clock) none
offer_tick c s (notice len tag) = none
offer_tick c s (close d) = none
offer_tick c s tick = none

abbrev pub offer_ticks_from : ℕ → History → List ℕ → List Call → List ℕ
offer_ticks_from c h ts ks = of_its_owner (offer_tick c) c h ts ks

abbrev pub offer_ticks : ℕ → List Call → List ℕ
offer_ticks c ks = offer_ticks_from c nothing_yet [] ks

-- what a connection is told whose offers keep its word: its own figures and its own offers decide. A wrong length: 11; at the clock's end: 13; out of time: 17; else accepted, with the eligibility e
abbrev pub own_answer : Connection → Asked → Bool → ℕ → Exchange
own_answer x a untimely e =
    let v : ℕ = cond (within 1 x.size a.len) (cond (leb clock_end a.at) 13 (cond untimely 17 0)) 11 in
    record { asked = a; verdict = v; eligibility = cond (eqb v 0) e 0 }

-- the eligibilities that some exchanges give, in order
abbrev pub given : List Exchange → List ℕ
given [] = []
given (e ∷ es) = cond (eqb e.verdict 0) (e.eligibility ∷ given es) (given es)

-- .. all answers to one of the second kind (document 02, R-3 and R-9), out of time where a cause of 17 applies, eligible the allowance after the stamp. h: what is remembered of what it was given before
abbrev pub own_stamp_answers : Connection → Past → List Asked → List Exchange
own_stamp_answers x h [] = []
own_stamp_answers x h (a ∷ qs) =
    let e = own_answer x a (untimely_by x h a.at a.stamp) (eligibility_by x h a.at a.stamp) in
    e ∷ own_stamp_answers x (remember_all h (given (e ∷ []))) qs

-- the answer to an offer of the first kind, and of the second, behind what is remembered
abbrev pub first_answer : Connection → Asked → Exchange
first_answer x a = own_answer x a false a.at

abbrev pub own_stamp_answer : Connection → Past → Asked → Exchange
own_stamp_answer x h a = own_answer x a (untimely_by x h a.at a.stamp) (eligibility_by x h a.at a.stamp)

-- `KeepsItsWord` by these ticks (`word_is`, Alone)
abbrev pub Word : ℕ → List Call → Type 0
Word c ks = Spaced (figures (run ks).now c) (offer_ticks c ks)

-- the packet that an answer says was accepted, and the departure that it tells
abbrev pub taken : Call → State → Answer → Option Packet
taken k s a = S.taken s.clock a.verdict a.number (form k).0

abbrev pub leaving : State → Option Packet → Option Departure
leaving s o = S.leaving s.clock o
