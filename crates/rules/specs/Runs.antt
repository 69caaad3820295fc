-- A run: any list of calls from the fresh hub, with its history.
use Rattle.std.specs.Prelude.{ℕ, zero, suc, ◌+◌, Bool, cond, ◌&&◌, List, [], ◌∷◌, ◌++◌, map, eqb}
use Rattle.std.proofs.Math.Option.{Option, none, some}
use Rattle.rules.specs.Words.{within, filter, push}
use Rattle.rules.specs.Model.{Connection, Packet, State, Call, link, admit, offer, notice, close, tick, Answer, fresh, figures, notice_packet}
use Rattle.rules.specs.Admission.{owned, bound}
use Rattle.rules.specs.Service.{Spaced}
use Rattle.rules.specs.Calls.{heard, form, answer}

pub record Departure : Type 0 where
  pub what : Packet
  pub finish : ℕ

-- the accepted packets, notices among them, and the departures, each in order, and the state. `present`: those accepted packets whose connection still has its
-- number, standing or charged; a number that is freed takes its former owner's out of it (document 02, R-8)
pub record History : Type 0 where
  pub accepted : List Packet
  pub departed : List Departure
  pub present : List Packet
  pub now : State

-- the packet that an answer at tick t says was accepted, given the connection, the length and the tag that were offered: at verdict 0, with the eligibility e that the answer gives
abbrev pub if_done : {A : Type 0} → ℕ → A → Option A
if_done zero x = some x
if_done (suc v) x = none

abbrev pub taken : ℕ → ℕ → ℕ → Option (ℕ × ℕ × ℕ) → Option Packet
taken t verdict e none = none
taken t verdict e (some x) = if_done verdict (record { connection = x.0; len = x.1; tag = x.2; arrival = t; eligibility = e })

-- "One tick": a packet departs with finish t + 1
abbrev pub leaving : ℕ → Option Packet → Option Departure
leaving t none = none
leaving t (some p) = some (record { what = p; finish = t + 1 })

-- the history with an answer added
abbrev pub logged : History → Call → Answer → History
logged h k a = record {
  accepted = push h.accepted (taken h.now.clock a.verdict a.number (form k).0);
  departed = push h.departed (leaving h.now.clock a.departed);
  present = filter (λ p. owned a.next.connections p.connection) (push h.present (taken h.now.clock a.verdict a.number (form k).0));
  now = a.next;
}

abbrev pub after : History → Call → History
after h k = logged h k (answer k h.now)

abbrev pub run_from : History → List Call → History
run_from h [] = h
run_from h (k ∷ ks) = run_from (after h k) ks

abbrev pub nothing_yet : History
nothing_yet = record { accepted = []; departed = []; present = []; now = fresh }

abbrev pub run : List Call → History
run ks = run_from nothing_yet ks

-- the departures of connection c, in order
abbrev pub departures : ℕ → List Departure → List Departure
departures c [] = []
departures c (d ∷ ds) = cond (eqb d.what.connection c) (d ∷ departures c ds) (departures c ds)

-- .. of those, the ones of its present owner: a number that is freed takes its former owner's along (document 02, R-8)
abbrev pub departure_of : ℕ → Option Departure → Option Departure
departure_of c none = none
departure_of c (some d) = cond (eqb d.what.connection c) (some d) none

-- what f tells of each call, behind xs, as long as number c has its owner: a number that is freed takes its former owner's along
abbrev pub of_its_owner : {A : Type 0} → (State → Call → Option A) → ℕ → History → List A → List Call → List A
of_its_owner f c h xs [] = xs
of_its_owner f c h xs (k ∷ ks) = of_its_owner f c (after h k) (cond (owned (after h k).now.connections c) (push xs (f h.now k)) []) ks

abbrev pub own_departures : ℕ → List Call → List Departure
own_departures c ks = of_its_owner (λ s k. departure_of c (leaving s.clock (answer k s).departed)) c nothing_yet [] ks

-- the packets that wait in the hub, notices among them
abbrev pub in_hub : State → List Packet
in_hub s = s.held ++ map notice_packet s.notices

-- the delay bound of connection c's level
abbrev pub bound_of : State → ℕ → ℕ
bound_of s c = bound s.link (figures s c).level

-- ---- what a connection asks and is told (document 02, R-3)

-- an offer to connection c while it stands: the tick, the length, the tag, and the stamp that it brings, if it is of the second kind
pub record Asked : Type 0 where
  pub at : ℕ
  pub len : ℕ
  pub tag : ℕ
  pub stamp : Option ℕ

-- .. and what it is told
pub record Exchange : Type 0 where
  pub asked : Asked
  pub verdict : ℕ
  pub eligibility : ℕ

abbrev pub exchange : ℕ → State → Call → Option Exchange
exchange c s (link l) = none
exchange c s (admit x) = none
exchange c s (offer d len tag st) =
    let a = answer (offer d len tag st) s in
    cond (eqb d c && heard s c st) (some (record { asked = record { at = s.clock; len = len; tag = tag; stamp = st }; verdict = a.verdict; eligibility = a.number })) none
exchange c s (notice len tag) = none
exchange c s (close d) = none
exchange c s tick = none

-- all of them in a run, in order, with the present owner of c, and what it asked
abbrev pub exchanges : ℕ → List Call → List Exchange
exchanges c ks = of_its_owner (exchange c) c nothing_yet [] ks

abbrev pub asked_of : ℕ → List Call → List Asked
asked_of c ks = map (λ (e : Exchange). e.asked) (exchanges c ks)

-- ---- a connection that keeps its word

-- an offer to c that c hears, of allowed length; one given 10 is no connection's offer ("Verdict numbers")
abbrev pub allowed : State → ℕ → ℕ → Option ℕ → Bool
allowed s c len st = heard s c st && within 1 (figures s c).size len

-- the ticks of those of its offers that are of allowed length; x: its figures
abbrev pub own_ticks : Connection → List Asked → List ℕ
own_ticks x [] = []
own_ticks x (a ∷ qs) = cond (within 1 x.size a.len) (a.at ∷ own_ticks x qs) (own_ticks x qs)

-- they keep the spacing of c: its gap and, with an average, I behind the n-th before (document 02, R-6)
abbrev pub KeepsItsWord : ℕ → List Call → Type 0
KeepsItsWord c ks = Spaced (figures (run ks).now c) (own_ticks (figures (run ks).now c) (asked_of c ks))
