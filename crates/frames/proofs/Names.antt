-- Words that only proofs use: parts of definitions of specs/, each under a name of its own.
use Prim.Native.Nat.{ℕ, ◌+◌, ◌*◌, ◌/◌, ◌≤◌}
use mathlib.Core.Path.{◌≡◌}
use mathlib.Core.Bool.{cond, not, ◌&&◌}
use mathlib.Core.List.{List, [], ◌∷◌, ◌++◌, map}
use mathlib.Core.Option.{Option, none}
use lib.Dec.{leb, ltb, eqb}
use lib.ListN.{length}
use Rattle.rules.specs.declared.Packet.{Packet}
use Rattle.rules.specs.declared.Notice.{Notice}
use Rattle.rules.specs.declared.Short.{Short}
use Rattle.rules.specs.Words.{within, first_number, filter, total, sum}
use Rattle.rules.specs.Limits.{clock_end, notice_number}
use Rattle.rules.specs.Model.{done_with, notice_packet}
use Rattle.rules.specs.Service.{begun, wire_tick, QuietWire, passed_wire, Sent, sent}
use Rattle.rules.specs.Runs.{Departure, Asked, Exchange}
use Rattle.rules.proofs.WireLaws.{told_by}
use Rattle.frames.specs.Model.{Framing, Share, State, Call, link, admit, offer, notice, Answer, fresh, nth, wire, with_wire}
use Rattle.frames.specs.Admission.{cost}
use Rattle.frames.specs.Service.{next_frame, first_eligible, moves_on, ticked}
use Rattle.frames.specs.Calls.{eligibility_now, done, form, refused_short, settle, answer}
use Rattle.frames.specs.Histories as H
use Rattle.rules.specs.Runs as S
use Rattle.frames.specs.Runs.{exchange, offers_in}

-- ---- states

abbrev pub no_share : Share
no_share = record { units = 0; places = 0 }

abbrev pub chosen : State → Option Packet
chosen s = first_eligible s.clock s.held

abbrev pub no_framing : Framing
no_framing = record { frame = 0; largest = 0; silence = 0 }

abbrev pub all_units : List Share → ℕ
all_units cs = sum (length cs) (λ c. (nth cs c).units)

abbrev pub frame_of : ℕ → ℕ → ℕ
frame_of T t = t / T

abbrev pub NotAfter : Packet → Packet → Type 0
NotAfter p q = p.eligibility ≤ q.eligibility

-- ---- calls

-- done, and no packet leaves
abbrev pub accepted : ℕ → State → Answer
accepted n s = done_with n none s

abbrev pub linked : State → Framing → State
linked s l = (done (link l) s).next

abbrev pub joined : State → Share → State
joined s x = (done (admit x) s).next

abbrev pub packet : State → ℕ → ℕ → ℕ → Packet
packet s c len tag = record { connection = c; len = len; tag = tag; arrival = s.clock; eligibility = eligibility_now s }

abbrev pub placed : State → ℕ → ℕ → ℕ → State
placed s c len tag = (done (offer c len tag) s).next

abbrev pub new_notice : State → ℕ → ℕ → Notice
new_notice s len tag = record { len = len; tag = tag; arrival = s.clock }

abbrev pub noted : State → ℕ → ℕ → State
noted s len tag = (done (notice len tag) s).next

abbrev pub frame_over : State → Share → Short
frame_over s x = refused_short (admit x) s 8

abbrev pub refused : Call → State → ℕ → Answer
refused k s v = settle k s v

-- one tick: what the line sends, then the clock
abbrev pub sent_by : State → Sent
sent_by s = wire_tick s.link.silence sent (chosen s) none (wire s)

pub ticked_is : (s : State) → ticked s ≡ moves_on s (sent_by s).departed (sent_by s).wire
ticked_is s = told_by s.link.silence (moves_on s) (begun (chosen s) none (wire s)) (begun (chosen s) none (wire s)).to_go

-- a quiet tick

abbrev pub QuietLine : State → Type 0
QuietLine s = QuietWire s.clock none (wire s)

abbrev pub passed_by : State → State
passed_by s = with_wire s (s.clock + 1) (passed_wire (wire s) 1)

-- ---- runs

abbrev pub History : Type 0
History = H.History State

abbrev pub taken : Call → State → Answer → Option Packet
taken k s a = S.taken s.clock a.verdict a.number (form k).0

abbrev pub leaving : State → Option Packet → Option Departure
leaving s o = S.leaving s.clock o

abbrev pub logged : History → Call → Answer → History
logged h k a = H.logged answer (λ k. (form k).0) State.clock h k a

abbrev pub after : History → Call → History
after h k = logged h k (answer k h.now)

abbrev pub run_from : History → List Call → History
run_from h ks = H.run_from answer (λ k. (form k).0) State.clock h ks

abbrev pub nothing_yet : History
nothing_yet = record { accepted = []; departed = []; now = fresh }

abbrev pub in_hub : State → List Packet
in_hub s = s.held ++ map notice_packet s.notices

abbrev pub of_connections : List Packet → List Packet
of_connections ps = filter (λ p. not (eqb p.connection notice_number)) ps

abbrev pub arrived_now : State → Packet → ℕ
arrived_now s p = cond (eqb (frame_of s.link.frame p.arrival) (frame_of s.link.frame s.clock)) (cost s.link p.len) 0

-- ---- what a connection asks and is told

abbrev pub exchange_in : ℕ → State → Call → Option Exchange
exchange_in c s k = exchange c s k (form k).0

abbrev pub offer_in : Framing → ℕ → Asked → ℕ
offer_in l f a = cond (within 1 l.largest a.len && eqb (frame_of l.frame a.at) f) 1 0

abbrev pub HalfAtMost : Framing → Share → List Asked → Type 0
HalfAtMost l x qs = (f : ℕ) → 2 * offers_in l f qs ≤ x.places

abbrev pub granted : List Exchange → List Asked
granted [] = []
granted (e ∷ es) = cond (eqb e.verdict 0) (e.asked ∷ granted es) (granted es)

abbrev pub taken_in : Framing → ℕ → Asked → ℕ
taken_in l t a = cond (eqb (frame_of l.frame a.at) (frame_of l.frame t)) (cost l a.len) 0

-- ---- what a connection is told that keeps to half: the link, its own figures and its own offers decide

-- what those of its offers take that were accepted and came in the frame of tick t, of the units of that frame
abbrev pub taken_so_far : Framing → ℕ → List Exchange → ℕ
taken_so_far l t es = total (λ e. cond (eqb e.verdict 0 && eqb (e.asked.at / l.frame) (t / l.frame)) (cost l e.asked.len) 0) es

-- a wrong length: 11; at the clock's end: 13; past r in this frame: 19; else accepted, eligible at the start of the next frame
abbrev pub own_answer : Framing → Share → List Exchange → Asked → Exchange
own_answer l x earlier a =
    let past = ltb x.units (taken_so_far l a.at earlier + cost l a.len) in
    let v = first_number ((11, not (within 1 l.largest a.len)) ∷ (13, leb clock_end a.at) ∷ (19, past) ∷ []) in
    record { asked = a; verdict = v; eligibility = cond (eqb v 0) (next_frame l.frame a.at) 0 }

-- to each offer in turn, behind the exchanges es
abbrev pub told_after : Framing → Share → List Exchange → List Asked → List Exchange
told_after l x es [] = es
told_after l x es (a ∷ qs) = told_after l x (es ++ own_answer l x es a ∷ []) qs

abbrev pub own_verdict : Framing → Share → List Exchange → Asked → ℕ
own_verdict l x earlier a = (own_answer l x earlier a).verdict

abbrev pub own_exchanges : Framing → Share → List Asked → List Exchange
own_exchanges l x qs = told_after l x [] qs
