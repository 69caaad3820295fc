-- What a call does, in words that proofs use: each stands written out in the rules (specs/Calls, specs/Service).
use Prim.Native.Nat.{ℕ, ◌<◌}
use mathlib.Core.Path.{◌≡◌}
use mathlib.Core.Bool.{Bool, true, false, cond}
use mathlib.Core.List.{List, [], ◌∷◌, ◌++◌}
use mathlib.Core.Option.{Option, none}
use lib.Dec.{eqb}
use lib.ListN.{set}
use Rattle.rules.specs.Limits.{beyond_32_bits}
use Rattle.rules.specs.Model.{Link, Connection, Packet, Past, State, Call, offer, Answer, done_with, no_connection, no_past, past, figures, closed_at, with_link, with_connections, with_closed, with_notices}
use Rattle.rules.specs.Admission.{joining}
use Rattle.rules.specs.Service.{cleared, swept}
use Rattle.rules.specs.Calls.{done, refused_number, refused_short}

-- the level of connection c
abbrev pub level_of : State → ℕ → ℕ
level_of s c = (figures s c).level

-- the states that a link, an admission, a notice and a close leave, the last before it is swept
abbrev pub linked : State → Link → State
linked s l = with_link s l

abbrev pub joined : State → Connection → State
joined s x = with_connections s (joining s.connections x) s.pasts

abbrev pub noted : State → ℕ → ℕ → State
noted s len tag = with_notices s (s.notices ++ record { len = len; tag = tag; arrival = s.clock } ∷ [])

abbrev pub marked : State → ℕ → State
marked s c = with_closed s (set s.closed c true)

-- the answer to a refused call
abbrev pub refused : Call → State → ℕ → Answer
refused k s v = record { verdict = v; number = refused_number k; short = refused_short k s v; departed = none; next = s }

-- done, and no packet leaves
abbrev pub accepted : ℕ → State → Answer
accepted n s = done_with n none s

-- what the number of an answer is below, by the number that its refusal gives
abbrev pub number_limit : ℕ → ℕ
number_limit refused = cond (eqb refused 0) beyond_32_bits 256

-- what is left where expired numbers are freed
abbrev pub swept_connections : State → List Connection
swept_connections s = cleared s no_connection (figures s)

abbrev pub swept_pasts : State → List Past
swept_pasts s = cleared s no_past (past s)

abbrev pub swept_marks : State → List Bool
swept_marks s = cleared s false (closed_at s)

-- a packet's numbers fit the fields of its departure
abbrev pub PacketFits : Packet → Type 0
PacketFits p = (p.connection < 256) × (p.arrival < beyond_32_bits) × (p.eligibility < beyond_32_bits)

-- the state that an accepted offer leaves
abbrev pub placed : State → ℕ → ℕ → ℕ → Option ℕ → State
placed s c len tag st = (done (offer c len tag st) s).next

-- an answer with expired numbers freed
abbrev pub sweeping : Answer → Answer
sweeping a = record { verdict = a.verdict; number = a.number; short = a.short; departed = a.departed; next = swept a.next }

-- a free number: everything unused is zero
abbrev pub FreeNumber : State → ℕ → Type 0
FreeNumber s c = (figures s c ≡ no_connection) × (past s c ≡ no_past) × (closed_at s c ≡ false)
