-- A run of the second discipline; what a connection asks and is told; the connection that offers at most p / 2 packets in each frame.
use Rattle.std.specs.Prelude.{ℕ, ◌*◌, ◌/◌, ◌≤◌, cond, ◌&&◌, List, [], ◌∷◌, map, eqb}
use Rattle.std.proofs.Math.Option.{Option, none, some}
use Rattle.rules.specs.Words.{within, push, total}
use Rattle.rules.specs.Runs.{Asked, Exchange}
use Rattle.frames.specs.Model.{Framing, State, Call, fresh, figures}
use Rattle.frames.specs.Admission.{stands}
use Rattle.frames.specs.Calls.{form, answer}
use Rattle.frames.specs.Histories.{History, run_from}

-- any calls from the fresh line
abbrev pub run : List Call → History State
run ks = run_from answer (λ k. (form k).0) State.clock (record { accepted = []; departed = []; now = fresh }) ks

-- ---- what a connection asks and is told, as in document 02, R-3: every offer to connection c while it stands, of any length. The notices' number is no connection's, and never stands

abbrev pub exchange : ℕ → State → Call → Option (ℕ × ℕ × ℕ) → Option Exchange
exchange c s k none = none
exchange c s k (some x) =
    cond (eqb x.0 c && stands s.connections c)
    (some (record { asked = record { at = s.clock; len = x.1; tag = x.2; stamp = none }; verdict = (answer k s).verdict; eligibility = (answer k s).number }))
    none

abbrev pub exchanges_from : ℕ → State → List Exchange → List Call → List Exchange
exchanges_from c s es [] = es
exchanges_from c s es (k ∷ ks) = exchanges_from c (answer k s).next (push es (exchange c s k (form k).0)) ks

-- all of them in a run, in order
abbrev pub exchanges : ℕ → List Call → List Exchange
exchanges c ks = exchanges_from c fresh [] ks

-- what was asked
abbrev pub asks : List Exchange → List Asked
asks es = map (λ (e : Exchange). e.asked) es

-- how many packets of allowed length were offered in frame f; others are refused with 11 and need not count
abbrev pub offers_in : Framing → ℕ → List Asked → ℕ
offers_in l f qs = total (λ a. cond (within 1 l.largest a.len && eqb (a.at / l.frame) f) 1 0) qs

-- "at most p / 2 packets in each frame": twice as many are at most p
abbrev pub KeepsToHalf : ℕ → List Call → Type 0
KeepsToHalf c ks = (f : ℕ) → 2 * offers_in (run ks).now.link f (asks (exchanges c ks)) ≤ (figures (run ks).now c).places
