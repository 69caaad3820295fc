-- A run of a line of any discipline: any list of calls from the fresh state, with its history.
use Rattle.std.specs.Prelude.{ℕ, List, [], ◌∷◌}
use Rattle.std.proofs.Math.Option.{Option}
use Rattle.rules.specs.declared.Packet.{Packet}
use Rattle.rules.specs.Words.{push}
use Rattle.rules.specs.Model.{Outcome}
use Rattle.rules.specs.Runs.{Departure, taken, leaving}

-- the accepted packets, notices among them, and the departures, each in order, and the state
pub record History (State : Type 0) : Type 0 where
  pub accepted : List Packet
  pub departed : List Departure
  pub now : State

-- `answer` are the rules; `sends`: the connection, the length and the tag of what a call offers, if it does
module _ {Call State : Type 0} (answer : Call → State → Outcome State) (sends : Call → Option (ℕ × ℕ × ℕ)) (clock : State → ℕ) where
  -- the history with an answer added
  abbrev pub logged : History State → Call → Outcome State → History State
  logged h k a = record {
    accepted = push h.accepted (taken (clock h.now) a.verdict a.number (sends k));
    departed = push h.departed (leaving (clock h.now) a.departed);
    now = a.next;
  }

  -- the history with the answers to some calls added, one call after the other
  abbrev pub run_from : History State → List Call → History State
  run_from h [] = h
  run_from h (k ∷ ks) = run_from (logged h k (answer k h.now)) ks
