-- Closed connections in their table, and the numbers that are freed. Document 02, R-8.
use Rattle.std.specs.Prelude.{Option, None, Some, ℕ, zero, suc, ◌+◌, ◌<◌, ◌≤◌, ◌≡◌, Bool, true, false, cond, ◌&&◌, List, length, get_or}
use Rattle.rules.specs.Limits.{beyond_32_bits}
use Rattle.rules.specs.Model.{State, no_connection, no_past, past, figures, closed_at}
use Rattle.rules.specs.Admission.{owned, charge_time}
use Rattle.rules.specs.Service.{charge_over, cleared}
use Rattle.connections.specs.declared.Member.{Member}
use Rattle.connections.specs.Members.{no_member, connections_in, pasts_in, closed_in, written_members}
use Rattle.connections.specs.Rows.{past_of, closed_of, last_of}

-- the number behind the rows for an eligibility: one more, and 0 where there is none; and the eligibility that such a number stands for
abbrev pub one_more : Option ℕ → ℕ
one_more None = 0
one_more (Some e) = suc e

abbrev pub one_less : ℕ → Option ℕ
one_less zero = None
one_less (suc e) = Some e

-- a row is closed and its charge is over; freed, nothing is left of it
abbrev pub ended : ℕ → ℕ → Member → Bool
ended time clock m = closed_of m && charge_over time clock (past_of m)

abbrev pub freed : ℕ → ℕ → Member → Member
freed time clock m = cond (ended time clock m) no_member m

-- what is closed has an owner that has sent, and its last eligibility leaves room for one more
pub record ClosedInOrder (t : List ℕ) : Type 0 where
  pub closed_owned : (c : ℕ) → get_or (closed_in t) c false ≡ true → owned (connections_in t) c ≡ true
  pub closed_sent : (c : ℕ) → get_or (closed_in t) c false ≡ true → 1 ≤ length (get_or (pasts_in t) c no_past)
  pub closed_fits : (c : ℕ) → get_or (closed_in t) c false ≡ true → last_of (get_or (pasts_in t) c no_past) + 1 < beyond_32_bits

-- a state of the rules whose connections are those of the table, with this time of a charge and this clock
pub record StandsFor (t : List ℕ) (time clock : ℕ) (s : State) : Type 0 where
  pub connections_are : s.connections ≡ connections_in t
  pub pasts_are : s.pasts ≡ pasts_in t
  pub marks_are : s.closed ≡ closed_in t
  pub time_is : charge_time s.link ≡ time
  pub clock_is : s.clock ≡ clock

-- every number whose charge is over is freed
abbrev pub Swept : List ℕ → ℕ → ℕ → List ℕ → Type 0
Swept t time clock after = (s : State) → StandsFor t time clock s → after ≡ written_members (cleared s no_connection (figures s)) (cleared s no_past (past s)) (cleared s false (closed_at s))
