-- A sound state, clause by clause. Document 01, "A sound state"; its first clause, the length of the places table, is the table's own and stands with
-- the code. The clauses on notices, on the silence, on what is remembered and on closed numbers: docs/RULES.md, R-1, R-4, R-6, R-8 and R-9;
-- those that document 02, R-11, amends while the stand-by queue is on, the packet in service and the distance past the clock: R-11 there.
use Rattle.std.specs.Prelude.{ℕ, zero, suc, ◌+◌, ◌≤◌, ◌<◌, max, ◌≡◌, Bool, true, false, cond, ◌⊎◌, List, [], ◌∷◌, ltb, eqb, length, drop}
use Rattle.std.proofs.Math.Option.{Option, none, some}
use Rattle.rules.specs.Words.{All}
use Rattle.rules.specs.Limits.{max_connections, max_reserved, clock_end, max_notices, notice_number, max_remembered}
use Rattle.rules.specs.Model.{Connection, Past, Packet, Notice, State, no_connection, no_past, fresh, nth, past, figures, closed_at, first_notice}
use Rattle.rules.specs.Admission.{link_within, level_within, figures_within, owned, burst, stamped, reservation, ahead, reserved, LevelHolds}
use Rattle.rules.specs.Service.{nth_before, ticks_after, earliest, remember_all, Spaced, of, eligibilities, first, early_at, Wire, wire, expired}

-- ---- the held rows, each by itself

-- it names a connection that has an owner and has a length from 1 to its size
pub record Fits (cs : List Connection) (p : Packet) : Type 0 where
  pub owner : owned cs p.connection ≡ true
  pub some_len : 1 ≤ p.len
  pub len_le : p.len ≤ (nth cs p.connection).size

-- arrival at most the clock, eligibility at least the arrival
pub record Dated (t : ℕ) (p : Packet) : Type 0 where
  pub arrived : p.arrival ≤ t
  pub not_before : p.arrival ≤ p.eligibility

-- ---- the rows of one connection, by their eligibilities in row order, and what is remembered of it (document 02, R-6). t the clock

-- those in h, newest first, and then es: all in order
abbrev pub in_order : List ℕ → List ℕ → List ℕ
in_order [] es = es
in_order (e ∷ h) es = in_order h (e ∷ es)

-- remembered and no longer held: behind as many as there are rows
abbrev pub departed_of : Past → List ℕ → Past
departed_of h es = drop (length es) h

-- an eligibility e beyond the clock, behind those in h: the least that both rules allow if the n-th packet before is held or remembered, else at most the
-- greater of I past the clock and X past the one before. Without an average: at most the greater of X past the clock and X past the one before.
-- Of the second kind (document 02, R-9): at most the allowance beyond the clock
abbrev pub NearBy : Connection → ℕ → List ℕ → ℕ → Bool → Option ℕ → Type 0
NearBy c t h e true o = e ≤ t + c.allowance
NearBy c t h e false none = e ≤ max (t + cond (eqb (burst c) 0) c.gap c.window) (ticks_after c.gap (nth_before 1 h))
NearBy c t h e false (some a) = e ≡ earliest c h

-- of a connection whose packets may go early (document 02, R-11): whether those in h settle an eligibility beyond the clock. They do if the n-th packet before is held
-- or remembered; without an average, if the one before lies beyond the clock too
abbrev pub is_known : Option ℕ → Bool
is_known none = false
is_known (some a) = true

abbrev pub lies_beyond : ℕ → Option ℕ → Bool
lies_beyond t none = false
lies_beyond t (some a) = ltb t a

abbrev pub settled_by : ℕ → ℕ → List ℕ → Bool
settled_by zero t h = lies_beyond t (nth_before 1 h)
settled_by (suc n) t h = is_known (nth_before (suc n) h)

unfoldable pub settles : Connection → ℕ → List ℕ → Bool
settles c t h = settled_by (burst c) t h

-- an eligibility beyond the clock, by whether the connection's packets may go early: then it lies at most r beyond the clock, a being `ahead`, and where it is settled it is the least that both rules allow
abbrev pub Near : Connection → Option ℕ → ℕ → List ℕ → ℕ → Type 0
Near c none t h e = NearBy c t h e (stamped c) (nth_before (burst c) h)
Near c (some r) t h e = (e ≤ t + r) × (settles c t h ≡ true → e ≡ earliest c h)

-- each of es that lies beyond the clock, behind those in h
abbrev pub Beyond : Connection → Option ℕ → ℕ → List ℕ → List ℕ → Type 0
Beyond c a t h [] = Unit {0}
Beyond c a t h (e ∷ es) = (t < e → Near c a t h e) × Beyond c a t (e ∷ h) es

-- how far past the clock what has left may have been eligible
abbrev pub margin : Option ℕ → ℕ
margin none = 0
margin (some r) = r

pub record Queue (c : Connection) (a : Option ℕ) (t : ℕ) (h : Past) (es : List ℕ) : Type 0 where
  -- at most 16 are remembered, the newest of them those of the last rows
  pub few : length h ≤ max_remembered
  pub last_rows : remember_all (departed_of h es) es ≡ h
  -- those remembered and no longer held, and then the rows, keep the spacing
  pub rise : Spaced c (in_order (departed_of h es) es)
  -- what has left was eligible, or not further from it than it may lie
  pub left_eligible : All (λ e. e ≤ t + margin a) (departed_of h es)
  -- no row lies further beyond the clock than the rules put it
  pub beyond : Beyond c a t (departed_of h es) es

-- ---- the line

-- a packet in service: the first row of its connection, eligible unless it may go early, with 1 to its length units to go
pub record InServiceOf (early : Bool) (held : List Packet) (serving to_go t : ℕ) : Type 0 where
  pub it : Packet
  pub is_first : first serving held ≡ some it
  pub eligible : early ≡ false → it.eligibility ≤ t
  pub some_to_go : 1 ≤ to_go
  pub to_go_le : to_go ≤ it.len

-- a notice in service: the first one, marked by the queue's number, with 1 to its length units to go
pub record NoticeInServiceOf (notices : List Notice) (serving to_go : ℕ) : Type 0 where
  pub it : Notice
  pub is_first : first_notice notices ≡ some it
  pub is_notice : serving ≡ notice_number
  pub some_to_go : 1 ≤ to_go
  pub to_go_le : to_go ≤ it.len

-- a notice that waits: a length from 1 to S, arrival at most the clock
pub record Waits (largest t : ℕ) (n : Notice) : Type 0 where
  pub some_len : 1 ≤ n.len
  pub len_le : n.len ≤ largest
  pub arrived : n.arrival ≤ t

-- a sound line with what waits for it, whatever the discipline (document 02, R-13): whose packets may go early, S, the link's silence and the clock
pub record WireSound (may : ℕ → Bool) (largest q t : ℕ) (w : Wire) : Type 0 where
  -- the notices fill no more than their places
  pub few_notices : length w.notices ≤ max_notices
  pub notices_fit : All (Waits largest t) w.notices
  -- nothing in service: everything unused is zero; or a packet, or a notice
  pub line : ((w.to_go ≡ 0) × (w.serving ≡ 0))
      ⊎ (InServiceOf (may w.serving) w.held w.serving w.to_go t ⊎ NoticeInServiceOf w.notices w.serving w.to_go)
  -- the silence still to run: at most the link's, and none while something is in service
  pub silent_le : w.silent ≤ q
  pub silent_alone : 1 ≤ w.to_go → w.silent ≡ 0

-- ---- the state

-- all but the last clause, which a tick and a close see to (`swept`)
pub record Orderly (s : State) : Type 0 where
  -- link, connections, tests and reservations are within the rules
  pub link_in : link_within s.link ≡ true
  pub levels_in : (c : ℕ) → owned s.connections c ≡ true → level_within s.link (figures s c) ≡ true
  pub figures_in : (c : ℕ) → owned s.connections c ≡ true → figures_within s.link (figures s c) ≡ true
  -- one entry for each number; a free one is blank
  pub numbers : length s.connections ≡ max_connections
  pub one_past_each : length s.pasts ≡ max_connections
  pub one_mark_each : length s.closed ≡ max_connections
  pub free_blank : (c : ℕ) → c < max_connections → owned s.connections c ≡ false → (figures s c ≡ no_connection) × (past s c ≡ no_past) × (closed_at s c ≡ false)
  pub tested : (m : ℕ) → 1 ≤ m → m ≤ s.link.levels → LevelHolds s.link s.connections m
  pub reserved_le : reserved s.link s.connections ≤ max_reserved
  -- the clock is at most its end
  pub clock_le : s.clock ≤ clock_end
  -- each held row
  pub fit : All (Fits s.connections) s.held
  pub dated : All (Dated s.clock) s.held
  -- no connection holds more than its reservation, and its rows are in order
  pub room : (c : ℕ) → owned s.connections c ≡ true → length (of c s.held) ≤ reservation s.link (figures s c)
  pub queue : (c : ℕ) → owned s.connections c ≡ true → Queue (figures s c) (ahead s.link (figures s c)) s.clock (past s c) (eligibilities c s.held)
  -- the notices, the line and its silence
  pub line : WireSound (early_at s) s.link.largest s.link.silence s.clock (wire s)
  -- a closed connection holds no packet
  pub closed_empty : (c : ℕ) → closed_at s c ≡ true → of c s.held ≡ []

pub record SoundWithLink (s : State) : Type 0 where
  pub orderly : Orderly s
  -- a closed connection has sent something, and its charge is not over
  pub charged : (c : ℕ) → c < max_connections → expired s c ≡ false

pub record Sound (s : State) : Type 0 where
  pub with_no_link : s.link.levels ≡ 0 → s ≡ fresh
  pub with_one : (s.link.levels ≡ 0 → ⊥) → SoundWithLink s
