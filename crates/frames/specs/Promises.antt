-- THE STATEMENTS, apart from their proofs: each is proved in proofs/Results under the same name in small letters. Document 02, R-13.
use Rattle.std.specs.Prelude.{ℕ, ◌+◌, ◌-◌, ◌/◌, ◌≤◌, ◌<◌, ◌≡◌, true, cond, not, ◌↔◌, List, ◌++◌, map, eqb, length}
use Rattle.std.proofs.Math.Option.{none, some}
use Rattle.std.proofs.Math.ListN.{get_elem?}
use Rattle.rules.specs.declared.Packet.{Packet}
use Rattle.rules.specs.Words.{within, All, total, filter}
use Rattle.rules.specs.Limits.{max_reserved, clock_end, beyond_32_bits, max_notices, notice_number}
use Rattle.rules.specs.Model.{no_short, notice_packet}
use Rattle.rules.specs.Service.{of, begun}
use Rattle.rules.specs.Runs.{departures, Exchange}
use Rattle.frames.specs.Limits.{max_units}
use Rattle.frames.specs.Model.{Share, State, Call, admit, offer, notice, wire, fresh, figures}
use Rattle.frames.specs.Admission.{cost, stands, frame_sum}
use Rattle.frames.specs.Service.{next_frame, leaves_by, used, first_eligible}
use Rattle.frames.specs.SoundState.{Sound}
use Rattle.frames.specs.SoundTest.{sound}
use Rattle.frames.specs.Calls.{joining, answer, refused_number, eligibility_now}
use Rattle.rules.specs.Promises.{Answered, LeftBy}
use Rattle.frames.specs.Histories.{History}
use Rattle.frames.specs.Runs.{run, exchanges, asks, KeepsToHalf}

-- ---- every call, every state

-- a refused call changes nothing; the test is exact, verdict 1 tells an unsound state, a call leaves a sound state sound, and its answer's numbers fit (`Answered`, crates/rules/specs/Promises.antt)
abbrev pub EveryCall : Type 0
EveryCall = (k : Call) (s : State) → Answered Sound sound State.clock s (refused_number k) (answer k s)

-- a length from 1 to S, to a connection that stands and has a place, while the clock runs, that with its silence would take the connection past r in this frame
pub record PastItsUnits (s : State) (c len : ℕ) : Type 0 where
  pub standing : stands s.connections c ≡ true
  pub right_len : within 1 s.link.largest len ≡ true
  pub room : length (of c s.held) < (figures s c).places
  pub running : s.clock < clock_end
  pub past : (figures s c).units < used s.link s.clock c s.held + cost s.link len

-- what holds of any state
pub record OfAnyState (s : State) : Type 0 where
  -- with no link set, sound means everything zero
  pub no_link_means_zero : s.link.frame ≡ 0 → Sound s ↔ s ≡ fresh
  -- a sound state holds no more packets than the places table has rows, and no more notices than the queue has places
  pub rows_fit : Sound s → length s.held ≤ max_reserved
  pub notices_fit : Sound s → length s.notices ≤ max_notices
  -- each eligibility that can arise fits 32 bits: those held, and the one that an offer gets now
  pub eligibilities_fit : Sound s → All (λ p. p.eligibility < beyond_32_bits) s.held × (eligibility_now s < beyond_32_bits)
  -- R-1's queue fills idle ticks: a notice comes into service only where no held packet is eligible
  pub notices_come_last : Sound s → s.to_go ≡ 0 → (begun (first_eligible s.clock s.held) none (wire s)).serving ≡ notice_number → All (λ p. s.clock < p.eligibility) s.held
  -- verdict 15 is given only while the clock runs
  pub fifteen_after_thirteen : (len tag : ℕ) → (answer (notice len tag) s).verdict ≡ 15 → s.clock < clock_end
  -- verdict 19 is given exactly for an offer past the connection's units
  pub nineteen_exactly : (c len tag : ℕ) → Sound s → (s.link.frame ≡ 0 → ⊥) → (answer (offer c len tag) s).verdict ≡ 19 ↔ PastItsUnits s c len
  -- an admission that is refused with 8 says by how many units the frame is over, with the newcomer counted, which is at most the newcomer's own r, and level 0
  pub over_is_told : (x : Share) → (answer (admit x) s).verdict ≡ 8
      → let n = frame_sum s.link (joining s x) in
      (s.link.frame < n) × ((answer (admit x) s).short ≡ record { level = 0; units = n - s.link.frame }) × ((answer (admit x) s).short.units ≤ x.units) × (x.units ≤ max_units)
  -- every other answer says nothing of it
  pub told_with_8_alone : (k : Call) → ((answer k s).verdict ≡ 8 → ⊥) → (answer k s).short ≡ no_short

abbrev pub EveryState : Type 0
EveryState = (s : State) → OfAnyState s

-- ---- every run

-- what holds of the history of any calls from the fresh line
pub record OfAnyRun (h : History State) : Type 0 where
  -- its state is sound
  pub runs_are_sound : Sound h.now
  -- conservation: for each connection, and for the notices under their number, accepted = departed followed by what waits, as lists
  pub conservation : (c : ℕ) → of c h.accepted ≡ map (λ d. d.what) (departures c h.departed) ++ of c (h.now.held ++ map notice_packet h.now.notices)
  -- "eligible packets go in the order offered": of all connections together, what was accepted is what has left, in this order, followed by what is held
  pub in_the_order_offered :
      let rows = filter (λ (p : Packet). not (eqb p.connection notice_number)) in
      rows h.accepted ≡ rows (map (λ d. d.what) h.departed) ++ h.now.held
  -- "an offer .. that would take it past r in the arrival frame": what the rows say that a connection has used is what its accepted packets of this frame take, each its length
  -- and the silence
  pub use_is_what_arrived : (c : ℕ) → (c ≡ notice_number → ⊥)
      → let T = h.now.link.frame in
      used h.now.link h.now.clock c h.now.held ≡ total (λ p. cond (eqb (p.arrival / T) (h.now.clock / T)) (cost h.now.link p.len) 0) (of c h.accepted)
  -- "a packet arriving in one frame is eligible at the start of the next": every accepted packet of a connection, held or gone
  pub eligible_at_the_next_start : (c : ℕ) → (c ≡ notice_number → ⊥) → All (λ p. p.eligibility ≡ next_frame h.now.link.frame p.arrival) (of c h.accepted)
  -- "from a fresh line, each accepted packet has left by the end of the frame after its arrival frame, once the clock has got there". The i-th accepted packet of c is then the
  -- i-th departure of c, with a finish no later; and it did not leave before the frame in which it is eligible
  pub left_by_the_next_end : (c i : ℕ) (p : Packet) → (c ≡ notice_number → ⊥) → get_elem? (of c h.accepted) i ≡ some p
      → leaves_by h.now.link.frame p.arrival ≤ h.now.clock
      → (L : LeftBy h.departed c i p (leaves_by h.now.link.frame p.arrival)) × (next_frame h.now.link.frame p.arrival < L.finish)

abbrev pub EveryRun : Type 0
EveryRun = (ks : List Call) → OfAnyRun (run ks)

-- what holds of a connection c in a run in which it offers at most p / 2 packets in each frame
pub record OfHalf (ks : List Call) (c : ℕ) : Type 0 where
  -- it "never gets 12"
  pub never_for_room : All (λ (e : Exchange). e.verdict ≡ 12 → ⊥) (exchanges c ks)
  -- ".. and no other changes its verdicts": in any other run with the same link a connection with the same figures and the same offers at the same ticks is told the same, whatever
  -- its number there
  pub no_other_changes_it : (ms : List Call) (d : ℕ) → (run ks).now.link ≡ (run ms).now.link → figures (run ks).now c ≡ figures (run ms).now d
      → asks (exchanges c ks) ≡ asks (exchanges d ms) → exchanges c ks ≡ exchanges d ms

abbrev pub AtMostHalf : Type 0
AtMostHalf = (ks : List Call) (c : ℕ) → KeepsToHalf c ks → OfHalf ks c
