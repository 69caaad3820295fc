-- A sound state of a framed line, clause by clause, after the pattern of document 01, "A sound state": docs/RULES.md, R-13.
use Rattle.std.specs.Prelude.{ℕ, ◌≤◌, ◌<◌, ◌≡◌, true, false, List, [], ◌∷◌, length}
use Rattle.rules.specs.declared.Packet.{Packet}
use Rattle.rules.specs.Words.{All, Pairs}
use Rattle.rules.specs.Limits.{max_connections, max_reserved, clock_end, notice_number}
use Rattle.rules.specs.Service.{of}
use Rattle.rules.specs.SoundLine.{WireSound}
use Rattle.frames.specs.Model.{Framing, Share, State, wire, fresh, figures}
use Rattle.frames.specs.Admission.{framing_within, share_within, stands, frame_sum, all_places}
use Rattle.frames.specs.Service.{next_frame, used}

-- ---- the held rows, each by itself

-- it names a standing connection and has a length from 1 to S
pub record Fits (l : Framing) (cs : List Share) (p : Packet) : Type 0 where
  pub standing : stands cs p.connection ≡ true
  pub some_len : 1 ≤ p.len
  pub len_le : p.len ≤ l.largest

-- arrival at most the clock, eligibility the start of the frame after the arrival's
pub record Dated (T t : ℕ) (p : Packet) : Type 0 where
  pub arrived : p.arrival ≤ t
  pub next_start : p.eligibility ≡ next_frame T p.arrival

-- the first row of all is of connection c
abbrev pub Heads : ℕ → List Packet → Type 0
Heads c [] = ⊥
Heads c (p ∷ ps) = p.connection ≡ c

-- ---- the state

pub record SoundWithLink (s : State) : Type 0 where
  -- link and connections are within the rules, and so are the two sums
  pub link_in : framing_within s.link ≡ true
  pub shares_in : (c : ℕ) → c < length s.connections → share_within (figures s c) ≡ true
  pub few : length s.connections ≤ max_connections
  pub units_le : frame_sum s.link s.connections ≤ s.link.frame
  pub places_le : all_places s.connections ≤ max_reserved
  -- the clock is at most its end
  pub clock_le : s.clock ≤ clock_end
  -- each held row
  pub fit : All (Fits s.link s.connections) s.held
  pub dated : All (Dated s.link.frame s.clock) s.held
  -- in row order eligibilities never fall, no connection holds more than its places, and none has used more than its units in this frame
  pub in_order : Pairs (λ p q. p.eligibility ≤ q.eligibility) s.held
  pub room : (c : ℕ) → c < length s.connections → length (of c s.held) ≤ (figures s c).places
  pub use_le : (c : ℕ) → c < length s.connections → used s.link s.clock c s.held ≤ (figures s c).units
  -- the line, its silence and the notices, as in the first discipline; no packet goes before it is eligible
  pub line : WireSound (λ _. false) s.link.largest s.link.silence s.clock (wire s)
  -- a packet in service is the first row of all
  pub in_turn : 1 ≤ s.to_go → (s.serving ≡ notice_number → ⊥) → Heads s.serving s.held

pub record Sound (s : State) : Type 0 where
  pub with_no_link : s.link.frame ≡ 0 → s ≡ fresh
  pub with_one : (s.link.frame ≡ 0 → ⊥) → SoundWithLink s
