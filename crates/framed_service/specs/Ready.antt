-- What a tick of the second discipline needs of a wire and its tables. A sound state with a link has it: `ready` in proofs/ReadyLaws. Document 02, R-13.
use Rattle.std.specs.Prelude.{ℕ, ◌≤◌, ◌≡◌, List}
use Rattle.rules.specs.Words.{All, Pairs}
use Rattle.rules.specs.Limits.{notice_number}
use Rattle.rules.specs.declared.Packet.{Packet}
use Rattle.tables.specs.Places.{rows}
use Rattle.line.specs.declared.Wire.{Wire}
use Rattle.line.specs.Wires.{InPlace}

-- row order: no eligibility falls
abbrev pub NotAfter : Packet → Packet → Type 0
NotAfter p q = p.eligibility ≤ q.eligibility

pub record Ready (w : Wire) (t q : List ℕ) : Type 0 where
  -- each row names a connection, which has another number than the notices
  pub others : All (λ p. p.connection ≡ notice_number → ⊥) (rows t)
  -- eligibilities never fall in row order
  pub in_order : Pairs NotAfter (rows t)
  -- the tables, and what is in service
  pub in_place : InPlace w t q
