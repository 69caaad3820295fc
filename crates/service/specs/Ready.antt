-- What a tick needs of the hub and the tables. A sound state has it before the clock's end: `ready` in proofs/ReadyLaws. Document 01, "A sound state".
use Rattle.std.specs.Prelude.{ℕ, ◌<◌, ◌≡◌, List}
use Rattle.rules.specs.Words.{All}
use Rattle.rules.specs.Limits.{clock_end, notice_number}
use Rattle.tables.specs.Places.{rows}
use Rattle.line.specs.Wires.{InPlace}
use Rattle.state.specs.View.{Hub}

pub record Ready (h : Hub) (t q : List ℕ) : Type 0 where
  -- each row names a connection, which has another number than the notices
  pub others : All (λ p. p.connection ≡ notice_number → ⊥) (rows t)
  -- the clock has not ended
  pub time : h.clock < clock_end
  -- the tables, and what is in service
  pub in_place : InPlace h.wire t q
