use lib.Dec.{leb}
use native.Mathlib.Omega.{arith}
use Rattle.calls.proofs.verdicts.full.Goals as goal

pub reserve-requires : goal.reserve-requires
reserve-requires c = ((λ e. absurd (omega (arith, c.requires.0))), (λ n. c.requires.1), c.requires.2)

pub returns : goal.returns
returns c = (λ i. leb (c.reserve.ensures.0 i) (c.held_by.ensures i))
