use Rattle.frames.specs.Admission.{cost, framing_within}
use Rattle.limits.proofs.framing_ok.Goals as goal

pub returns : goal.returns
unfolding framing_within cost
returns c = rw (c.is_within.ensures, c.is_within-2.ensures)
