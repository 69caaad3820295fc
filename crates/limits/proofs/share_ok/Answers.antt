use Rattle.frames.specs.Admission.{share_within}
use Rattle.limits.proofs.share_ok.Goals as goal

pub returns : goal.returns
unfolding share_within
returns c = rw (c.is_within.ensures, c.is_within-2.ensures)
