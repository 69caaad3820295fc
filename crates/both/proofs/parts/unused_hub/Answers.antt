use Rattle.both.specs.View.{unused_hub}
use Rattle.both.proofs.parts.unused_hub.Goals as goal

pub returns : goal.returns
unfolding unused_hub
returns c = rw c.blank_ok.ensures
