use Rattle.both.specs.View.{unused_frames}
use mathlib.Core.Path.{refl}
use Rattle.both.proofs.parts.unused_frames.Goals as goal

pub returns : goal.returns
unfolding unused_frames
returns c = refl
