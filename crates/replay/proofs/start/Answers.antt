-- apart, so that a start that is another one is refused before the fresh line is written out
use mathlib.Core.Path.{◌≡◌, ap}
use Rattle.either_line.specs.Line.{fresh_line}
use Rattle.both.specs.declared.Kept.{Kept}
use Rattle.both.specs.View.{kept_of}
use Rattle.steps.specs.declared.Phase.TheVariants.{Reading}
use Rattle.steps.specs.Steps.{beginning}
use Rattle.steps.specs.Tie.{cursor_at, cursor_of}
use Rattle.replay.proofs.start.Goals as goal

begins : (h : Kept) → h ≡ kept_of fresh_line → cursor_at 0 Reading h ≡ cursor_of beginning
begins h e = ap (λ (g : Kept). cursor_at 0 Reading g) e

pub returns : goal.returns
returns c = begins c.fresh_line.result c.fresh_line.ensures
