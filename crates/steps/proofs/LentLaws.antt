-- Slices that are lent on and on.
use mathlib.Core.Path.{◌∙◌}
use Rattle.steps.specs.declared.Lent.{Lent}
use Rattle.steps.specs.Tie.{SameSlices}

-- after two calls they are those of before, as long as they were
pub same_onward : (t u v : Lent) → SameSlices v u → SameSlices u t → SameSlices v t
same_onward t u v e d = (e.0 ∙ d.0, e.1 ∙ d.1, e.2 ∙ d.2, e.3 ∙ d.3, e.4 ∙ d.4, e.5 ∙ d.5)
