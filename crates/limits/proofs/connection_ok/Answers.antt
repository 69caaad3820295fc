use mathlib.Core.Path.{sym, ◌∙◌}
use Rattle.limits.proofs.ChainLaws as C
use Rattle.limits.proofs.connection_ok.Goals as goal

pub returns-then-not-level_ok : goal.returns-then-not-level_ok
returns-then-not-level_ok c = C.fails _ _ (sym c.level_ok.ensures ∙ c.if-not-level_ok.true)

pub returns : goal.returns
returns c = C.goes_on _ _ c.figures_ok.result (sym c.level_ok.ensures ∙ c.if-not-level_ok.false) c.figures_ok.ensures
