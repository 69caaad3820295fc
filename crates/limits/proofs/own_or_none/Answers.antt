use Rattle.limits.proofs.LimitLaws as L
use mathlib.Core.Path.{◌∙◌}
use Rattle.limits.proofs.own_or_none.Goals as goal

pub returns-then-windows-eq0 : goal.returns-then-windows-eq0
returns-then-windows-eq0 c = let a = c.args in c.windows_ok.ensures ∙ L.with_none a.l c.if-windows-eq0.true

pub returns : goal.returns
returns c = let a = c.args in c.windows_ok-2.ensures ∙ L.with_own a.l c.if-windows-eq0.false
