use Rattle.connections.proofs.FigureLaws as L
use native.Mathlib.Omega.{arith}
use mathlib.Core.Path.{sym, ◌∙◌}
use Rattle.connections.proofs.tested.Tested.finer_from.Goals as goal

pub returns-then-units-ne0 : goal.returns-then-units-ne0
returns-then-units-ne0 c =
    let a = c.args in
    let loop = c.loop-m in
    λ js S.
    L.test_over a.self.now.link js loop.m (omega arith) c.excess_of-units.result (c.excess_of-units.ensures js S) (λ z. absurd (omega (arith, z)))
    ∙ loop.invariant.1 js S

pub overflow_add-m-end : goal.overflow_add-m-end
overflow_add-m-end c = omega (arith, (L.link_limits c.args.self.now.link c.args.self.now.within.link_in).levels_le)

pub loop-m-preserved : goal.loop-m-preserved
loop-m-preserved c =
    let a = c.args in
    let loop = c.loop-m in
    (omega arith, λ js S. L.test_pass a.self.now.link js loop.m (omega arith) (sym (c.excess_of-units.ensures js S) ∙ omega arith) ∙ loop.invariant.1 js S)
