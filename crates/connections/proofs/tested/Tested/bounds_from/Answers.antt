use Rattle.connections.proofs.FigureLaws as L
use Rattle.connections.proofs.SumLaws as T
use Prim.Native.Nat.{◌-◌}
use native.Mathlib.Omega.{arith}
use mathlib.Core.Path.{sym, ◌∙◌}
use Rattle.connections.specs.Members.{connections_in}
use borrow.Author.Rules.{rules}
use Rattle.connections.proofs.tested.Tested.bounds_from.Goals as goal

pub overflow_add-m-end : goal.overflow_add-m-end
overflow_add-m-end c = let s = c.args.self.now in omega (arith, (L.link_limits s.link s.within.link_in).levels_le)

pub returns-then-units-ne0 : goal.returns-then-units-ne0
returns-then-units-ne0 c =
    let s = c.args.self.now in
    let cs = connections_in s.members.now in
    let loop = c.loop-m in
    let m = loop.m in
    λ js S.
    L.test_over s.link js m (omega arith) _
    (c.saturating_sub-units.ensures
    ∙ L.over_bound s.link c.requires.0 js m c.sum_at.result c.from.result (L.sum_with s.link c.requires.0 cs js s.newcomer S m _ (omega arith) (T.sum_of_level s.link cs s.newcomer m _ _ (omega arith) (loop.invariant.3 (m - 1) (omega (arith, loop.invariant.1)) (omega arith)).0 c.sum_at.ensures)) (c.from.ensures ∙ c.bound_of-d.ensures))
    (λ z. absurd (omega (arith, z)))
    ∙ loop.invariant.2 js S

pub loop-m-preserved : goal.loop-m-preserved
loop-m-preserved c =
    let s = c.args.self.now in
    let cs = connections_in s.members.now in
    let loop = c.loop-m in
    let m = loop.m in (
      search rules,
      omega arith,
      λ js S.
          L.test_pass s.link js m (omega arith)
          (sym
          (c.saturating_sub-units.ensures
          ∙ L.over_bound s.link c.requires.0 js m c.sum_at.result c.from.result (L.sum_with s.link c.requires.0 cs js s.newcomer S m _ (omega arith) (T.sum_of_level s.link cs s.newcomer m _ _ (omega arith) (loop.invariant.3 (m - 1) (omega (arith, loop.invariant.1)) (omega arith)).0 c.sum_at.ensures)) (c.from.ensures ∙ c.bound_of-d.ensures))
          ∙ omega arith)
          ∙ loop.invariant.2 js S,
      loop.invariant.3,
    )
