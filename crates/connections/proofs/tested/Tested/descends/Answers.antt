use Rattle.connections.proofs.WindowLaws as W
use Prim.Native.Nat.{ℕ, ◌-◌}
use native.Mathlib.Omega.{arith}
use mathlib.Core.Path.{◌≡◌, ap, ◌∙◌}
use Rattle.rules.specs.QuickTest.{descend}
use Rattle.rules.proofs.Figures.{link_facts}
use Rattle.connections.proofs.tested.Tested.descends.Goals as goal

pub overflow_add-d : goal.overflow_add-d
overflow_add-d c =
    let a = c.args in
    let f = (link_facts a.self.now.link c.args.self.now.within.link_in).window_in a.m c.requires.1 c.requires.2 in
    omega (arith, c.loop-i.invariant.0, c.bound_of-d.ensures, f.0, f.1)

pub loop-i-preserved : goal.loop-i-preserved
loop-i-preserved c =
    let a = c.args in
    let loop = c.loop-i in
    let sum = c.sum_of-sum in
    let e : c.saturating_sub-i.result ≡ sum.result - c.bound_of-d.result = c.saturating_sub-i.ensures ∙ ap (λ (d : ℕ). sum.result - d) c.from-in-loop-i.ensures in (
      omega (arith, c.saturating_sub-i.ensures, c.from-in-loop-i.ensures, c.from.ensures, loop.invariant.0),
      λ js S.
          ap (λ (k : ℕ). descend a.self.now.link js a.m k k) e
          ∙ W.descent_goes_on a.self.now.link js a.m loop.i sum.result c.bound_of-d.result (omega arith) (sum.ensures js S) c.bound_of-d.ensures (omega (arith, c.from.ensures))
          ∙ loop.invariant.1 js S,
    )
