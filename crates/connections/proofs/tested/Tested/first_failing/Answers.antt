use Rattle.connections.proofs.WindowLaws as W
use Prim.Native.Nat.{ℕ, ◌-◌}
use native.Mathlib.Omega.{arith}
use mathlib.Core.Path.{◌≡◌, refl, sym, ap, ◌∙◌}
use Rattle.rules.specs.QuickTest.{descend}
use Rattle.connections.proofs.tested.Tested.first_failing.Goals as goal

pub loop-fail-init : goal.loop-fail-init
loop-fail-init c =
    let a = c.args in
    (omega arith, omega arith, λ js S. (W.some_left a.self.now.link js a.m a.k (c.requires.4 js S), refl, c.requires.4 js S))

pub returns : goal.returns
returns c =
    let a = c.args in
    let loop = c.loop-fail in (
      loop.invariant.1,
      λ js S.
          let v = loop.invariant.2 js S in
          let e : loop.hold ≡ loop.fail - 1 = omega (arith, v.0) in
          (omega (arith, v.0), ap (λ (k : ℕ). descend a.self.now.link js a.m k k) (sym e) ∙ v.1, v.2),
    )
