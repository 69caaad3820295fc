use Rattle.connections.proofs.WindowLaws as W
use Prim.Native.Nat.{ℕ, ◌+◌}
use native.Mathlib.Omega.{arith}
use mathlib.Core.Path.{◌≡◌, sym, ap, ◌∙◌}
use Rattle.rules.specs.Admission.{bound, largest_of}
use Rattle.connections.proofs.closing.charge_time.Goals as goal

pub returns-then-not-has_windows : goal.returns-then-not-has_windows
returns-then-not-has_windows c = c.bound_of-d.ensures ∙ W.charge_bound c.args.l (sym c.has_windows.ensures ∙ c.if-not-has_windows.true)

pub overflow_add-result : goal.overflow_add-result
overflow_add-result c =
    let u : c.largest_of.result ≡ largest_of c.args.l.windows = c.largest_of.ensures in
    let v : c.bound_of-d.result ≡ bound c.args.l c.args.l.levels = c.bound_of-d.ensures in
    omega (arith, u, v, W.charge_both c.args.l (sym c.has_windows.ensures ∙ c.if-not-has_windows.false), c.requires)

pub returns : goal.returns
returns c =
    let l = c.args.l in
    ap (λ (k : ℕ). k + c.largest_of.result) c.bound_of-d.ensures ∙ ap (λ (k : ℕ). bound l l.levels + k) c.largest_of.ensures ∙ W.charge_both l (sym c.has_windows.ensures ∙ c.if-not-has_windows.false)
