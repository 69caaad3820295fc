use Rattle.connections.proofs.FigureLaws as L
use Prim.Native.Nat.{ℕ, ◌+◌}
use mathlib.Core.Path.{sym, ap, ◌∙◌}
use Rattle.rules.specs.Admission.{count}
use Rattle.rules.proofs.Figures.{reservation_is}
use borrow.Author.Rules.{rules}
use Rattle.connections.proofs.reserve.Goals as goal

pub returns : goal.returns
returns c =
    let a = c.args in
    (c.reserve_in.ensures.0 ∙ ap (λ (d : ℕ). count a.x (a.x.allowance + d)) (L.bound_is a.l a.x.level) ∙ sym (reservation_is a.l a.x), search rules)
