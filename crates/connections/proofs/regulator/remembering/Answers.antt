use Rattle.connections.proofs.RegulatorLaws as R
use mathlib.Core.List.{List}
use mathlib.Core.Path.{◌≡◌, ap, ◌∙◌}
use lib.ListN.{length, set}
use Rattle.rules.specs.Limits.{max_remembered}
use native.Mathlib.Omega.{arith}
use Prim.Native.Nat.{ℕ}
use borrow.Author.Rules.{rules}
use Rattle.connections.proofs.regulator.remembering.Goals as goal

pub returns : goal.returns
returns c =
    let a = c.args in
    let n : length a.m.ticks ≡ max_remembered = search rules in
    R.remembering_is a.m a.e n c.requires _ _ c.min.ensures (ap (λ (l : List ℕ). set l 0 a.e) c.rotate_right.ensures.after ∙ R.turned a.m.ticks a.e _ n (omega (arith, n)))
