use Rattle.connections.proofs.RegulatorLaws as R
use Rattle.rules.specs.Limits.{max_remembered}
use mathlib.Core.List.{List, ◌++◌}
use mathlib.Core.Path.{ap, refl}
use Prim.Native.Nat.{ℕ, ◌-◌}
use lib.ListN.{drop, replicate}
use borrow.Author.Rules.{rules}
use Rattle.connections.proofs.regulator.forgetting.Goals as goal

pub returns : goal.returns
returns c =
    let a = c.args in
    R.forgets_some a.m a.n (search rules) c.requires (search rules) _ _ refl (ap (λ (l : List ℕ). l ++ drop (max_remembered - a.n) (replicate max_remembered 0)) c.copy_from_slice.ensures.after)
