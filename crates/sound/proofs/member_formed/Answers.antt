use Rattle.limits.proofs.ChainLaws as C
use native.Mathlib.Omega.{arith}
use mathlib.Core.Path.{◌≡◌, ap}
use mathlib.Core.Bool.{Bool, ◌&&◌}
use lib.Dec.{leb}
use lib.ListN.{length}
use borrow.Author.Tests.{lt-leb, le-leb}
use Rattle.rules.specs.Limits.{max_remembered}
use borrow.Author.Rules.{rules}
use Rattle.sound.proofs.member_formed.Goals as goal

pub returns-then-m : goal.returns-then-m
returns-then-m c = let a = c.args in C.fails _ _ (lt-leb a.m.known max_remembered (search rules))

pub zero_from-requires : goal.zero_from-requires
zero_from-requires c = let n : length c.args.m.ticks ≡ max_remembered = search rules in omega (arith, n)

pub returns : goal.returns
returns c =
    let a = c.args in
    C.goes_on _ _ _ (le-leb a.m.known max_remembered (search rules)) (ap (λ (b : Bool). b && leb a.m.mark 1) c.zero_from.ensures)
