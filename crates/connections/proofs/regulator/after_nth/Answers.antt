use Rattle.connections.proofs.RegulatorLaws as R
use native.Mathlib.Omega.{arith}
use mathlib.Core.Path.{◌≡◌}
use lib.ListN.{length}
use Rattle.rules.specs.Limits.{max_remembered}
use borrow.Author.Rules.{rules}
use Rattle.connections.proofs.regulator.after_nth.Goals as goal

pub returns-then-m-k : goal.returns-then-m-k
returns-then-m-k c = let a = c.args in R.before_none a.m a.k a.n a.x c.if-n-eq0.false c.if-m-k.true

pub returns : goal.returns
returns c =
    let a = c.args in
    let n : length a.m.ticks ≡ max_remembered = search rules in
    R.before_some a.m a.k a.n a.x c.if-n-eq0.false (search rules) (omega (arith, n)) _ _ c.from.ensures c.from-2.ensures
