use Rattle.connections.proofs.StandByLaws as S
use native.Mathlib.Omega.{arith}
use mathlib.Core.Path.{◌≡◌}
use lib.ListN.{length}
use Rattle.rules.specs.Limits.{max_remembered}
use borrow.Author.Rules.{rules}
use Rattle.connections.proofs.stand_by.settles.Goals as goal

pub returns-then-n-eq0 : goal.returns-then-n-eq0
returns-then-n-eq0 c =
    let a = c.args in
    S.settled_without a.m a.now c.packets_in-n.result c.packets_in-n.ensures c.if-n-eq0.true _ _ c.from.ensures c.after_nth.ensures

pub returns : goal.returns
returns c =
    let a = c.args in
    let n : length a.m.ticks ≡ max_remembered = search rules in
    S.settled_with a.m a.now c.packets_in-n.result c.packets_in-n.ensures c.if-n-eq0.false (omega (arith, n))
