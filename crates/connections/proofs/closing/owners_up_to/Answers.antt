use Rattle.connections.proofs.ClosingLaws as L
use native.Mathlib.Omega.{arith}
use borrow.Author.Rules.{rules}
use Rattle.connections.proofs.closing.owners_up_to.Goals as goal

pub returns-then-number-ne0 : goal.returns-then-number-ne0
returns-then-number-ne0 c =
    let a = c.args in
    let k = c.loop-k.k in
    omega (arith, L.owners_end a.members.now k (search rules) (search rules) (search rules) c.number.result c.number.ensures c.if-number-ne0.true)

pub loop-k-preserved : goal.loop-k-preserved
loop-k-preserved c =
    let a = c.args in
    let k = c.loop-k.k in
    (L.owners_lower a.members.now k (search rules) (search rules) (search rules) c.number.result c.number.ensures (omega (arith, c.if-number-ne0.false)), omega arith)
