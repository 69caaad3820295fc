-- the rows of any table lie in it
use native.Mathlib.Omega.{arith}
use Rattle.shares.proofs.ShareLaws.{shares_end}
use Rattle.shares.proofs.counted.Shares.of.Goals as goal

pub invariant_of-result-clause-inside : goal.invariant_of-result-clause-inside
invariant_of-result-clause-inside c = omega (arith, c.standing.ensures, shares_end c.args.table.now)
