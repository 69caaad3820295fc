-- the rows of any table lie in it
use native.Mathlib.Omega.{arith}
use Rattle.tables.proofs.PlacesLaws.{rows_end}
use Rattle.tables.proofs.rows.Rows.of.Goals as goal

pub invariant_of-result-clause-inside : goal.invariant_of-result-clause-inside
invariant_of-result-clause-inside c = omega (arith, c.held.ensures, rows_end c.args.table.now)
