use native.Mathlib.Omega.{arith}
use Rattle.tables.proofs.PlacesLaws.{rows_end, used_below}
use Rattle.tables.proofs.reach.Goals as goal

pub loop-high-init : goal.loop-high-init
loop-high-init c = (omega arith, omega arith, omega (arith, rows_end c.args.table.now))

pub returns-then-table-high-eq0 : goal.returns-then-table-high-eq0
returns-then-table-high-eq0 c = let l = c.loop-high in (used_below c.args.table.now l.high c.if-table-high-eq0.true, omega (arith, l.invariant.1))

pub loop-high-preserved : goal.loop-high-preserved
loop-high-preserved c = let l = c.loop-high in (omega (arith, l.invariant.0), l.invariant.1, l.invariant.2)

pub returns : goal.returns
returns c = let l = c.loop-high in (l.invariant.2, l.invariant.1)
