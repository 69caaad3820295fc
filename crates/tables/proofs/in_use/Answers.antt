-- `tables::in_use` meets its contract: up to the first row whose second number is 0.
use Rattle.tables.proofs.TableLaws as L
use native.Mathlib.Omega.{arith}
use mathlib.Core.Path.{sym}
use borrow.Author.Rules.{rules}
use Rattle.tables.proofs.in_use.Goals as goal

pub overflow_mul-width : goal.overflow_mul-width
overflow_mul-width c = let a = c.args in let k = L.row_fits a.width a.table.now c.loop-i.i (omega arith) in search rules

pub overflow_add-width : goal.overflow_add-width
overflow_add-width c = let a = c.args in let k = L.row_fits a.width a.table.now c.loop-i.i (omega arith) in search rules

pub offset_bounds-table-width : goal.offset_bounds-table-width
offset_bounds-table-width c = let a = c.args in let k = L.row_fits a.width a.table.now c.loop-i.i (omega arith) in search rules

pub bounds-table-width : goal.bounds-table-width
bounds-table-width c =
    let a = c.args in let k = L.row_fits a.width a.table.now c.loop-i.i (omega arith) in search rules

pub returns-then-table-width-eq0 : goal.returns-then-table-width-eq0
returns-then-table-width-eq0 c =
    let a = c.args in
    sym (L.held_stop a.width a.table.now (omega arith) c.loop-i.i (search rules) c.if-table-width-eq0.true)

pub loop-i-preserved : goal.loop-i-preserved
loop-i-preserved c =
    let a = c.args in
    let k = L.held_more a.width a.table.now (omega arith) c.loop-i.i (omega arith) c.if-table-width-eq0.false c.loop-i.invariant in
    omega arith

pub returns : goal.returns
returns c = let a = c.args in omega (arith, L.used_le a.width a.table.now)
