-- `service::stand_by` meets its contract. The loop's invariant: the first of the rows from i on that may go is the first of all rows that may.
use native.Mathlib.Omega.{arith}
use borrow.Author.Rules.{rules}
use mathlib.Core.Path.{sym, ap, ◌∙◌}
use Rattle.rules.specs.declared.Connection.{Connection}
use Rattle.rules.specs.Admission.{goes_early}
use Rattle.tables.proofs.PlacesLaws as P
use Rattle.tables.proofs.PlacesLaws.{rows_end}
use Rattle.service.specs.Candidates.{early_in}
use Rattle.service.proofs.EarlyLaws as L
use Rattle.service.proofs.stand_by.Goals as goal

pub returns-then-not-is_on : goal.returns-then-not-is_on
returns-then-not-is_on c =
    let a = c.args in
    L.off a.l a.members.now a.places.now (sym c.is_on.ensures ∙ c.if-not-is_on.true)

pub count-i-end-requires : goal.count-i-end-requires
count-i-end-requires c = P.as_table c.args.places.now c.requires.0 c.requires.1

pub overflow_mul-i : goal.overflow_mul-i
overflow_mul-i c = let k = rows_end c.args.places.now in let e = c.count-i-end.ensures in search rules

pub offset_bounds-places-i : goal.offset_bounds-places-i
offset_bounds-places-i c = let k = rows_end c.args.places.now in let e = c.count-i-end.ensures in search rules

pub bounds-places-i : goal.bounds-places-i
bounds-places-i c = omega (arith, rows_end c.args.places.now, c.count-i-end.ensures)

pub row-requires : goal.row-requires
row-requires c = omega (arith, rows_end c.args.places.now, c.count-i-end.ensures)

pub returns-then-goes_early : goal.returns-then-goes_early
returns-then-goes_early c =
    let a = c.args in
    L.may_go (early_in a.l a.members.now) a.places.now c.loop-i.i (omega (arith, c.count-i-end.ensures)) c.loop-i.invariant c.row.result c.row.ensures
    (ap (λ (y : Connection). goes_early a.l y) (sym c.figures_of-x.ensures) ∙ sym c.goes_early.ensures ∙ c.if-goes_early.true)

pub loop-i-preserved : goal.loop-i-preserved
loop-i-preserved c =
    let a = c.args in
    L.may_not (early_in a.l a.members.now) a.places.now c.loop-i.i (omega (arith, c.count-i-end.ensures)) c.loop-i.invariant
    (ap (λ (y : Connection). goes_early a.l y) (sym c.figures_of-x.ensures) ∙ sym c.goes_early.ensures ∙ c.if-goes_early.false)

pub returns : goal.returns
returns c =
    let a = c.args in
    L.nobody (early_in a.l a.members.now) a.places.now c.loop-i.i (omega (arith, c.count-i-end.ensures)) c.loop-i.invariant
