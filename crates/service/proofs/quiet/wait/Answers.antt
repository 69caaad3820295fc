use Rattle.tables.proofs.PlacesLaws as P
use native.Mathlib.Omega.{arith}
use Rattle.tables.proofs.PlacesLaws.{rows_end}
use Rattle.service.proofs.QuietCases.{waits_more, waits_all}
use borrow.Author.Rules.{rules}
use Rattle.service.proofs.quiet.wait.Goals as goal

pub count-n-requires : goal.count-n-requires
count-n-requires c = P.as_table c.args.places.now c.requires.0 c.requires.1

pub first_of_fours-first-requires : goal.first_of_fours-first-requires
first_of_fours-first-requires c = omega (arith, c.count-n.ensures)

pub loop-i-init : goal.loop-i-init
loop-i-init c = c.first_of_fours-first.ensures

pub overflow_mul-i : goal.overflow_mul-i
overflow_mul-i c = let k = rows_end c.args.places.now in let e = c.count-n.ensures in search rules

pub overflow_add-i : goal.overflow_add-i
overflow_add-i c = let k = rows_end c.args.places.now in let e = c.count-n.ensures in search rules

pub offset_bounds-places-i : goal.offset_bounds-places-i
offset_bounds-places-i c = let k = rows_end c.args.places.now in let e = c.count-n.ensures in search rules

pub bounds-places-i : goal.bounds-places-i
bounds-places-i c = let k = rows_end c.args.places.now in let e = c.count-n.ensures in omega arith

pub loop-i-preserved : goal.loop-i-preserved
loop-i-preserved c =
    let a = c.args in
    let l = c.loop-i in
    let e = c.min-first.ensures in
    (omega (arith, e, l.invariant.0), rw e (waits_more a.places.now a.clock l.i l.first (omega (arith, c.count-n.ensures)) l.invariant.1))

pub returns : goal.returns
returns c =
    let a = c.args in
    let l = c.loop-i in
    rw (← waits_all a.places.now a.clock l.first l.i l.invariant.0 (omega (arith, c.count-n.ensures)) l.invariant.1) c.saturating_sub.ensures
