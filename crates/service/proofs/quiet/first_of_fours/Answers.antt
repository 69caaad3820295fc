use Rattle.service.proofs.QuietCases.{waits_none, waits_fours, waits_now}
use Rattle.tables.proofs.PlacesLaws.{rows_end}
use native.Mathlib.Omega.{arith}
use Prim.Native.Nat.{◌+◌, ◌*◌}
use mathlib.Core.Path.{◌≡◌}
use borrow.Author.Rules.{rules}
use Rattle.service.proofs.quiet.first_of_fours.Goals as goal

pub loop-j-init : goal.loop-j-init
loop-j-init c = let a = c.args in (omega arith, waits_none a.places.now a.clock)

pub overflow_mul-j : goal.overflow_mul-j
overflow_mul-j c = let k = rows_end c.args.places.now in search rules

pub least_of_four-requires : goal.least_of_four-requires
least_of_four-requires c = omega (arith, rows_end c.args.places.now, c.requires)

pub returns-then-first-clock : goal.returns-then-first-clock
returns-then-first-clock c = let l = c.loop-j in
    let e = c.min-first.ensures in
    let f = c.least_of_four.ensures in
    (omega (arith, e, l.invariant.0), waits_now c.args.places.now c.args.clock _ (4 * (l.j + 1)) (4 * c.args.q) (search rules) (waits_fours c.args.places.now c.args.clock l.j l.first e f (omega (arith, c.requires)) l.invariant.1))

pub loop-j-preserved : goal.loop-j-preserved
loop-j-preserved c = let l = c.loop-j in
    let e = c.min-first.ensures in
    let f = c.least_of_four.ensures in
    (omega (arith, e, l.invariant.0), waits_fours c.args.places.now c.args.clock l.j l.first e f (omega (arith, c.requires)) l.invariant.1)

pub returns : goal.returns
returns c = let l = c.loop-j in
    (l.invariant.0, let e : c.args.q ≡ l.j = omega arith in rw e l.invariant.1)
