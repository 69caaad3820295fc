use native.Mathlib.Omega.{arith}
use Rattle.framed_calls.proofs.PassLaws as P
use Rattle.framed_calls.proofs.verdicts.taken_by.Goals as goal

pub overflow_add-units : goal.overflow_add-units
overflow_add-units c =
    let a = c.args in
    let n = c.count-i-end in
    omega (
      arith,
      P.units_le a.l a.clock a.places.now a.c c.requires.2 c.loop-i.i (omega (arith, n.ensures)) _ c.row-p.ensures _ c.counted-units.ensures,
      c.loop-i.invariant.light,
      c.requires.2.countable.few_rows,
      n.ensures,
    )

pub loop-i-preserved : goal.loop-i-preserved
loop-i-preserved c =
    let a = c.args in
    P.pass_more a.l a.clock a.places.now a.c c.requires.2 c.loop-i.i (omega (arith, c.count-i-end.ensures)) _ c.row-p.ensures _ _ _ _
    c.one_if_same-held.ensures c.counted-units.ensures c.loop-i.invariant
