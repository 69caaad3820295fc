use Rattle.causes.proofs.CauseLaws as A
use Rattle.tables.proofs.PlacesLaws as P
use Prim.Native.Nat.{suc}
use native.Mathlib.Omega.{arith}
use native.Mathlib.Numerals.{add-one}
use mathlib.Core.Path.{◌≡◌, ap, ◌∙◌}
use mathlib.Core.Bool.{cond}
use lib.Dec.{eqb}
use lib.ListN.{length, drop}
use Rattle.rules.specs.declared.Packet.{Packet}
use Rattle.tables.specs.Places.{rows, row_at}
use Rattle.calls.proofs.verdicts.held_by.Goals as goal

pub count-i-end-requires : goal.count-i-end-requires
count-i-end-requires c = P.as_table c.args.places.now c.requires.0 c.requires.1

pub loop-i-init : goal.loop-i-init
loop-i-init c = (omega arith, omega arith)

pub row-p-requires : goal.row-p-requires
row-p-requires c = omega (arith, P.rows_end c.args.places.now, c.count-i-end.ensures)

pub overflow_add-n : goal.overflow_add-n
overflow_add-n c = omega (arith, A.bit_le c.row-p.result.connection c.args.c, c.one_if_same-n.ensures, P.rows_end c.args.places.now, c.count-i-end.ensures, c.loop-i.invariant.0)

pub loop-i-preserved : goal.loop-i-preserved
loop-i-preserved c =
    let a = c.args in
    let i = c.loop-i.i in
    let e = P.rows_from a.places.now i (omega (arith, c.count-i-end.ensures)) in
    let k = A.one_more a.c (drop i (rows a.places.now)) (row_at a.places.now i) (drop (suc i) (rows a.places.now)) e in
    let j : c.one_if_same-n.result ≡ cond (eqb (row_at a.places.now i).connection a.c) 1 0 = c.one_if_same-n.ensures ∙ ap (λ (p : Packet). cond (eqb p.connection a.c) 1 0) c.row-p.ensures in (
      omega (arith, A.bit_le c.row-p.result.connection a.c, c.one_if_same-n.ensures, c.loop-i.invariant.0),
      rw (add-one i) (omega (arith, k, j, c.loop-i.invariant.1)),
    )

pub returns : goal.returns
returns c =
    let a = c.args in
    let e : c.loop-i.i ≡ length (rows a.places.now) = omega (arith, c.count-i-end.ensures) in
    A.all_counted a.c (rows a.places.now) c.loop-i.n c.loop-i.i e c.loop-i.invariant.1
