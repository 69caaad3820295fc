use mathlib.Core.Path.{sym}
use native.Mathlib.Omega.{arith}
use Rattle.framed_state.specs.View.{tables}
use Rattle.framed_state.proofs.SoundLaws as S
use Rattle.framed_calls.proofs.ActLaws as A
use Rattle.framed_calls.proofs.admit_tested.Goals as goal

pub returns-in-Err : goal.returns-in-Err
returns-in-Err c =
    let t = tables c.args.shares.now c.args.places.now c.args.notices.now in
    A.admit_refuses c.args.h t c.requires c.args.x c.in-Err.why _ _ _ c.in-Err.ensures.number c.in-Err.ensures.over c.number.ensures c.short.ensures c.say.ensures

pub join-requires : goal.join-requires
join-requires c =
    let t = tables c.args.shares.now c.args.places.now c.args.notices.now in
    let n = c.standing-standing in
    ((S.shapes t (S.formed_tables c.args.h t c.requires)).members_shape, n.ensures, A.admit_few c.args.h t c.requires c.args.x n.result (sym c.in_default.ensures.number) n.ensures)

pub overflow_cast-standing : goal.overflow_cast-standing
overflow_cast-standing c =
    let t = tables c.args.shares.now c.args.places.now c.args.notices.now in
    let n = c.standing-standing in
    omega (arith, A.admit_few c.args.h t c.requires c.args.x n.result (sym c.in_default.ensures.number) n.ensures)

pub returns : goal.returns
returns c =
    let t = tables c.args.shares.now c.args.places.now c.args.notices.now in
    let n = c.standing-standing in
    A.admit_acts c.args.h t c.requires c.args.x _ n.result _ (sym c.in_default.ensures.number) n.ensures c.say-2.ensures c.join.ensures
