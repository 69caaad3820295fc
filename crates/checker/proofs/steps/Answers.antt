use Rattle.turns.proofs.TurnLaws.{length_window, wanted, turn_better}
use Rattle.checker.proofs.MoveLaws.{steps_on}
use Rattle.replay.proofs.FactLaws.{stepped_fits, pump_facts}
use Rattle.turns.specs.Turns.{window}
use lib.ListN.{length}
use mathlib.Core.Bool.{true}
use Rattle.steps.specs.Tie.{lent}
use Rattle.checker.proofs.steps.Goals as goal

pub follow-requires : goal.follow-requires
follow-requires g c =
    let a = c.args in
    let v = a.c.turn in
    let R = c.requires in
    let p = c.pump-r in
    let E = pump_facts v.cursor (lent a.t.now) (window a.buf.now v.from v.to) v.last a.out.now p.result _ _ p.ensures.steps (stepped_fits p.result _ p.type_inv) in
    let F = rw (length_window a.buf.now v.from v.to R.order R.inside) at E in
    (wanted (length a.buf.now) v.cursor v.from v.to R v.last (length a.out.now) p.result F, F.wants)

pub returns : goal.returns
returns g c =
    let a = c.args in
    let v = a.c.turn in
    let R = c.requires in
    let p = c.pump-r in
    let E = pump_facts v.cursor (lent a.t.now) (window a.buf.now v.from v.to) v.last a.out.now p.result _ _ p.ensures.steps (stepped_fits p.result _ p.type_inv) in
    let F = rw (length_window a.buf.now v.from v.to R.order R.inside) at E in
    let r = c.follow in
    record { steps_on = steps_on a.c (lent a.t.now) (window a.buf.now v.from v.to) a.out.now p.result r.result _ _ _ p.ensures.steps r.ensures.followed r.ensures.taken_value; same_slices = p.ensures.same_slices; wrote_in_bounds = (F.wrote, λ o. turn_better (length a.buf.now) v.cursor v.from v.to R v.last (length a.out.now) p.result F true r.result r.ensures.onward o) }
