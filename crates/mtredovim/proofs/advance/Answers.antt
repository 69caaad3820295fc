use Rattle.steps.specs.Tie.{lent}
use native.Mathlib.Omega.{arith}
use lib.ListN.{length, length-take}
use Rattle.replay.proofs.FactLaws.{stepped_fits, pump_facts}
use Rattle.turns.specs.Turns.{window}
use Rattle.turns.proofs.TurnLaws.{length_window, wanted, turned, turn_better}
use Rattle.mtredovim.proofs.advance.Goals as goal

pub slice_bounds-write_all-end : goal.slice_bounds-write_all-end
slice_bounds-write_all-end g c =
    let a = c.args in
    let R = c.requires in
    let p = c.pump-r in
    let E = pump_facts a.v.cursor (lent a.t.now) (window a.buf.now a.v.from a.v.to) a.v.last a.out.now p.result _ _ p.ensures.steps (stepped_fits p.result _ p.type_inv) in
    omega (arith, E.wrote, p.auto.out)

pub slice_bounds-write_all-end-2 : goal.slice_bounds-write_all-end-2
slice_bounds-write_all-end-2 g c =
    let a = c.args in
    let R = c.requires in
    let p = c.pump-r in
    let E = pump_facts a.v.cursor (lent a.t.now) (window a.buf.now a.v.from a.v.to) a.v.last a.out.now p.result _ _ p.ensures.steps (stepped_fits p.result _ p.type_inv) in
    let F = rw (length_window a.buf.now a.v.from a.v.to R.order R.inside) at E in
    simp length-take (omega (arith, F.wrote, p.auto.out))

pub follow-requires : goal.follow-requires
follow-requires g c =
    let a = c.args in
    let R = c.requires in
    let p = c.pump-r in
    let E = pump_facts a.v.cursor (lent a.t.now) (window a.buf.now a.v.from a.v.to) a.v.last a.out.now p.result _ _ p.ensures.steps (stepped_fits p.result _ p.type_inv) in
    let F = rw (length_window a.buf.now a.v.from a.v.to R.order R.inside) at E in
    (wanted (length a.buf.now) a.v.cursor a.v.from a.v.to R a.v.last (length a.out.now) p.result F, F.wants)

pub returns : goal.returns
returns g c =
    let a = c.args in
    let R = c.requires in
    let p = c.pump-r in
    let E = pump_facts a.v.cursor (lent a.t.now) (window a.buf.now a.v.from a.v.to) a.v.last a.out.now p.result _ _ p.ensures.steps (stepped_fits p.result _ p.type_inv) in
    let F = rw (length_window a.buf.now a.v.from a.v.to R.order R.inside) at E in
    let b = c.is_ok-taken.result in
    let r = c.follow in
    record {
      turned = turned a.v.cursor (lent a.t.now) (window a.buf.now a.v.from a.v.to) a.v.last a.out.now p.result _ _ _
          r.result p.ensures.steps r.ensures.followed;
      same_slices = p.ensures.same_slices;
      better = λ o. turn_better (length a.buf.now) a.v.cursor a.v.from a.v.to R a.v.last (length a.out.now) p.result F b r.result r.ensures.onward o;
    }
