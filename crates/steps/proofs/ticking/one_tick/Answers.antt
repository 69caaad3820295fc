use Rattle.steps.specs.Tie.{lent}
use mathlib.Core.Path.{refl}
use Rattle.steps.proofs.CallLaws.{did_refused, did_tick}
use borrow.Author.Rules.{rules}
use Rattle.steps.proofs.ticking.one_tick.Goals as goal

pub answered-requires : goal.answered-requires
answered-requires c = c.requires.1

pub returns-then-told-ne0 : goal.returns-then-told-ne0
returns-then-told-ne0 c =
    let a = c.args in
    let k = c.answered.ensures in
    let w = c.tick-told in
    let n = c.saturating_sub in
    record { makes = did_refused a.at a.asked a.left a.h (lent a.t.now) c.requires.0 w.result _ w.ensures _ _ _ c.if-told-ne0.true c.low.result n.result c.low.ensures n.ensures k.0 k.1; same_slices = (refl, refl, refl, w.auto.members, w.auto.places, w.auto.notices) }

pub put_departure-wrote-requires : goal.put_departure-wrote-requires
put_departure-wrote-requires c = c.requires.1

pub overflow_sub-rest : goal.overflow_sub-rest
overflow_sub-rest c = search (rules, c.requires.2)

pub returns : goal.returns
returns c =
    let a = c.args in
    let k = c.put_departure-wrote.ensures in
    let w = c.tick-told in
    record { makes = did_tick a.at a.asked a.left a.h (lent a.t.now) c.requires.0 w.result _ w.ensures _ _ _ c.if-told-ne0.false (rw k.0) k.1; same_slices = (refl, refl, refl, w.auto.members, w.auto.places, w.auto.notices) }
