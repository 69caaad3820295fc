-- `framed_service::run_on` meets its contract: a sound `Frames` is ready, the clock has not ended, and the steps follow one on the other.
use Rattle.frames.proofs.Verdicts.{tick_done}
use Rattle.framed_state.specs.View.{tables, view}
use Rattle.framed_service.proofs.ReadyLaws.{ready}
use Rattle.framed_service.proofs.ChoiceLaws.{ready_then, ticks}
use Rattle.framed_service.proofs.TickLaws.{tick_acts}
use Rattle.framed_service.proofs.run_on.Goals as goal

pub start-w-requires : goal.start-w-requires
start-w-requires c =
    let t = tables c.args.shares.now c.args.places.now c.args.notices.now in
    let r = ready c.args.h t c.requires.0 (tick_done (view c.args.h t) c.requires.1).set in
    (r.in_order, r.in_place.notices)

pub send-x-requires : goal.send-x-requires
send-x-requires c =
    let a = c.args in
    let t = tables a.shares.now a.places.now a.notices.now in
    ready_then a.h.wire a.h.clock t.places t.notices c.start-w.result c.start-w.ensures (ready a.h t c.requires.0 (tick_done (view a.h t) c.requires.1).set)

pub pass-requires : goal.pass-requires
pass-requires c =
    let t = tables c.args.shares.now c.args.places.now c.args.notices.now in
    (tick_done (view c.args.h t) c.requires.1).running

pub returns : goal.returns
returns c =
    let a = c.args in
    let t = tables a.shares.now a.places.now a.notices.now in
    tick_acts a.h t c.requires.0 c.requires.1 c.send-x.result _ _ _
    (ticks a.h.wire a.h.clock t.places t.notices c.start-w.result c.start-w.ensures a.h.link.silence c.send-x.result _ _ c.send-x.ensures) c.pass.ensures
