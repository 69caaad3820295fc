-- `service::run_tick` meets its contract: the steps, one after the other.
use Rattle.service.proofs.TickLaws as L
use Rattle.service.proofs.run_tick.Goals as goal

pub send-x-requires : goal.send-x-requires
send-x-requires c =
    let a = c.args in
    L.ready_then a.h a.members.now a.places.now a.notices.now c.requires.0 c.start-w.result c.start-w.ensures

pub returns : goal.returns
returns c =
    let a = c.args in
    let g = c.start-w in
    let x = c.send-x in
    L.ticks a.h a.members.now a.places.now a.notices.now g.result x.result _ _ _ g.ensures x.ensures c.pass.ensures
