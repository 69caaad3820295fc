use Rattle.rules.proofs.Verdicts.{tick_done}
use mathlib.Core.Path.{sym, ◌∙◌}
use Rattle.state.specs.View.{tables, view}
use Rattle.state.proofs.SoundLaws as S
use Rattle.calls.proofs.ActLaws as A
use Rattle.calls.proofs.run_on.Goals as goal

pub run_tick-told-requires : goal.run_tick-told-requires
run_tick-told-requires c =
    let t = tables c.args.members.now c.args.places.now c.args.notices.now in
    let d = tick_done (view c.args.h t) c.requires.1 in
    (A.ready_to_tick c.args.h t c.requires.0 d.set d.running, S.members_size c.args.h t c.requires.0)

pub first_charge-requires : goal.first_charge-requires
first_charge-requires c =
    let t = tables c.args.members.now c.args.places.now c.args.notices.now in
    S.members_size c.args.h t c.requires.0

pub returns-then-first_charge-eq0 : goal.returns-then-first_charge-eq0
returns-then-first_charge-eq0 c =
    let t = tables c.args.members.now c.args.places.now c.args.notices.now in
    A.tick_frees_nobody c.args.h t c.requires.0 _ _ _ c.requires.1 c.run_tick-told.ensures (sym c.first_charge.ensures ∙ c.if-first_charge-eq0.true)

pub charge_time-time-requires : goal.charge_time-time-requires
charge_time-time-requires c =
    let t = tables c.args.members.now c.args.places.now c.args.notices.now in
    let d = tick_done (view c.args.h t) c.requires.1 in
    A.time_fits c.args.h t c.requires.0 d.set

pub sweep-requires : goal.sweep-requires
sweep-requires c =
    let t = tables c.args.members.now c.args.places.now c.args.notices.now in
    let d = tick_done (view c.args.h t) c.requires.1 in
    ((S.shapes t (S.formed_tables c.args.h t c.requires.0)).members_shape, A.closed_order c.args.h t c.requires.0 d.set)

pub returns : goal.returns
returns c =
    let t = tables c.args.members.now c.args.places.now c.args.notices.now in
    let w = c.sweep in
    A.tick_acts c.args.h t c.requires.0 _ _ _ _ _ c.requires.1 c.run_tick-told.ensures c.charge_time-time.ensures w.ensures
