-- `framed_service::quiet::quiet_ticks` meets its contract: none without a link, else the least of the line's quiet, the clock's rest and what is left.
use Rattle.framed_state.specs.View.{tables, view}
use Rattle.framed_state.proofs.SoundLaws.{sound_view, linked}
use Rattle.framed_service.proofs.QuietCases.{none_without_link, clock_in_time, some_quiet}
use Rattle.framed_service.proofs.quiet.quiet_ticks.Goals as goal

pub returns-then-h-eq0 : goal.returns-then-h-eq0
returns-then-h-eq0 c =
    let t = tables c.args.shares.now c.args.places.now c.args.notices.now in
    none_without_link (view c.args.h t) (sound_view c.args.h t c.requires) c.args.left c.if-h-eq0.true

pub quiet_for-requires : goal.quiet_for-requires
quiet_for-requires c =
    (linked c.args.h (tables c.args.shares.now c.args.places.now c.args.notices.now) c.requires c.if-h-eq0.false).in_order

pub overflow_sub-h : goal.overflow_sub-h
overflow_sub-h c =
    let t = tables c.args.shares.now c.args.places.now c.args.notices.now in
    clock_in_time (view c.args.h t) (sound_view c.args.h t c.requires) c.args.left c.if-h-eq0.false

pub returns : goal.returns
returns c =
    let t = tables c.args.shares.now c.args.places.now c.args.notices.now in
    some_quiet (view c.args.h t) (sound_view c.args.h t c.requires) c.args.left c.if-h-eq0.false _ _ _
    c.quiet_for.ensures c.min-rest.ensures c.min.ensures
