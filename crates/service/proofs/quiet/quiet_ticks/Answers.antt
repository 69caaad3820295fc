use Rattle.state.specs.View.{tables, view}
use Prim.Native.Nat.{ℕ}
use mathlib.Core.Path.{ap, ◌∙◌}
use Rattle.rules.specs.Admission.{charge_time}
use Rattle.connections.proofs.WrittenLaws.{members_long, first_is}
use Rattle.service.specs.Quiet.{charged_for}
use Rattle.service.proofs.QuietCases.{none_without_link, clock_in_time, time_fits, some_quiet, quiet_parts}
use borrow.Author.Rules.{rules}
use Rattle.service.proofs.quiet.quiet_ticks.Goals as goal

pub returns-then-h-eq0 : goal.returns-then-h-eq0
returns-then-h-eq0 c =
    let a = c.args in
    none_without_link (view a.h (tables a.members.now a.places.now a.notices.now)) c.requires.0 a.left (search rules)

pub quiet_for-requires : goal.quiet_for-requires
quiet_for-requires c = (c.requires.1, c.requires.2, members_long c.args.members.now c.requires.3)

pub overflow_sub-h : goal.overflow_sub-h
overflow_sub-h c =
    let a = c.args in
    clock_in_time (view a.h (tables a.members.now a.places.now a.notices.now)) c.requires.0 a.left c.if-h-eq0.false

pub charged_for-requires : goal.charged_for-requires
charged_for-requires c =
    let a = c.args in
    (members_long a.members.now c.requires.3, time_fits (view a.h (tables a.members.now a.places.now a.notices.now)) c.requires.0 a.left c.if-h-eq0.false)

pub returns : goal.returns
returns c =
    let a = c.args in
    some_quiet (view a.h (tables a.members.now a.places.now a.notices.now)) c.requires.0 a.left c.if-h-eq0.false _
    (quiet_parts _ _ _ _ _ _ _ a.left _ c.quiet_for.ensures c.min-still.ensures
    (c.charged_for.ensures ∙ ap (λ (f : ℕ). charged_for f (charge_time a.h.link) a.h.clock) (first_is a.members.now c.requires.3)) c.min-rest.ensures c.min.ensures)
