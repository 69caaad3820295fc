use Prim.Native.Nat.{ℕ}
use mathlib.Core.Path.{ap, ◌∙◌}
use Rattle.tables.specs.Lent.{tables}
use Rattle.either_line.specs.Line.{tick}
use Rattle.both.specs.View.{view}
use Rattle.both.specs.Quiet.{quiet_ticks}
use Rattle.both.proofs.DoesLaws.{told_as, left_as}
use Rattle.board.proofs.TickLaws.{quiet_in_time, quiet_at_once, one_at_once}
use Rattle.board.proofs.ticking.stretch.Goals as goal

pub quiet-requires : goal.quiet-requires
quiet-requires c =
    let a = c.args in
    let t = tables a.members.now a.places.now a.notices.now in
    quiet_in_time a.left a.h t (c.quiet_ticks-k.ensures ∙ ap (λ (m : ℕ). quiet_ticks m (view a.h t)) c.min.ensures) c.if-k-ne0.true

pub returns-then-k-ne0 : goal.returns-then-k-ne0
returns-then-k-ne0 c =
    let a = c.args in
    let t = tables a.members.now a.places.now a.notices.now in
    quiet_at_once a.left a.h t (c.quiet_ticks-k.ensures ∙ ap (λ (m : ℕ). quiet_ticks m (view a.h t)) c.min.ensures) c.requires c.if-k-ne0.true _ (c.quiet.ensures t)

pub returns : goal.returns
returns c =
    let a = c.args in
    let t = tables a.members.now a.places.now a.notices.now in
    let w = c.tick in
    one_at_once a.left a.h t (c.quiet_ticks-k.ensures ∙ ap (λ (m : ℕ). quiet_ticks m (view a.h t)) c.min.ensures) c.requires c.if-k-ne0.false w.result _ _ (told_as tick a.h t c.requires w.result _ w.ensures) (left_as tick a.h t c.requires w.result _ w.ensures) c.counted.ensures
