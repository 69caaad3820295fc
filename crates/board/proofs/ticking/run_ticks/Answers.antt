use mathlib.Core.Path.{◌≡◌, refl, sym, ap, ◌∙◌}
use mathlib.Core.Bool.{Bool, not, ◌||◌}
use lib.Dec.{eqb}
use lib.ListN.{length}
use borrow.Author.Rules.{rules}
use Rattle.tables.specs.Lent.{tables}
use Rattle.both.specs.View.{view}
use Rattle.board.proofs.TickLaws.{none_asked, going_first, going_on, going_last, going_all, number_few, number_some, done_fits, left_less}
use Rattle.board.proofs.ticking.run_ticks.Goals as goal

pub returns-then-n-eq0 : goal.returns-then-n-eq0
returns-then-n-eq0 c =
    let a = c.args in
    let t = tables a.members.now a.places.now a.notices.now in
    none_asked a.n a.h t c.requires c.if-n-eq0.true _ c.resting.ensures _ c.say.ensures

pub loop-done-init : goal.loop-done-init
loop-done-init c =
    let a = c.args in
    let t = tables a.members.now a.places.now a.notices.now in
    (going_first a.n a.h t c.requires, refl, refl, refl)

pub stretch-told-requires : goal.stretch-told-requires
stretch-told-requires c = c.loop-done.invariant.0.sound

pub last_of-requires : goal.last_of-requires
last_of-requires c =
    let a = c.args in
    let t = tables a.members.now a.places.now a.notices.now in
    let l = c.loop-done in
    let i = c.loop-done-test in
    let w = c.stretch-told in
    let u = tables w.new.members w.new.places w.new.notices in
    done_fits a.n l.done w.result.number i.true (number_few a.n (view a.h t) l.line (tables l.members l.places l.notices) l.done l.invariant.0 i.true w.result u w.ensures) c.ranges.n.fits

pub shape_of-members-then-told-is_some : goal.shape_of-members-then-told-is_some
shape_of-members-then-told-is_some c =
    let l = c.loop-done in
    let i = c.loop-done-test in
    let w = c.stretch-told in
    let k : length w.new.members ≡ length l.members = search rules in
    let e = k ∙ l.invariant.1 in
    search rules

pub shape_of-places-then-told-is_some : goal.shape_of-places-then-told-is_some
shape_of-places-then-told-is_some c =
    let l = c.loop-done in
    let i = c.loop-done-test in
    let w = c.stretch-told in
    let k : length w.new.places ≡ length l.places = search rules in
    let e = k ∙ l.invariant.2 in
    search rules

pub shape_of-notices-then-told-is_some : goal.shape_of-notices-then-told-is_some
shape_of-notices-then-told-is_some c =
    let l = c.loop-done in
    let i = c.loop-done-test in
    let w = c.stretch-told in
    let k : length w.new.notices ≡ length l.notices = search rules in
    let e = k ∙ l.invariant.3 in
    search rules

pub returns-then-told-is_some : goal.returns-then-told-is_some
returns-then-told-is_some c =
    let a = c.args in
    let t = tables a.members.now a.places.now a.notices.now in
    let l = c.loop-done in
    let i = c.loop-done-test in
    let w = c.stretch-told in
    let u = tables w.new.members w.new.places w.new.notices in
    going_last a.n (view a.h t) l.line (tables l.members l.places l.notices) l.done l.invariant.0 i.true w.result u w.ensures (ap (λ (b : Bool). not (eqb w.result.verdict 0) || b) (sym c.is_some.ensures) ∙ c.if-told-is_some.true) _ c.last_of.ensures

pub overflow_add-done : goal.overflow_add-done
overflow_add-done c =
    let a = c.args in
    let t = tables a.members.now a.places.now a.notices.now in
    let l = c.loop-done in
    let i = c.loop-done-test in
    let w = c.stretch-told in
    let u = tables w.new.members w.new.places w.new.notices in
    record { fits = done_fits a.n l.done w.result.number i.true (number_few a.n (view a.h t) l.line (tables l.members l.places l.notices) l.done l.invariant.0 i.true w.result u w.ensures) c.ranges.n.fits }

pub loop-done-smaller : goal.loop-done-smaller
loop-done-smaller c =
    let a = c.args in
    let t = tables a.members.now a.places.now a.notices.now in
    let l = c.loop-done in
    let i = c.loop-done-test in
    let w = c.stretch-told in
    let u = tables w.new.members w.new.places w.new.notices in
    left_less a.n l.done w.result.number i.true (number_some a.n (view a.h t) l.line (tables l.members l.places l.notices) l.done l.invariant.0 i.true w.result u w.ensures (ap (λ (b : Bool). not (eqb w.result.verdict 0) || b) (sym c.is_some.ensures) ∙ c.if-told-is_some.false))

pub loop-done-preserved : goal.loop-done-preserved
loop-done-preserved c =
    let a = c.args in
    let t = tables a.members.now a.places.now a.notices.now in
    let l = c.loop-done in
    let i = c.loop-done-test in
    let w = c.stretch-told in
    let u = tables w.new.members w.new.places w.new.notices in
    let m : length w.new.members ≡ length l.members = search rules in
    let p : length w.new.places ≡ length l.places = search rules in
    let q : length w.new.notices ≡ length l.notices = search rules in
    (going_on a.n (view a.h t) l.line (tables l.members l.places l.notices) l.done l.invariant.0 i.true w.result u w.ensures (ap (λ (b : Bool). not (eqb w.result.verdict 0) || b) (sym c.is_some.ensures) ∙ c.if-told-is_some.false), m ∙ l.invariant.1, p ∙ l.invariant.2, q ∙ l.invariant.3)

pub returns : goal.returns
returns c =
    let a = c.args in
    let t = tables a.members.now a.places.now a.notices.now in
    let l = c.loop-done in
    going_all a.n (view a.h t) l.line (tables l.members l.places l.notices) l.done l.invariant.0 c.if-n-eq0.false c.loop-done-test.false _ c.say-2.ensures
