use native.Mathlib.Omega.{arith}
use mathlib.Core.Path.{refl, sym, ◌∙◌}
use Prim.Native.Nat.{◌<◌, ◌+◌, ◌^◌}
use borrow.Author.Rules.{rules}
use lib.ListN.{length}
use Rattle.rules.proofs.Tests.{never}
use Rattle.steps.specs.Tie.{lent, point_of}
use Rattle.steps.proofs.LentLaws.{same_onward}
use Rattle.replay.proofs.RunLaws.{step_fits, go_false, made_none, made_sound, made_more, made_on, run_stopped}
use Rattle.replay.proofs.run.Goals as goal
use Rattle.replay.proofs.run.Goals.{in-GoOn, in_default}

pub loop-i-init : goal.loop-i-init
loop-i-init c =
    let a = c.args in
    (refl, (refl, refl, refl, refl, refl, refl), made_none a.c (lent a.t.now) a.window.now a.last a.out.now c.requires.0)

pub step_at-s-requires : goal.step_at-s-requires
step_at-s-requires c =
    let a = c.args in
    let l = c.loop-i in
    let M = l.invariant.2 in (
      made_sound a.c (lent a.t.now) a.window.now a.last a.out.now c.requires.0 l.i _ _ _ _ _ _ M,
      M.in_window,
      omega (arith, M.in_room, M.same_room, c.loop-i-test.true),
    )

pub overflow_add-so_far : goal.overflow_add-so_far
overflow_add-so_far c =
    let l = c.loop-i in
    let s = c.step_at-s in
    let a = c.args in
    let b : length a.window.now < 2 ^ 64 = search rules in
    let f = (step_fits (point_of l.so_far.cursor (lent l.t)) a.window.now a.last l.so_far.used s.result _ l.so_far.wrote _ _ s.ensures.makes).0 in
    record { fits = omega (arith, b, f, l.invariant.2.in_window) }

pub returns-then-not-matches : goal.returns-then-not-matches
returns-then-not-matches c =
    let a = c.args in
    let l = c.loop-i in
    let s = c.step_at-s in
    let M = made_more a.c (lent a.t.now) a.window.now a.last a.out.now c.requires.0 l.i l.so_far.cursor (lent l.t) l.out l.so_far.used l.so_far.wrote l.invariant.2
    s.result (lent s.new.t) s.new.out s.ensures.makes (search rules) in
    let same = same_onward a.t.now l.t s.new.t s.ensures.same_slices l.invariant.1 in
    elim c.match-matches.branch [
      | in-GoOn w ↦ never (sym c.if-not-matches.true ∙ w.matches-is)
      | in_default w ↦ record { makes = run_stopped a.c (lent a.t.now) a.window.now a.last a.out.now c.requires.0 (l.i + 1) s.result.status _ _ _ _ _ M (go_false s.result.status w.in_default.not-GoOn) (omega (arith, c.loop-i-test.true)); same_slices = same }
    ]

pub loop-i-preserved : goal.loop-i-preserved
loop-i-preserved c =
    let a = c.args in
    let l = c.loop-i in
    let s = c.step_at-s in
    let M = made_more a.c (lent a.t.now) a.window.now a.last a.out.now c.requires.0 l.i l.so_far.cursor (lent l.t) l.out l.so_far.used l.so_far.wrote l.invariant.2
    s.result (lent s.new.t) s.new.out s.ensures.makes (search rules) in
    let same = same_onward a.t.now l.t s.new.t s.ensures.same_slices l.invariant.1 in
    elim c.match-matches.branch [
      | in-GoOn w ↦ (w.in-GoOn.is, same, made_on a.c (lent a.t.now) a.window.now a.last a.out.now c.requires.0 (l.i + 1) s.result.status _ _ _ _ _ M w.in-GoOn.is)
      | in_default w ↦ never (sym w.matches-is ∙ c.if-not-matches.false)
    ]
