use Rattle.steps.specs.Tie.{lent}
use mathlib.Core.Path.{refl, sym, ◌∙◌}
use Rattle.both.proofs.QuietLaws.{quiet_fits}
use Rattle.steps.proofs.CallLaws.{did_all, did_quiet, did_one}
use Rattle.steps.proofs.ticking.tick_step.Goals as goal

pub returns-then-left-eq0 : goal.returns-then-left-eq0
returns-then-left-eq0 c =
    let a = c.args in
    let k = c.answered.ensures in
    let v = c.all_done_verdict in
    record { makes = did_all a.at a.asked a.left a.h (lent a.t.now) c.requires.0 c.if-left-eq0.true v.result _ _ _ v.ensures k.0 k.1; same_slices = (refl, refl, refl, refl, refl, refl) }

pub pass_over-requires : goal.pass_over-requires
pass_over-requires c =
    let a = c.args in
    quiet_fits a.left a.h (lent a.t.now) c.quiet_left-k.ensures c.if-k-ne0.true

pub returns-then-k-ne0 : goal.returns-then-k-ne0
returns-then-k-ne0 c =
    let a = c.args in
    let w = c.quiet_left-k in
    record { makes = did_quiet a.at a.asked a.left a.h (lent a.t.now) c.requires.0 c.if-left-eq0.false w.result w.ensures c.if-k-ne0.true _ _ (c.pass_over.ensures (lent a.t.now)); same_slices = (refl, refl, refl, refl, refl, refl) }

pub returns : goal.returns
returns c =
    let a = c.args in
    let w = c.quiet_left-k in
    record { makes = did_one a.at a.asked a.left a.h (lent a.t.now) c.requires.0 c.if-left-eq0.false (sym w.ensures ∙ c.if-k-ne0.false) _ _ _ _ c.one_tick.ensures.makes; same_slices = c.one_tick.ensures.same_slices }
