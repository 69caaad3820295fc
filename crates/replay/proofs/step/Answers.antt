use mathlib.Core.Path.{refl, sym, ◌∙◌}
use Rattle.steps.specs.Tie.{lent, point_of}
use Rattle.steps.proofs.FactLaws.{one_step}
use Rattle.replay.proofs.Standing.{may_go, does_nothing, does_all}
use Rattle.replay.proofs.step.Goals as goal

pub returns-in-Some : goal.returns-in-Some
returns-in-Some c =
    let a = c.args in
    record { steps = does_nothing a.c (lent a.t.now) a.out.now _ _ (sym c.in-Some.is ∙ c.refused.ensures); same_slices = (refl, refl, refl, refl, refl, refl) }

pub step_tested-requires : goal.step_tested-requires
step_tested-requires c =
    let a = c.args in
    may_go a.c (lent a.t.now) a.out.now (sym c.in-None.is ∙ c.refused.ensures)

pub returns-in-None : goal.returns-in-None
returns-in-None c =
    let a = c.args in
    let s = c.step_tested.ensures in
    record {
      steps = does_all a.c (lent a.t.now) a.out.now _ _ _ _ (sym c.in-None.is ∙ c.refused.ensures)
          (rw (one_step (point_of a.c (lent a.t.now)) a.window.now a.last) s.makes);
      same_slices = s.same_slices;
    }
