use Rattle.steps.specs.Tie.{lent}
use Rattle.steps.specs.declared.Phase.TheVariants.{Finished}
use Rattle.steps.specs.declared.Status.TheVariants.{Done}
use Rattle.steps.proofs.CallLaws.{did_kept}
use Rattle.steps.proofs.FactLaws.{next_phase}
use mathlib.Core.Path.{refl}
use mathlib.Core.List.{[]}
use Rattle.steps.proofs.step_tested.Goals as goal

pub returns-in-Reading : goal.returns-in-Reading
returns-in-Reading c =
    let a = c.args in
    let k = c.read_step.ensures in
    record { makes = rw (next_phase a.c (lent a.t.now) a.window.now a.last c.in-Reading.is) k.makes; same_slices = k.same_slices }

pub returns-in-Ticking : goal.returns-in-Ticking
returns-in-Ticking c =
    let a = c.args in
    let k = c.tick_step.ensures in
    record { makes = rw (next_phase a.c (lent a.t.now) a.window.now a.last c.in-Ticking.is) k.makes; same_slices = k.same_slices }

pub returns-in-Finished : goal.returns-in-Finished
returns-in-Finished c =
    let a = c.args in
    let w = c.waits in
    record {
      makes = rw (next_phase a.c (lent a.t.now) a.window.now a.last c.in-Finished.is)
          (did_kept a.c.line (lent a.t.now) c.requires.0 a.c.at Finished 0 [] Done w.result _ _ w.ensures refl);
      same_slices = (refl, refl, refl, refl, refl, refl);
    }
