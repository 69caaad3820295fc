use Rattle.steps.specs.Tie.{lent}
use Rattle.both.specs.View.{view}
use Rattle.steps.specs.declared.Phase.TheVariants.{Reading, Finished}
use Rattle.steps.specs.declared.Status.TheVariants.{MoreBytes, Done}
use Rattle.steps.proofs.CallLaws.{did_kept}
use Rattle.steps.proofs.FactLaws.{next_end, next_more, next_found}
use mathlib.Core.Path.{refl, sym, ◌∙◌}
use mathlib.Core.List.{[]}
use Rattle.steps.proofs.reading.read_step.Goals as goal

pub returns-then-ends : goal.returns-then-ends
returns-then-ends c =
    let a = c.args in
    let w = c.waits in
    let e = sym c.ends.ensures ∙ c.if-ends.true in
    record {
      makes = rw (next_end a.at (view a.h (lent a.t.now)) a.window.now a.last e)
          (did_kept a.h (lent a.t.now) c.requires.0 a.at Finished 0 [] Done w.result _ _ w.ensures refl);
      same_slices = (refl, refl, refl, refl, refl, refl);
    }

pub returns-then-lacks : goal.returns-then-lacks
returns-then-lacks c =
    let a = c.args in
    let w = c.waits-then-lacks in
    let v = view a.h (lent a.t.now) in
    let e = sym c.lacks.ensures ∙ c.if-lacks.true in
    record {
      makes = rw (next_more a.at v a.window.now a.last e)
          (did_kept a.h (lent a.t.now) c.requires.0 a.at Reading 0 [] MoreBytes w.result _ _ w.ensures refl);
      same_slices = (refl, refl, refl, refl, refl, refl);
    }

pub returns-in-Some : goal.returns-in-Some
returns-in-Some c =
    let a = c.args in
    let s = view a.h (lent a.t.now) in
    record {
      makes = rw (
        next_found a.at s a.window.now a.last (sym c.ends.ensures ∙ c.if-ends.false) (sym c.lacks.ensures ∙ c.if-lacks.false),
        sym c.read_at.ensures.0 ∙ c.in-Some.is,
      )
          c.record_step.ensures.makes;
      same_slices = c.record_step.ensures.same_slices;
    }

pub returns-in-None : goal.returns-in-None
returns-in-None c =
    let a = c.args in
    let t = lent a.t.now in
    let k = c.broken_step in
    record {
      makes = rw (
        next_found a.at (view a.h t) a.window.now a.last (sym c.ends.ensures ∙ c.if-ends.false) (sym c.lacks.ensures ∙ c.if-lacks.false),
        sym c.read_at.ensures.0 ∙ c.in-None.is,
      )
          (did_kept a.h t c.requires.0 a.at Finished 0 _ Done k.result _ _ k.ensures.0 k.ensures.1);
      same_slices = (refl, refl, refl, refl, refl, refl);
    }
