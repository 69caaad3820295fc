use Prim.Native.Nat.{ℕ}
use mathlib.Core.List.{List}
use Rattle.steps.specs.Steps.{next}
use Rattle.steps.specs.Tie.{lent, point_of}
use Rattle.replay.proofs.RunLaws.{on_parts}
use Rattle.replay.proofs.step_at.Goals as goal

pub returns : goal.returns
returns c =
    let a = c.args in
    let k = c.step_tested in
    record { makes = on_parts (λ (w : List ℕ). next (point_of a.c (lent a.t.now)) w a.last) a.window.now a.out.now a.used a.wrote k.result _ _ k.ensures.makes; same_slices = k.ensures.same_slices }
