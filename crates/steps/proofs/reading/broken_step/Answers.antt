use Rattle.answers.proofs.WriteLaws.{length_written, room_written}
use mathlib.Core.Path.{◌∙◌}
use Rattle.answers.specs.declared.Reply.TheVariants.{Broken}
use Rattle.steps.proofs.reading.broken_step.Goals as goal

pub returns : goal.returns
returns c =
    let a = c.args in
    let w = c.write-wrote.ensures in
    (rw (w.0 ∙ length_written (Broken a.at) a.out.now c.requires), w.1 ∙ room_written (Broken a.at) a.out.now c.requires)
