use Rattle.answers.proofs.WriteLaws.{length_written, room_written}
use mathlib.Core.Path.{◌∙◌}
use Rattle.steps.proofs.answered.Goals as goal

pub returns : goal.returns
returns c =
    let a = c.args in
    let h = c.requires in
    let w = c.write-wrote.ensures in
    (rw (w.0 ∙ length_written a.reply a.out.now h), w.1 ∙ room_written a.reply a.out.now h)
