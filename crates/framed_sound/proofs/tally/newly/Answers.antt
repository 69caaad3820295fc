use mathlib.Core.Path.{sym}
use Rattle.frames.proofs.Figures as F
use Rattle.framed_sound.proofs.tally.newly.Goals as goal

pub returns-then-p-clock : goal.returns-then-p-clock
returns-then-p-clock c = let a = c.args in sym (F.newly_no a.l a.clock a.p c.if-p-clock.true)

pub returns : goal.returns
returns c = let a = c.args in sym (F.newly_yes a.l a.clock a.p c.if-p-clock.false)
