use Rattle.connections.proofs.MemberLaws as M
use mathlib.Core.Path.{◌∙◌}
use Rattle.connections.proofs.ticks_at.Goals as goal

pub returns : goal.returns
returns c = let a = c.args in c.copy_from_slice.ensures.after ∙ M.ticks_read a.members.now a.i c.requires
