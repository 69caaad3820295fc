use Rattle.connections.proofs.MemberLaws as M
use native.Mathlib.Omega.{arith}
use Rattle.connections.specs.Members.{figures_row}
use Rattle.connections.proofs.put_figures.Goals as goal

pub returns : goal.returns
returns c = let a = c.args in M.part_put _ _ a.members.now _ (figures_row a.x) c.copy_from_slice.ensures.after (omega arith) (omega arith)
