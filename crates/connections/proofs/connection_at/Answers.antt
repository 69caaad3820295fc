use Rattle.connections.proofs.MemberLaws as M
use mathlib.Core.Path.{sym, ◌∙◌}
use borrow.Author.Rules.{rules}
use Rattle.connections.proofs.connection_at.Goals as goal

pub returns : goal.returns
returns c = let a = c.args in c.figures_at.ensures ∙ sym (M.connection_is a.members.now a.i (search rules))
