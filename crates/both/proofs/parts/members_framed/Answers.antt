use Rattle.both.proofs.TablesLaws.{not_framed, framed_by}
use Rattle.both.proofs.parts.members_framed.Goals as goal

pub returns-then-members-ne-MEMBERS : goal.returns-then-members-ne-MEMBERS
returns-then-members-ne-MEMBERS c = not_framed c.args.members.now c.if-members-ne-MEMBERS.true

pub returns : goal.returns
returns c = framed_by c.args.members.now c.if-members-ne-MEMBERS.false _ c.zero_from.ensures
