use Rattle.std.proofs.Common.{ap, ◌∙◌, arith}
use Rattle.connections.specs.Members.{member_formed}
use Rattle.sound.proofs.row_formed.Goals as goal

pub member_at-requires : goal.member_at-requires
member_at-requires c = omega (arith, c.requires.0, c.requires.1)

pub returns : goal.returns
returns c = c.member_formed.ensures ∙ ap member_formed c.member_at.ensures
