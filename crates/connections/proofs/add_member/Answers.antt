use Rattle.connections.proofs.WrittenLaws as W
use native.Mathlib.Omega.{arith}
use mathlib.Core.Path.{ap, ◌∙◌}
use Rattle.connections.specs.declared.Member.{Member}
use Rattle.connections.specs.Members.{put_member}
use Rattle.connections.proofs.MemberLaws as M
use borrow.Author.Rules.{rules}
use Rattle.connections.proofs.add_member.Goals as goal

pub put_member-requires : goal.put_member-requires
put_member-requires c = omega (arith, W.members_long c.args.members.now c.requires.members_value.0)

pub use_up_to-requires : goal.use_up_to-requires
use_up_to-requires c =
    (omega (arith, W.members_long c.args.members.now c.requires.members_value.0, c.put_member.auto.members), search rules)

pub returns : goal.returns
returns c =
    let a = c.args in
    c.use_up_to.ensures
    ∙ W.newcomer_put a.members.now c.requires.members_value.0 a.c c.requires.members_value.1 c.requires.members_value.2 c.requires.no_past_value.0 c.requires.no_past_value.1 a.x c.requires.members_value.3 _
    (c.put_member.ensures ∙ ap (λ (m : Member). put_member a.members.now a.c (record { figures = a.x; mark = m.mark; known = m.known; ticks = m.ticks })) (M.blank c.default.result (search rules) (search rules) (search rules) (search rules)))
