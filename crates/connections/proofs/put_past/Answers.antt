use Rattle.connections.proofs.WrittenLaws as W
use native.Mathlib.Omega.{arith}
use mathlib.Core.Path.{sym, ap, subst, ◌∙◌}
use mathlib.Core.Bool.{true}
use mathlib.Core.Path.{◌≡◌}
use Rattle.rules.specs.Model.{Past}
use Rattle.rules.specs.Service.{remember}
use Rattle.connections.specs.Members.{put_member, member_formed}
use Rattle.connections.specs.declared.Member.{Member}
use borrow.Author.Rules.{rules}
use Rattle.connections.proofs.put_past.Goals as goal

pub member_at-m-requires : goal.member_at-m-requires
member_at-m-requires c = omega (arith, W.rows_length c.args.members.now c.requires.0)

pub remembering-requires : goal.remembering-requires
remembering-requires c = let a = c.args in subst (λ (m : Member). member_formed m ≡ true) (sym c.member_at-m.ensures) (W.member_formed_at a.members.now (search rules) a.c (search rules))

pub put_member-requires : goal.put_member-requires
put_member-requires c = omega (arith, W.rows_length c.args.members.now c.requires.0)

pub returns : goal.returns
returns c =
    let a = c.args in
    c.put_member.ensures
    ∙ ap (put_member a.members.now a.c) c.remembering.ensures
    ∙ W.past_put a.members.now (search rules) a.c (search rules) _ c.member_at-m.ensures (λ (h : Past). remember h a.e)
