use native.Mathlib.Omega.{arith}
use mathlib.Core.Path.{◌≡◌, sym, subst}
use mathlib.Core.Bool.{true}
use Rattle.connections.specs.declared.Member.{Member}
use Rattle.connections.specs.Members.{member_formed}
use Rattle.connections.proofs.WrittenLaws.{rows_length, member_formed_at, formed_parts}
use Rattle.calls.proofs.VerdictLaws as W
use Rattle.calls.proofs.verdicts.untimely.Goals as goal

pub member_at-m-requires : goal.member_at-m-requires
member_at-m-requires c = omega (arith, c.requires.1, rows_length c.args.members.now c.requires.0)

pub untimely-requires : goal.untimely-requires
untimely-requires c =
    (formed_parts c.member_at-m.result (subst (λ (m : Member). member_formed m ≡ true) (sym c.member_at-m.ensures) (member_formed_at c.args.members.now c.requires.0 c.args.c c.requires.1))).known_le

pub returns-in-Some : goal.returns-in-Some
returns-in-Some c =
    let a = c.args in
    W.untimely_with a.members.now a.c a.clock c.in-Some.at a.stamp c.in-Some.is c.requires.1 c.member_at-m.result c.member_at-m.ensures c.untimely.result c.untimely.ensures
