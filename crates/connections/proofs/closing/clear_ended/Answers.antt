use Rattle.connections.proofs.MemberLaws as M
use Rattle.connections.proofs.SweepLaws as S
use Rattle.connections.proofs.WrittenLaws as W
use native.Mathlib.Omega.{arith}
use mathlib.Core.Bool.{true}
use mathlib.Core.Path.{◌≡◌, sym, ap, subst, ◌∙◌}
use Rattle.rules.specs.Service.{charge_over}
use Rattle.connections.specs.Members.{put_member, member_formed}
use Rattle.connections.specs.Rows.{past_of}
use Rattle.connections.specs.declared.Member.{Member}
use borrow.Author.Rules.{rules}
use Rattle.connections.proofs.closing.clear_ended.Goals as goal

pub number-requires : goal.number-requires
number-requires c = omega (arith, W.rows_length c.args.members.now c.requires.0)

pub returns-then-number-eq0 : goal.returns-then-number-eq0
returns-then-number-eq0 c =
    let t = c.args.members.now in
    S.row_stays t c.requires.0 c.args.time c.args.clock c.args.i c.requires.1 (S.open_stays t c.args.time c.args.clock c.args.i (sym c.number.ensures ∙ c.if-number-eq0.true))

pub member_at-requires : goal.member_at-requires
member_at-requires c = omega (arith, W.rows_length c.args.members.now c.requires.0)

pub charge_over-requires : goal.charge_over-requires
charge_over-requires c =
    subst (λ (m : Member). member_formed m ≡ true) (sym c.member_at.ensures) (W.member_formed_at c.args.members.now c.requires.0 c.args.i c.requires.1)

pub put_member-requires : goal.put_member-requires
put_member-requires c = omega (arith, W.rows_length c.args.members.now c.requires.0)

pub returns-then-charge_over : goal.returns-then-charge_over
returns-then-charge_over c =
    let t = c.args.members.now in
    let e = S.ended_by_charge t c.args.time c.args.clock c.args.i (λ z. c.if-number-eq0.false (c.number.ensures ∙ z)) in
    c.put_member.ensures
    ∙ ap (put_member t c.args.i) (M.blank c.default.result (search rules) (search rules) (search rules) (search rules))
    ∙ S.row_goes t c.requires.0 c.args.time c.args.clock c.args.i c.requires.1
    (e ∙ ap (λ (m : Member). charge_over c.args.time c.args.clock (past_of m)) (sym c.member_at.ensures) ∙ sym c.charge_over.ensures ∙ c.if-charge_over.true)

pub returns-else-charge_over : goal.returns-else-charge_over
returns-else-charge_over c =
    let t = c.args.members.now in
    let e = S.ended_by_charge t c.args.time c.args.clock c.args.i (λ z. c.if-number-eq0.false (c.number.ensures ∙ z)) in
    S.row_stays t c.requires.0 c.args.time c.args.clock c.args.i c.requires.1
    (e ∙ ap (λ (m : Member). charge_over c.args.time c.args.clock (past_of m)) (sym c.member_at.ensures) ∙ sym c.charge_over.ensures ∙ c.if-charge_over.false)
