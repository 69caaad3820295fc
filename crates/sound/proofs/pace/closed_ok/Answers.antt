use Rattle.sound.proofs.PaceLaws as L
use Rattle.connections.proofs.WrittenLaws as W
use Rattle.connections.proofs.MemberLaws as M
use native.Mathlib.Omega.{arith}
use mathlib.Core.Path.{sym, ap, ◌∙◌}
use Rattle.connections.specs.Members.{member_formed}
use Rattle.connections.specs.Rows.{past_of}
use borrow.Author.Rules.{rules}
use Rattle.sound.proofs.pace.closed_ok.Goals as goal

pub number-requires : goal.number-requires
number-requires c = (omega (arith, W.rows_length c.args.members.now c.requires.0, c.requires.1), omega arith)

pub returns-then-number-eq0 : goal.returns-then-number-eq0
returns-then-number-eq0 c = L.not_closed c.args.h c.args.members.now c.args.c c.args.n c.requires.1 _ c.number.ensures c.if-number-eq0.true

pub returns-then-n-ne0 : goal.returns-then-n-ne0
returns-then-n-ne0 c = L.holds_one c.args.h c.args.members.now c.args.c c.args.n c.requires.1 _ c.number.ensures c.if-number-eq0.false c.if-n-ne0.true

pub charge_time-time-requires : goal.charge_time-time-requires
charge_time-time-requires c = c.requires.2

pub member_at-requires : goal.member_at-requires
member_at-requires c = omega (arith, W.rows_length c.args.members.now c.requires.0, c.requires.1)

pub charge_over-requires : goal.charge_over-requires
charge_over-requires c = ap member_formed c.member_at.ensures ∙ W.member_formed_at c.args.members.now c.requires.0 c.args.c c.requires.1

pub returns : goal.returns
returns c =
    let old = ap past_of c.member_at.ensures ∙ sym (M.past_is c.args.members.now c.args.c c.requires.1) in
    L.charged_by c.args.h c.args.members.now c.args.c c.args.n c.requires.1 _ c.number.ensures c.if-number-eq0.false (search rules) _ c.charge_time-time.ensures _ old _ c.charge_over.ensures
