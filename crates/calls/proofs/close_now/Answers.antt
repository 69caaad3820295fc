use native.Mathlib.Omega.{arith}
use mathlib.Core.Path.{◌∙◌}
use Rattle.state.specs.View.{tables}
use Rattle.state.proofs.SoundLaws as S
use Rattle.calls.proofs.ActLaws as A
use Rattle.calls.proofs.close_now.Goals as goal

pub member_at-m-requires : goal.member_at-m-requires
member_at-m-requires c =
    let t = tables c.args.members.now c.args.places.now c.args.notices.now in
    omega (arith, A.close_below c.args.h t c.requires.0 c.args.c c.requires.1, S.members_size c.args.h t c.requires.0)

pub charge_time-requires : goal.charge_time-requires
charge_time-requires c =
    let t = tables c.args.members.now c.args.places.now c.args.notices.now in
    A.close_time c.args.h t c.requires.0 c.args.c c.requires.1

pub charge_over-requires : goal.charge_over-requires
charge_over-requires c =
    let t = tables c.args.members.now c.args.places.now c.args.notices.now in
    let m = c.member_at-m in
    (A.close_reads c.args.h t c.requires.0 c.args.c c.requires.1 m.result m.ensures).shape

pub free_member-requires : goal.free_member-requires
free_member-requires c =
    let t = tables c.args.members.now c.args.places.now c.args.notices.now in
    ((S.shapes t (S.formed_tables c.args.h t c.requires.0)).members_shape, A.close_below c.args.h t c.requires.0 c.args.c c.requires.1, A.close_open c.args.h t c.requires.0 c.args.c c.requires.1)

pub returns-then-charge_over : goal.returns-then-charge_over
returns-then-charge_over c =
    let t = tables c.args.members.now c.args.places.now c.args.notices.now in
    let m = c.member_at-m in
    A.close_frees c.args.h t c.requires.0 c.args.c c.requires.1 _ _ (A.close_over c.args.h t c.requires.0 c.args.c c.requires.1 m.result _ _ m.ensures c.charge_time.ensures c.charge_over.ensures ∙ c.if-charge_over.true) c.say.ensures c.free_member.ensures

pub mark_closed-requires : goal.mark_closed-requires
mark_closed-requires c =
    let t = tables c.args.members.now c.args.places.now c.args.notices.now in
    ((S.shapes t (S.formed_tables c.args.h t c.requires.0)).members_shape, A.close_below c.args.h t c.requires.0 c.args.c c.requires.1, A.close_open c.args.h t c.requires.0 c.args.c c.requires.1, A.close_fits c.args.h t c.requires.0 c.args.c c.requires.1)

pub returns : goal.returns
returns c =
    let t = tables c.args.members.now c.args.places.now c.args.notices.now in
    let m = c.member_at-m in
    A.close_charges c.args.h t c.requires.0 c.args.c c.requires.1 _ _ (A.close_over c.args.h t c.requires.0 c.args.c c.requires.1 m.result _ _ m.ensures c.charge_time.ensures c.charge_over.ensures ∙ c.if-charge_over.false) c.say-2.ensures c.mark_closed.ensures
