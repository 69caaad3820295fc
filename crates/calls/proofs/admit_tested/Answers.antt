use native.Mathlib.Omega.{arith}
use mathlib.Core.Path.{sym, ◌∙◌}
use Rattle.state.specs.View.{tables}
use Rattle.state.proofs.SoundLaws as S
use Rattle.connections.proofs.WrittenLaws.{used_is}
use Rattle.calls.proofs.ActLaws as A
use Rattle.calls.proofs.admit_tested.Goals as goal

pub used-n-requires : goal.used-n-requires
used-n-requires c =
    let t = tables c.args.members.now c.args.places.now c.args.notices.now in
    S.members_size c.args.h t c.requires

pub free_number-c-requires : goal.free_number-c-requires
free_number-c-requires c =
    let t = tables c.args.members.now c.args.places.now c.args.notices.now in
    (S.members_size c.args.h t c.requires, c.used-n.ensures ∙ used_is c.args.members.now (S.shapes t (S.formed_tables c.args.h t c.requires)).members_shape)

pub admit_verdict-requires : goal.admit_verdict-requires
admit_verdict-requires c =
    let t = tables c.args.members.now c.args.places.now c.args.notices.now in
    (c.requires, c.used-n.ensures, c.free_number-c.ensures)

pub returns-in-Err : goal.returns-in-Err
returns-in-Err c =
    let t = tables c.args.members.now c.args.places.now c.args.notices.now in
    A.admit_refuses c.args.h t c.requires c.args.x c.in-Err.why _ _ _ c.in-Err.ensures.number c.in-Err.ensures.over c.number.ensures c.short.ensures c.say.ensures

pub add_member-requires : goal.add_member-requires
add_member-requires c =
    let t = tables c.args.members.now c.args.places.now c.args.notices.now in
    let k = c.free_number-c in
    let g = sym c.in_default.ensures.number in
    let b = A.admit_blank c.args.h t c.requires c.args.x g k.result k.ensures in
    record { members_value = ((S.shapes t (S.formed_tables c.args.h t c.requires)).members_shape, k.ensures, A.admit_room c.args.h t c.args.x k.result g k.ensures, A.admit_level c.args.h t c.requires c.args.x g); no_past_value = (b.1, b.2) }

pub overflow_cast-c : goal.overflow_cast-c
overflow_cast-c c =
    let t = tables c.args.members.now c.args.places.now c.args.notices.now in
    let k = c.free_number-c in
    omega (arith, A.admit_room c.args.h t c.args.x k.result (sym c.in_default.ensures.number) k.ensures)

pub returns : goal.returns
returns c =
    let t = tables c.args.members.now c.args.places.now c.args.notices.now in
    let k = c.free_number-c in
    A.admit_acts c.args.h t c.requires c.args.x _ k.result _ (sym c.in_default.ensures.number) k.ensures c.say-2.ensures c.add_member.ensures
