use Rattle.sound.proofs.PaceLaws as L
use Rattle.connections.proofs.WrittenLaws as W
use native.Mathlib.Omega.{arith}
use Rattle.state.specs.View.{tables}
use mathlib.Core.Path.{ap}
use mathlib.Core.Bool.{not}
use Rattle.sound.proofs.pace.queues_ok.Goals as goal

pub copy_from_slice-requires : goal.copy_from_slice-requires
copy_from_slice-requires c = omega (arith, W.rows_length c.args.members.now c.requires.members_value.0)

pub forget_rows-requires : goal.forget_rows-requires
forget_rows-requires c = rw (c.copy_from_slice.ensures.after) (c.requires.members_value.0, c.requires.seen_value.size)

pub each_left_ok-requires : goal.each_left_ok-requires
each_left_ok-requires c =
    let a = c.args in
    let whole = c.copy_from_slice.ensures.after in
    let kept = L.forgotten_of a.members.now _ _ a.seen.now whole c.forget_rows.ensures in
    (kept.shape, c.requires.seen_value.size, L.within_same a.h.link _ _ _ kept c.requires.members_value.2)

pub returns-then-not-each_left_ok : goal.returns-then-not-each_left_ok
returns-then-not-each_left_ok c =
    let a = c.args in
    let whole = c.copy_from_slice.ensures.after in
    let kept = L.forgotten_of a.members.now _ _ a.seen.now whole c.forget_rows.ensures in
    λ q. L.left_ends a.h (tables a.members.now a.places.table.now q) c.requires.members_value.1 a.seen.now c.requires.seen_value c.requires.members_value.0 _ kept _ c.each_left_ok.ensures (ap not c.if-not-each_left_ok.true)

pub scan-requires : goal.scan-requires
scan-requires c =
    let a = c.args in
    let whole = c.copy_from_slice.ensures.after in
    let kept = L.forgotten_of a.members.now _ _ a.seen.now whole c.forget_rows.ensures in
    (kept.shape, L.names_same _ _ a.places.table.now _ kept c.requires.members_value.1, L.within_same a.h.link _ _ _ kept c.requires.members_value.2)

pub returns-then-not-scan : goal.returns-then-not-scan
returns-then-not-scan c =
    let a = c.args in
    let whole = c.copy_from_slice.ensures.after in
    let kept = L.forgotten_of a.members.now _ _ a.seen.now whole c.forget_rows.ensures in
    λ q. L.pass_ends a.h (tables a.members.now a.places.table.now q) c.requires.members_value.1 a.seen.now c.requires.seen_value c.requires.members_value.0 _ kept _ c.each_left_ok.ensures (ap not c.if-not-each_left_ok.false) _ c.scan.ensures.value (ap not c.if-not-scan.true)

pub returns : goal.returns
returns c =
    let a = c.args in
    let whole = c.copy_from_slice.ensures.after in
    let kept = L.forgotten_of a.members.now _ _ a.seen.now whole c.forget_rows.ensures in
    λ q. L.memory_ends a.h (tables a.members.now a.places.table.now q) c.requires.members_value.1 a.seen.now c.requires.seen_value c.requires.members_value.0 _ kept _ c.each_left_ok.ensures (ap not c.if-not-each_left_ok.false) _ c.scan.ensures.value (ap not c.if-not-scan.false) _ (c.scan.ensures.remembers (c.if-not-scan.false)) _ c.same.ensures
