use Rattle.connections.proofs.MemberLaws.{connections_length}
use Rattle.connections.proofs.OwnerLaws.{used_le}
use Rattle.connections.proofs.SweepLaws as S
use Rattle.connections.proofs.WrittenLaws as W
use native.Mathlib.Omega.{arith}
use mathlib.Core.Path.{◌∙◌}
use Prim.Native.Nat.{◌≤◌}
use Rattle.connections.specs.Members.{members_in, connections_in, used_by}
use Rattle.connections.proofs.closing.free_ended.Goals as goal

pub used-n-requires : goal.used-n-requires
used-n-requires c = W.members_long c.args.members.now c.requires.0

pub clear_each-requires : goal.clear_each-requires
clear_each-requires c =
    let t = c.args.members.now in
    (W.members_rows t c.requires.0, c.requires.1, omega (arith, c.used-n.ensures, W.used_is t c.requires.0), omega (arith, c.used-n.ensures, W.used_is t c.requires.0, used_le (connections_in t), connections_length t))

pub sum_up-requires : goal.sum_up-requires
sum_up-requires c =
    let a = c.args in
    let t = a.members.now in
    let f = W.members_rows t c.requires.0 in
    let n = c.used-n.result in
    let h : used_by (connections_in t) ≤ n = omega (arith, c.used-n.ensures, W.used_is t c.requires.0) in
    let r = c.clear_each.new.members in
    let e = c.clear_each.ensures in
    let m = S.left_members t f a.time a.clock c.requires.1 n h r e in
    (S.left_formed t f a.time a.clock c.requires.1 n h r e, S.in_order_left t r a.time a.clock m c.requires.1, omega (arith, S.used_left t r a.time a.clock m), omega (arith, c.used-n.ensures, W.used_is t c.requires.0, used_le (connections_in t), connections_length t))

pub returns : goal.returns
returns c =
    let a = c.args in
    let t = a.members.now in
    let n = c.used-n.result in
    let h : used_by (connections_in t) ≤ n = omega (arith, c.used-n.ensures, W.used_is t c.requires.0) in
    let r = c.clear_each.new.members in
    λ z stands.
    c.sum_up.ensures
    ∙ S.swept_written t a.time a.clock z stands (members_in r) (S.left_members t (W.members_rows t c.requires.0) a.time a.clock c.requires.1 n h r c.clear_each.ensures)
