use Rattle.connections.proofs.MemberLaws.{rows_written}
use Rattle.connections.proofs.SweepLaws as S
use Rattle.connections.proofs.WrittenLaws as W
use native.Mathlib.Numerals.{add-one}
use native.Mathlib.Omega.{arith}
use mathlib.Core.Bool.{true}
use mathlib.Core.List.{List}
use mathlib.Core.Path.{◌≡◌, sym, ap, subst, ◌∙◌}
use Prim.Native.Nat.{ℕ}
use lib.ListN.{get_or, set}
use Rattle.connections.specs.Closing.{freed}
use Rattle.connections.specs.Members.{no_member, members_in, used_in, first_in, written_rows, rows_formed}
use Rattle.connections.proofs.closing.clear_each.Goals as goal

pub loop-i-init : goal.loop-i-init
loop-i-init c = (rows_written c.args.members.now (W.rows_length c.args.members.now c.requires.0), omega arith)

pub clear_ended-requires : goal.clear_ended-requires
clear_ended-requires c =
    (subst (λ (l : List ℕ). rows_formed l ≡ true) (sym c.loop-i.invariant.0) (S.rows_freed_formed c.args.members.now c.requires.0 c.args.time c.args.clock c.loop-i.i), omega arith)

pub loop-i-preserved : goal.loop-i-preserved
loop-i-preserved c =
    let a = c.args in
    let i = c.loop-i.i in (
      c.clear_ended.ensures
          ∙ ap (λ (l : List ℕ). written_rows (set (members_in l) i (freed a.time a.clock (get_or (members_in l) i no_member))) (used_in l) (first_in l)) c.loop-i.invariant.0
          ∙ S.rows_freed_next a.members.now c.requires.0 a.time a.clock i
          ∙ ap (S.rows_freed a.members.now a.time a.clock) (sym (add-one i)),
      omega arith,
    )

pub returns : goal.returns
returns c =
    let a = c.args in
    let e : c.loop-i.i ≡ a.n = omega arith in
    c.loop-i.invariant.0
    ∙ ap (S.rows_freed a.members.now a.time a.clock) e
    ∙ S.all_rows_freed a.members.now c.requires.0 a.time a.clock c.requires.1 a.n c.requires.2
