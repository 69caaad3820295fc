use Rattle.firmware.proofs.LaidLaws as L
use Prim.Native.Nat.{ℕ, ◌≤◌, ◌<◌}
use native.Mathlib.Omega.{arith}
use mathlib.Core.Path.{◌≡◌, sym, ap, ◌∙◌, subst}
use Rattle.rules.specs.declared.Connection.{Connection}
use Rattle.rules.specs.Limits.{max_connections}
use Rattle.firmware.specs.Questions.{row_asked}
use Rattle.firmware.specs.Laid.{laid_out}
use Rattle.firmware.proofs.lay_out.Goals as goal

pub loop-i-init : goal.loop-i-init
loop-i-init c = record { laid = c.requires.3 }

pub add_member-requires : goal.add_member-requires
add_member-requires c =
    let k = c.loop-i in
    let rows = c.args.rows.now in
    let few : k.i ≤ max_connections = omega arith in
    let more : k.i < max_connections = omega arith in
    let levelled : (j : ℕ) → j < k.i → 1 ≤ (row_asked rows j).level = λ j h. c.requires.2 j (omega arith) in
    let x = c.row_asked-x in
    let level : 1 ≤ x.result.level = subst (λ (y : Connection). 1 ≤ y.level) (sym x.ensures) (c.requires.2 k.i (omega arith)) in record { members_value = (L.formed_laid rows k.i few _ k.invariant.laid, L.next_free rows k.i few _ k.invariant.laid more levelled, more, level); no_past_value = (L.next_past rows k.i few _ k.invariant.laid more levelled, L.next_mark rows k.i few _ k.invariant.laid more levelled) }

pub loop-i-preserved : goal.loop-i-preserved
loop-i-preserved c =
    let k = c.loop-i in
    let rows = c.args.rows.now in
    let few : k.i ≤ max_connections = omega arith in
    let more : k.i < max_connections = omega arith in
    let levelled : (j : ℕ) → j < k.i → 1 ≤ (row_asked rows j).level = λ j h. c.requires.2 j (omega arith) in
    let x = c.row_asked-x in
    record { laid = c.add_member.ensures ∙ L.next_laid rows k.i few _ k.invariant.laid more levelled x.result x.ensures }

pub shape_of-members : goal.shape_of-members
shape_of-members c =
    let k = c.loop-i in
    let rows = c.args.rows.now in
    let few : k.i ≤ max_connections = omega arith in
    let before = L.length_laid rows 0 (omega arith) _ c.requires.3 in
    let after = L.length_laid rows k.i few _ k.invariant.laid in
    omega (arith, before, after)

pub returns : goal.returns
returns c =
    let a = c.args in
    let e : c.loop-i.i ≡ a.n = omega arith in
    c.loop-i.invariant.laid ∙ ap (λ (j : ℕ). laid_out j a.rows.now) e
