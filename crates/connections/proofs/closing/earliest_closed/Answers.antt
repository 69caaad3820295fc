use Rattle.connections.proofs.ClosingLaws.{less_of, earlier_le, first_among, first_behind, first_step}
use Rattle.connections.proofs.WrittenLaws.{rows_length}
use Rattle.rules.proofs.Sums.{cond_is}
use borrow.Author.Tests.{eq-eqb, ne_eqb}
use native.Mathlib.Omega.{arith}
use native.Mathlib.Numerals.{add-one}
use mathlib.Core.Path.{◌≡◌, refl, sym, ap, ◌∙◌}
use Prim.Native.Nat.{ℕ, suc, ◌-◌}
use lib.ListN.{drop}
use Rattle.connections.specs.Members.{members_in, earlier}
use Rattle.connections.specs.Closing.{one_more}
use Rattle.connections.proofs.closing.earliest_closed.Goals as goal

pub loop-k-init : goal.loop-k-init
loop-k-init c = (sym (first_behind c.args.members.now c.args.n c.requires.1), c.requires.2)

pub number-requires : goal.number-requires
number-requires c = let e = rows_length c.args.members.now c.requires.0 in (omega arith, omega arith)

pub number-requires-then-number-ne0 : goal.number-requires-then-number-ne0
number-requires-then-number-ne0 c = let e = rows_length c.args.members.now c.requires.0 in (omega arith, omega arith)

pub loop-k-preserved-then-number-ne0 : goal.loop-k-preserved-then-number-ne0
loop-k-preserved-then-number-ne0 c =
    let t = c.args.members.now in
    let k = c.loop-k.k in
    let first = one_more c.loop-k.first in
    let last = c.number-then-number-ne0.result in
    let e : k ≡ suc (k - 1) = omega arith in (
      omega (arith, c.earlier.ensures, ap (λ (n : ℕ). earlier n first) (add-one last), (earlier_le last first).0)
          ∙ sym (cond_is first (earlier (suc last) first) (ne_eqb c.number.result 0 c.if-number-ne0.true))
          ∙ first_step t c.requires.0 (k - 1) _ _ _ (omega arith) c.number.ensures c.number-then-number-ne0.ensures
          (c.loop-k.invariant.0 ∙ ap (λ (j : ℕ). first_among (drop j (members_in t))) e),
      omega arith,
    )

pub loop-k-preserved : goal.loop-k-preserved
loop-k-preserved c =
    let t = c.args.members.now in
    let k = c.loop-k.k in
    let first = one_more c.loop-k.first in
    let e : k ≡ suc (k - 1) = omega arith in (
      sym (cond_is first (earlier (suc _) first) (eq-eqb c.number.result 0 (omega (arith, c.if-number-ne0.false))))
          ∙ first_step t c.requires.0 (k - 1) _ _ _ (omega arith) c.number.ensures refl
          (c.loop-k.invariant.0 ∙ ap (λ (j : ℕ). first_among (drop j (members_in t))) e),
      omega arith,
    )

pub returns : goal.returns
returns c =
    let t = c.args.members.now in
    let k = c.loop-k.k in
    let e : k ≡ 0 = omega arith in
    less_of c.loop-k.first _ (c.loop-k.invariant.0 ∙ ap (λ (j : ℕ). first_among (drop j (members_in t))) e)
