-- `traces::link::draft_windows` meets its contract: the numbers of an `LW` behind its mark, in their order.
use mathlib.Core.Path.{sym, ap, ◌∙◌}
use Prim.Native.Nat.{ℕ}
use mathlib.Core.List.{List, ◌∷◌}
use lib.ListN.{take, length, replicate}
use lib.Seq.{length-take-le}
use native.Mathlib.Omega.{arith}
use Rattle.fields.specs.Numbers.{little, put_fields, none_lost, sum}
use Rattle.fields.specs.Formats.{laid}
use Rattle.fields.proofs.MarkLaws.{both}
use Rattle.fields.proofs.NumberLaws.{length_put, sum_pairs}
use Rattle.traces.specs.Kinds.{LW}
use Rattle.traces.proofs.LinkLaws.{allowed_range, both_put, both_tested, levels_allowed, behind}
use borrow.Author.Rules.{rules}
use Rattle.traces.proofs.link.draft_windows.Goals as goal

pub returns-then-not-is_written : goal.returns-then-not-is_written
unfolding laid none_lost
returns-then-not-is_written c =
    let a = c.args in
    rw (c.empty.ensures, both_tested a.levels a.bounds.now a.windows.now (search rules), sym c.is_written.ensures ∙ c.if-not-is_written.true)

pub returns-then-not-is_written-2 : goal.returns-then-not-is_written-2
unfolding laid none_lost
returns-then-not-is_written-2 c =
    let a = c.args in
    rw (
      c.empty-then-not-is_written-2.ensures,
      both_tested a.levels a.bounds.now a.windows.now (search rules),
      sym c.is_written.ensures ∙ c.if-not-is_written.false,
      sym c.is_written-2.ensures ∙ c.if-not-is_written-2.true,
    )

pub pairs-requires : goal.pairs-requires
unfolding sum
pairs-requires c =
    let a = c.args in
    let n = a.levels in
    let few = (allowed_range n (both (levels_allowed n) _ (sym c.is_written.ensures ∙ c.if-not-is_written.false)).0).1 in
    let ws : List ℕ = 1 ∷ 2 ∷ 1 ∷ 1 ∷ replicate n 2 in
    let xs : List ℕ = n ∷ a.largest ∷ a.silence ∷ a.early ∷ take n a.bounds.now in
    omega (arith, ap length c.settled.ensures, length_put ws xs, sum_pairs n, length-take-le n a.windows.now (search rules))

pub returns : goal.returns
unfolding laid none_lost put_fields
returns c =
    let a = c.args in
    let n = a.levels in
    let yes = sym c.is_written.ensures ∙ c.if-not-is_written.false in
    let few = (allowed_range n (both (levels_allowed n) _ yes).0).1 in
    rw (
      both_tested n a.bounds.now a.windows.now (search rules),
      yes,
      sym c.is_written-2.ensures ∙ c.if-not-is_written-2.false,
      both_put n a.bounds.now a.windows.now (search rules) (search rules) few,
      c.pairs.ensures,
      c.settled.ensures,
      length-take-le n a.windows.now (search rules),
    )
    (behind LW.mark (little 1 n) (little 2 a.largest) (little 1 a.silence) (little 1 a.early) _ _)
