use Rattle.std.proofs.Common.{◌≡◌, sym, subst, List, ℕ, length, take, ◌≤◌, ◌/◌, true, false, arith}
use borrow.Author.Rules.{rules}
use borrow.Author.Tests.{tests}
use Rattle.std.proofs.lemmas.List.Sorted.{IsPartitionPoint-from_clause}
use Rattle.std.specs.List.Sorted.{IsPartitionedBy, IsPartitionPoint}
use Rattle.tables.proofs.RowsLaws as L
use Rattle.tables.proofs.count.Goals as goal

pub returns : goal.returns
returns c =
    let t = c.args.table.now in
    let h = c.reach.result in
    let inside : h ≤ length t / 5 = omega (arith, c.reach.ensures.1) in
    let front = c.as_chunks.ensures.front in
    let P : List (List ℕ) → Type 0 = λ xs. IsPartitionedBy L.is_used (take h xs) in
    let at = IsPartitionPoint-from_clause L.is_used (take h c.as_chunks.result.0.now) c.partition_point.result c.partition_point.ensures.partitioned (subst P (sym front) (L.parted t c.requires h inside c.reach.ensures.0)) (λ a r f k. search (rules, tests)) in
    let Q : List (List ℕ) → Type 0 = λ xs. IsPartitionPoint (λ y. L.is_used y ≡ true) (λ y. L.is_used y ≡ false) (take h xs) c.partition_point.result in
    let B : List (List ℕ) → Type 0 = λ xs. c.partition_point.result ≤ length (take h xs) in
    L.point_is t c.requires h inside c.reach.ensures.0 c.partition_point.result (subst B front c.partition_point.ensures.bound) (subst Q front at)
