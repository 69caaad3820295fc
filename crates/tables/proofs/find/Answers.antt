use Rattle.std.proofs.Common.{◌≡◌, ◌∙◌, ap, refl, eqb, length, arith, Option, ℕ, position}
use borrow.Author.Rules.{rules}
use borrow.Author.Tests.{tests}
use Rattle.std.specs.Option.{unwrap_or}
use Rattle.std.proofs.lemmas.Iterator.{YieldsList-from_range}
use Rattle.std.proofs.lemmas.Iterator.Search.{position_from_yields_List}
use Rattle.tables.specs.Places.{rows, row_at}
use Rattle.std.proofs.iter.Serving.{serving}
use Prim.Native.Nat.{◌*◌, ◌≤◌}
use Rattle.tables.proofs.PlacesLaws.{rows_end}
use Rattle.tables.proofs.RowsLaws as L
use Rattle.tables.proofs.find.Goals as goal

-- each row that is looked at lies in the table
pub position-requires-clause-callable : goal.position-requires-clause-callable
position-requires-clause-callable c =
    let inside : 5 * c.args.held ≤ length c.args.table.now = omega (arith, rows_end c.args.table.now) in
    grind serving

pub returns : goal.returns
returns c =
    let a = c.args in
    let t = a.table.now in
    let at : c.position.result ≡ position (λ p. eqb p.connection a.c) (rows t) =
    position_from_yields_List (λ i. eqb (row_at t i).connection a.c) _ _ c.position.result c.position.ensures.ran
    (YieldsList-from_range 0 a.held (length (rows t)) refl (omega arith)) (λ x b q k. search (rules, tests))
    ∙ L.found_position (λ p. eqb p.connection a.c) t in
    c.unwrap_or.ensures
    ∙ ap (λ (o : Option ℕ). unwrap_or o a.held) at
    ∙ ap (λ (n : ℕ). unwrap_or (position (λ p. eqb p.connection a.c) (rows t)) n) c.requires
    ∙ L.place_found a.c (rows t)
