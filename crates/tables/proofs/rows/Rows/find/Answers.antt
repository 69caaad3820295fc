use Rattle.std.proofs.Common.{◌∙◌, rules, refl, eqb, length, arith}
use borrow.Author.Tests.{tests}
use Rattle.std.proofs.lemmas.Iterator.{YieldsList-from_range}
use Rattle.std.proofs.lemmas.Iterator.Search.{position_from_yields_List}
use Rattle.tables.specs.Places.{rows, row_at}
use Rattle.tables.proofs.RowsLaws.{found_position}
use Rattle.tables.proofs.rows.Rows.find.Goals as goal

pub returns : goal.returns
returns c =
    let s = c.args.self.now in
    position_from_yields_List (λ i. eqb (row_at s.table.now i).connection c.args.c) _ _ c.position.result c.position.ensures.ran
    (YieldsList-from_range 0 s.held (length (rows s.table.now)) refl (omega arith)) (λ x b q k. search (rules, tests))
    ∙ found_position (λ p. eqb p.connection c.args.c) s.table.now
