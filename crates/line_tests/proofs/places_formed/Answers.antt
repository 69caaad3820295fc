use Rattle.std.proofs.Common.{rules, ◌∙◌}
use Rattle.tables.specs.Places.{places_length}
use Rattle.tables.proofs.PlacesLaws as P
use Rattle.line_tests.proofs.places_formed.Goals as goal

pub returns-then-table-eq-PLACES : goal.returns-then-table-eq-PLACES
returns-then-table-eq-PLACES c =
    let a = c.args in
    (rw c.table-table.ensures at c.zero_from.ensures) ∙ P.rows_formed places_length c.len.result a.places.table.now (search rules) c.len.ensures
