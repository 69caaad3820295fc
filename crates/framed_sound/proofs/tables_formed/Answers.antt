use Rattle.line_tests.proofs.LineLaws as S
use Rattle.framed_state.specs.View.{tables_formed}
use mathlib.Core.Path.{ap}
use mathlib.Core.Bool.{not}
use Rattle.framed_sound.proofs.tables_formed.Goals as goal

pub returns-then-not-places_formed : goal.returns-then-not-places_formed
unfolding tables_formed
returns-then-not-places_formed c = S.stops _ c.places_formed.ensures (ap not c.if-not-places_formed.true)

pub returns-then-not-table_formed : goal.returns-then-not-table_formed
unfolding tables_formed
returns-then-not-table_formed c = S.passes_on c.places_formed.ensures (ap not c.if-not-places_formed.false) (S.stops _ c.table_formed.ensures (ap not c.if-not-table_formed.true))

pub returns : goal.returns
unfolding tables_formed
returns c = S.passes_on c.places_formed.ensures (ap not c.if-not-places_formed.false) (S.passes_on c.table_formed.ensures (ap not c.if-not-table_formed.false) c.notices_formed.ensures)
