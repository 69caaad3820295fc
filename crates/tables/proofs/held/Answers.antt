-- `tables::held` meets its contract: the rows in use, five numbers to each.
use mathlib.Core.Path.{sym, ◌∙◌}
use Rattle.tables.proofs.PlacesLaws.{rows_used}
use Rattle.tables.proofs.held.Goals as goal

pub returns : goal.returns
returns c = c.in_use.ensures ∙ sym (rows_used c.args.table.now)
