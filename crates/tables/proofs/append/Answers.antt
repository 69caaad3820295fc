use lib.ListN.{length}
use Rattle.tables.proofs.PlacesLaws as L
use mathlib.Core.Path.{◌∙◌}
use borrow.Author.Rules.{rules}
use Rattle.tables.proofs.append.Goals as goal

pub returns : goal.returns
returns c = let a = c.args in c.put_row.ensures ∙ L.append_table (length a.table.now) a.table.now a.held a.p (search rules) (search rules) (search rules)
