use Rattle.tables.proofs.PlacesLaws as L
use borrow.Author.Rules.{rules}
use Rattle.tables.proofs.none.Goals as goal

pub returns-then-table-lt-PACKET_WIDTH : goal.returns-then-table-lt-PACKET_WIDTH
returns-then-table-lt-PACKET_WIDTH c = L.no_rows c.args.table.now (search rules)

pub returns : goal.returns
returns c = L.first_tells c.args.table.now (search rules)
