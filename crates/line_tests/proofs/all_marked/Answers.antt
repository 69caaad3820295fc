use Rattle.std.proofs.Common.{rules, tests, refl}
use Rattle.tables.specs.Notices.{marked}
use Rattle.tables.proofs.AllRows.{each_of_all}
use Rattle.line_tests.proofs.all_marked.Goals as goal

pub returns : goal.returns
returns c = each_of_all marked c.args.notices.table.now c.len.ensures refl c.all.ensures.ran (λ x b q k. search (rules, tests))
