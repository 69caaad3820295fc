use Rattle.std.proofs.Common.{rules, tests, refl, ◌∙◌}
use Rattle.tables.proofs.AllRows.{each_of_all}
use Rattle.line_tests.proofs.LineLaws as S
use Rattle.line_tests.proofs.notices_ok.Goals as goal

pub returns : goal.returns
returns c =
    let a = c.args in
    each_of_all (S.row_waits a.largest a.clock) a.notices.table.now c.len.ensures refl c.all.ensures.ran (λ x b q k. search (rules, tests))
    ∙ S.notices_read a.largest a.clock a.notices.table.now
