use Rattle.std.proofs.Common.{rules, sym, ◌∙◌}
use Rattle.limits.proofs.ChainLaws as C
use Rattle.tables.specs.Notices.{notices_length, notices_formed}
use Rattle.tables.proofs.PlacesLaws as P
use Rattle.line_tests.proofs.LineLaws as S
use Rattle.line_tests.proofs.notices_formed.Goals as goal

pub returns-then-table-ne-NOTICES : goal.returns-then-table-ne-NOTICES
unfolding notices_formed
returns-then-table-ne-NOTICES c = C.fails _ _ (sym (P.not_formed notices_length c.args.notices.table.now (search rules)))

pub returns-then-zero_from : goal.returns-then-zero_from
unfolding notices_formed
returns-then-zero_from c =
    let n = c.args.notices in
    S.both_go ((rw c.table-table.ensures at c.zero_from.ensures) ∙ P.rows_formed notices_length c.len.result n.table.now (search rules) c.len.ensures) c.if-zero_from.true c.all_marked.ensures

pub returns-else-zero_from : goal.returns-else-zero_from
unfolding notices_formed
returns-else-zero_from c =
    let n = c.args.notices in
    S.both_stop _ ((rw c.table-table.ensures at c.zero_from.ensures) ∙ P.rows_formed notices_length c.len.result n.table.now (search rules) c.len.ensures) c.if-zero_from.false
