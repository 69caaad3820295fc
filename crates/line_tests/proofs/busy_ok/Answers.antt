use Rattle.std.proofs.Common.{rules, tests, ◌∙◌, sym}
use Rattle.line_tests.proofs.LineLaws as S
use Rattle.line_tests.proofs.busy_ok.Goals as goal

pub returns-then-x-eq-NOTICE_NUMBER : goal.returns-then-x-eq-NOTICE_NUMBER
returns-then-x-eq-NOTICE_NUMBER c =
    let a = c.args in
    S.notice_units a.x a.early a.places.table.now a.notices.table.now c.if-x-eq-NOTICE_NUMBER.true (search (rules, tests)) c.at.ensures

pub returns-in_default : goal.returns-in_default
returns-in_default c =
    let a = c.args in
    S.no_row a.x a.early a.places.table.now a.notices.table.now c.if-x-eq-NOTICE_NUMBER.false (sym c.find.ensures ∙ c.in_default.is)

pub returns : goal.returns
returns c =
    let a = c.args in
    S.row_served a.x a.early a.places.table.now a.notices.table.now c.if-x-eq-NOTICE_NUMBER.false (sym c.find.ensures ∙ c.in-Some.is) c.at-p.ensures
