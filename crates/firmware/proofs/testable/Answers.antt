use Rattle.firmware.proofs.AskedLaws as A
use mathlib.Core.Path.{sym, ◌∙◌}
use borrow.Author.Rules.{rules}
use Rattle.firmware.proofs.testable.Goals as goal

pub returns-then-not-link_ok : goal.returns-then-not-link_ok
returns-then-not-link_ok c =
    let a = c.args in
    A.bad_link a.l a.rows.now (sym c.link_ok.ensures ∙ c.if-not-link_ok.true)

pub returns-then-rows-n : goal.returns-then-rows-n
returns-then-rows-n c =
    let a = c.args in
    let good = sym c.link_ok.ensures ∙ c.if-not-link_ok.false in
    A.cut_row a.l a.rows.now good (search rules)

pub returns-then-n-gt-MAX_CONNECTIONS : goal.returns-then-n-gt-MAX_CONNECTIONS
returns-then-n-gt-MAX_CONNECTIONS c =
    let a = c.args in
    let good = sym c.link_ok.ensures ∙ c.if-not-link_ok.false in
    A.many_rows a.l a.rows.now good (search rules) (search rules)

pub returns : goal.returns
returns c =
    let a = c.args in
    let good = sym c.link_ok.ensures ∙ c.if-not-link_ok.false in
    A.each_row a.l a.rows.now good (search rules) (search rules) c.rows_ok.result c.rows_ok.ensures
