use Rattle.firmware.proofs.AskedLaws as A
use mathlib.Core.Path.{sym, ◌∙◌}
use borrow.Author.Rules.{rules}
use Rattle.firmware.proofs.short_asked.Goals as goal

pub returns-then-not-testable : goal.returns-then-not-testable
returns-then-not-testable c =
    let a = c.args in
    let k = c.link_asked-l in
    A.refused a.lk.now a.rows.now k.result k.ensures (sym c.testable.ensures ∙ c.if-not-testable.true)

pub short_over-requires : goal.short_over-requires
short_over-requires c =
    let a = c.args in
    let q = A.asked c.link_asked-l.result a.rows.now (sym c.testable.ensures ∙ c.if-not-testable.false) in
    (q.link_in, q.few, search rules, q.rows_in)

pub returns : goal.returns
returns c =
    let a = c.args in
    let k = c.link_asked-l in
    let good = sym c.testable.ensures ∙ c.if-not-testable.false in
    c.short_over.ensures ∙ A.answered a.lk.now a.rows.now k.result k.ensures good
