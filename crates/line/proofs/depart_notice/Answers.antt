-- `line::depart_notice` meets its contract: the first row goes.
use native.Mathlib.Omega.{arith}
use mathlib.Core.Path.{◌≡◌, ◌∙◌}
use lib.ListN.{length}
use Rattle.tables.specs.Places.{rows, table_of}
use Rattle.tables.proofs.PlacesLaws.{rows_end}
use Rattle.tables.proofs.NoticeLaws.{notices_length_is, as_a_table}
use borrow.Author.Rules.{rules}
use Rattle.line.proofs.LineLaws as L
use Rattle.line.proofs.depart_notice.Goals as goal

pub count-waiting-requires : goal.count-waiting-requires
count-waiting-requires c = as_a_table c.args.notices.now c.requires.0.notices

pub row-p-requires : goal.row-p-requires
row-p-requires c = omega (arith, notices_length_is c.args.notices.now c.requires.0.notices)

pub remove-requires : goal.remove-requires
remove-requires c =
    let q = c.args.notices.now in
    let f = c.requires.0.notices in
    let l = c.requires.0.notice_line (λ e. omega arith) c.requires.2 in
    let k = rows_end q in
    let t : q ≡ table_of (length q) (rows q) = as_a_table q f in
    search rules

pub returns : goal.returns
returns c =
    let a = c.args in
    let l = c.requires.0.notice_line (λ e. omega arith) c.requires.2 in
    let k = L.notice_goes_off a.silence a.w a.places.now a.notices.now c.requires.0.table c.requires.0.notices c.requires.2 l in
    (L.leaves_with c.row-p.ensures c.free-idle.ensures ∙ k.0, k.1, c.remove.ensures ∙ k.2)
