-- `line::depart` meets its contract: the row found is the first of the connection in service, and is the one removed.
use native.Mathlib.Omega.{arith}
use mathlib.Core.Path.{◌≡◌, sym, ◌∙◌}
use lib.ListN.{length}
use Rattle.tables.specs.Places.{rows, table_of, cut}
use Rattle.tables.proofs.PlacesLaws as P
use Rattle.tables.proofs.PlacesLaws.{rows_end, is_places}
use borrow.Author.Rules.{rules}
use Rattle.line.proofs.LineLaws as L
use Rattle.line.proofs.depart.Goals as goal

pub count-held-requires : goal.count-held-requires
count-held-requires c = P.as_table c.args.places.now c.requires.0.table c.requires.0.size

pub row-p-requires : goal.row-p-requires
row-p-requires c =
    omega (arith, c.requires.0.line (λ e. omega arith) c.requires.2, rows_end c.args.places.now)

pub remove-requires : goal.remove-requires
remove-requires c =
    let t = c.args.places.now in
    let l = c.requires.0.line (λ e. omega arith) c.requires.2 in
    let k = rows_end t in
    let w : t ≡ table_of (length t) (rows t) = c.requires.0.table ∙ sym (is_places t (rows t) c.requires.0.size) in
    search rules

pub returns : goal.returns
returns c =
    let a = c.args in
    let f = c.find-i in
    let l = c.requires.0.line (λ e. omega arith) c.requires.2 in
    let k = L.goes_off a.silence a.w a.places.now a.notices.now c.requires.0.table c.requires.0.notices f.result c.requires.2 f.ensures (omega arith) in (
      L.leaves_with c.row-p.ensures c.free-freed.ensures ∙ k.0,
      c.remove.ensures ∙ is_places a.places.now (cut f.result (rows a.places.now)) c.requires.0.size ∙ k.1,
      k.2,
    )
