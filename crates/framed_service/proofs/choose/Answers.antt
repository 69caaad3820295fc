-- `framed_service::choose` meets its contract: no row, or the first one by its eligibility.
use native.Mathlib.Omega.{arith}
use mathlib.Core.Path.{sym, ◌∙◌}
use Rattle.tables.proofs.PlacesLaws.{rows_end}
use Rattle.line.proofs.LineLaws.{some_waits}
use Rattle.framed_service.proofs.ChoiceLaws as L
use Rattle.framed_service.proofs.choose.Goals as goal

pub row-first-requires : goal.row-first-requires
row-first-requires c =
    let a = c.args in
    omega (arith, some_waits a.places.now (sym c.none.ensures ∙ c.if-none.false), rows_end a.places.now)

pub returns-then-clock-first : goal.returns-then-clock-first
returns-then-clock-first c =
    let a = c.args in
    L.no_row_yet a.clock a.places.now (some_waits a.places.now (sym c.none.ensures ∙ c.if-none.false)) c.row-first.result c.row-first.ensures (omega (arith, c.if-clock-first.true)) c.requires

pub returns : goal.returns
returns c =
    let a = c.args in
    L.first_row a.clock a.places.now (some_waits a.places.now (sym c.none.ensures ∙ c.if-none.false)) c.row-first.result c.row-first.ensures (omega (arith, c.if-clock-first.false))
