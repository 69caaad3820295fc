-- `framed_service::quiet::wait` meets its contract: no row, or the first one by its eligibility.
use Prim.Native.Nat.{ℕ, ◌-◌, min}
use native.Mathlib.Omega.{arith}
use mathlib.Core.Path.{sym, ap, ◌∙◌}
use Rattle.rules.specs.declared.Packet.{Packet}
use Rattle.rules.specs.Limits.{clock_end}
use Rattle.tables.proofs.PlacesLaws.{rows_end}
use Rattle.line.proofs.LineLaws.{some_waits}
use Rattle.framed_service.proofs.QuietCases.{first_row}
use Rattle.framed_service.proofs.quiet.wait.Goals as goal

pub row-first-requires : goal.row-first-requires
row-first-requires c =
    let a = c.args in
    omega (arith, some_waits a.places.now (sym c.none.ensures ∙ c.if-none.false), rows_end a.places.now)

pub returns : goal.returns
returns c =
    let a = c.args in
    c.saturating_sub-2.ensures
    ∙ ap (λ (k : ℕ). k - a.clock)
    (c.min.ensures
    ∙ ap (λ (p : Packet). min p.eligibility clock_end) c.row-first.ensures
    ∙ first_row a.places.now (some_waits a.places.now (sym c.none.ensures ∙ c.if-none.false)) c.requires)
