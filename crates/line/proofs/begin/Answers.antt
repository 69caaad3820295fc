-- `line::begin` meets its contract where a notice is next.
use native.Mathlib.Omega.{arith}
use mathlib.Core.Path.{◌≡◌, sym, ap, ◌∙◌}
use mathlib.Core.Option as rules
use Rattle.std.specs.Prelude.{Option}
use Rattle.rules.specs.declared.Packet.{Packet}
use Rattle.rules.specs.Service.{begun}
use Rattle.tables.specs.Options.{option_in}
use Rattle.tables.proofs.NoticeLaws.{notices_length_is}
use Rattle.line.specs.Wires.{line_in, wire_of, takes_up}
use Rattle.line.proofs.LineLaws as L
use Rattle.line.proofs.begin.Goals as goal

pub row-first-requires : goal.row-first-requires
row-first-requires c = omega (arith, notices_length_is c.args.notices.now c.requires)

pub returns-then-not-none : goal.returns-then-not-none
returns-then-not-none c t =
    let a = c.args in
    let n : option_in a.chosen ≡ rules.none = ap (λ (o : Option Packet). option_in o) c.in_default.is in
    c.taken-then-not-none.ensures
    ∙ ap (λ (p : Packet). takes_up (p.connection, p.len)) c.row-first.ensures
    ∙ L.takes_notice a.w t a.notices.now (option_in a.early) (sym c.is_idle.ensures ∙ c.if-not-is_idle.false) c.requires
    (L.some_waits a.notices.now (sym c.none.ensures ∙ c.if-not-none.true))
    ∙ ap (λ (o : rules.Option Packet). wire_of (begun o (option_in a.early) (line_in a.w t a.notices.now))) (sym n)
