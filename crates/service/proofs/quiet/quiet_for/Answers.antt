-- `service::quiet::quiet_for` meets its contract: each way out is one case of the line.
use mathlib.Core.Path.{refl, sym, ap, ◌∙◌}
use Rattle.rules.specs.Service.{first_early}
use Rattle.tables.specs.Places.{rows}
use Rattle.std.specs.Prelude.{Option, is_some}
use Rattle.rules.specs.declared.Packet.{Packet}
use Rattle.line.proofs.QuietLaws.{goes_on, awaited}
use Rattle.service.specs.Candidates.{early_in}
use Rattle.service.proofs.QuietCases.{packet_waits, stands_by_now, idle_for}
use Rattle.service.proofs.quiet.quiet_for.Goals as goal

pub returns-then-not-awaits : goal.returns-then-not-awaits
returns-then-not-awaits c =
    let a = c.args in
    goes_on a.h.wire a.places.now a.notices.now (first_early (early_in a.h.link a.members.now) (rows a.places.now)) a.h.clock
    _ refl _ c.awaits.ensures (c.if-not-awaits.true) _ c.taken_for.ensures

pub returns-then-first_starts : goal.returns-then-first_starts
returns-then-first_starts c =
    let a = c.args in
    let o = first_early (early_in a.h.link a.members.now) (rows a.places.now) in
    awaited a.h.wire a.places.now a.notices.now o a.h.clock _ refl _ c.awaits.ensures (c.if-not-awaits.false)
    _ (packet_waits (rows a.places.now) a.h.clock o (sym c.first_starts.ensures ∙ c.if-first_starts.true))

pub returns-then-is_some : goal.returns-then-is_some
returns-then-is_some c =
    let a = c.args in
    let o = first_early (early_in a.h.link a.members.now) (rows a.places.now) in
    awaited a.h.wire a.places.now a.notices.now o a.h.clock _ refl _ c.awaits.ensures (c.if-not-awaits.false)
    _ (stands_by_now (rows a.places.now) a.h.clock o (sym (ap (λ (o : Option Packet). is_some o) c.stand_by.ensures) ∙ sym c.is_some.ensures ∙ c.if-is_some.true))

pub returns : goal.returns
returns c =
    let a = c.args in
    let o = first_early (early_in a.h.link a.members.now) (rows a.places.now) in
    awaited a.h.wire a.places.now a.notices.now o a.h.clock _ refl _ c.awaits.ensures (c.if-not-awaits.false)
    _ (c.wait.ensures ∙ idle_for (rows a.places.now) a.h.clock o (sym (ap (λ (o : Option Packet). is_some o) c.stand_by.ensures) ∙ sym c.is_some.ensures ∙ c.if-is_some.false))
