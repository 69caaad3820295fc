-- `service::start` meets its contract where the line is idle: it begins with what is chosen and what stands by.
use mathlib.Core.Path.{sym, ◌∙◌}
use Rattle.service.proofs.TickLaws as L
use Rattle.service.proofs.start.Goals as goal

pub returns : goal.returns
returns c =
    let a = c.args in
    L.begins_with a.h a.members.now a.places.now a.notices.now c.choose-chosen.result c.early_next-early.result c.begin.result
    (sym c.is_idle.ensures ∙ c.if-not-is_idle.false) c.choose-chosen.ensures c.early_next-early.ensures (c.begin.ensures a.places.now)
