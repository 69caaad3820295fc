use Rattle.sound.proofs.PaceLaws as L
use Rattle.connections.specs.Rows.{connection_of, past_of}
use mathlib.Core.Path.{sym, ◌∙◌}
use Rattle.sound.proofs.pace.latest_of.Goals as goal

pub returns-then-is_stamped : goal.returns-then-is_stamped
returns-then-is_stamped c =
    let a = c.args in
    rw (c.from.ensures, c.from-then-is_stamped.ensures) (L.latest_stamped (connection_of a.m) a.clock (past_of a.m) (sym c.is_stamped.ensures ∙ c.if-is_stamped.true))

pub returns : goal.returns
returns c =
    let a = c.args in
    c.latest_by_gap.ensures ∙ L.latest_gap (connection_of a.m) a.clock (past_of a.m) (sym c.is_stamped.ensures ∙ c.if-is_stamped.false)
