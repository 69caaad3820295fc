use Rattle.sound.proofs.PaceLaws as L
use mathlib.Core.Path.{sym, ◌∙◌}
use Rattle.connections.specs.Rows.{connection_of, past_of}
use Rattle.sound.proofs.pace.last_tick.Goals as goal

pub latest_early-requires : goal.latest_early-requires
latest_early-requires c = c.requires

pub returns-then-goes_early : goal.returns-then-goes_early
returns-then-goes_early c =
    let a = c.args in
    c.latest_early.ensures ∙ L.last_early a.l (connection_of a.m) a.clock (past_of a.m) (sym c.goes_early.ensures ∙ c.if-goes_early.true)

pub returns : goal.returns
returns c =
    let a = c.args in
    c.max.ensures
    ∙ rw (c.from.ensures, c.latest_of.ensures)
    (L.last_eligible a.l (connection_of a.m) a.clock (past_of a.m) (sym c.goes_early.ensures ∙ c.if-goes_early.false))
