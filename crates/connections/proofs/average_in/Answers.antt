use Rattle.connections.proofs.FigureLaws as L
use native.Mathlib.Omega.{arith}
use mathlib.Core.Path.{◌∙◌}
use Rattle.connections.proofs.average_in.Goals as goal

pub nonzero_rem-w : goal.nonzero_rem-w
nonzero_rem-w c = let a = c.args in omega (arith, L.window_some a.x (omega (arith, c.requires.1, c.requires.2)))

pub nonzero_div-w : goal.nonzero_div-w
nonzero_div-w c = let a = c.args in omega (arith, L.window_some a.x (omega (arith, c.requires.1, c.requires.2)))

pub returns : goal.returns
returns c =
    let a = c.args in
    let n = c.from-3.ensures in
    rw n (L.average_is a.x a.w a.n c.from-2.result c.min-rest.result c.requires.1 c.from-2.ensures (c.min-rest.ensures ∙ rw (c.from.ensures, c.quotient_up.ensures.0)))
