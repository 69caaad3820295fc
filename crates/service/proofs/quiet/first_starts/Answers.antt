use native.Mathlib.Omega.{arith}
use mathlib.Core.Path.{sym}
use Rattle.service.proofs.QuietCases.{no_first, first_is}
use Rattle.service.proofs.quiet.first_starts.Goals as goal

pub returns-then-places-eq0 : goal.returns-then-places-eq0
returns-then-places-eq0 c =
    let a = c.args in
    sym (no_first a.places.now a.clock c.if-places-eq0.true)

pub returns : goal.returns
returns c =
    let a = c.args in
    sym (first_is a.places.now a.clock (omega (arith, c.requires)) c.if-places-eq0.false)
