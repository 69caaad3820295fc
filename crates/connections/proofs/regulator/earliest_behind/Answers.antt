use Rattle.connections.proofs.RegulatorLaws as R
use Rattle.connections.proofs.FigureLaws as L
use native.Mathlib.Omega.{arith}
use mathlib.Core.Path.{◌∙◌}
use Rattle.connections.specs.Rows.{connection_of}
use borrow.Author.Rules.{rules}
use Rattle.connections.proofs.regulator.earliest_behind.Goals as goal

pub after_nth-requires-2 : goal.after_nth-requires-2
after_nth-requires-2 c = let a = c.args in (search rules, search rules, omega (arith, c.packets_in-n.ensures, L.burst_is (connection_of a.m)))

pub returns : goal.returns
returns c = let a = c.args in c.max.ensures ∙ R.earliest_of a.m a.k _ _ _ c.packets_in-n.ensures c.after_nth.ensures c.after_nth-2.ensures
