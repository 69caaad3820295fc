use native.Mathlib.Omega.{arith}
use mathlib.Core.Path.{◌∙◌}
use Rattle.shares.proofs.ShareLaws as L
use Rattle.shares.proofs.places_of_all.Goals as goal

pub column-requires : goal.column-requires
column-requires c = let t = c.args.shares.now in (omega (arith, L.shares_few t c.requires.0, c.requires.1), omega (arith, L.shares_end t, c.requires.1), omega arith)

pub returns : goal.returns
returns c = c.column.ensures ∙ L.all_places_are c.args.shares.now c.requires.0 c.args.standing c.requires.1
