use Rattle.shares.proofs.ShareLaws as L
use native.Mathlib.Omega.{arith}
use mathlib.Core.Path.{◌∙◌}
use Rattle.shares.proofs.join.Goals as goal

pub put_share-requires : goal.put_share-requires
put_share-requires c = omega (arith, L.shares_long c.args.shares.now c.requires.0, c.requires.2)

pub returns : goal.returns
returns c = c.put_share.ensures ∙ L.joined c.args.shares.now c.args.standing c.args.x c.requires.0 c.requires.1 c.requires.2
