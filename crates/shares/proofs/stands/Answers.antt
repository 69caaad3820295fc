use Rattle.shares.proofs.ShareLaws as L
use native.Mathlib.Omega.{arith}
use Rattle.shares.proofs.stands.Goals as goal

pub returns-then-row-ge-MAX_CONNECTIONS : goal.returns-then-row-ge-MAX_CONNECTIONS
returns-then-row-ge-MAX_CONNECTIONS c = L.none_stands c.args.shares.now c.requires c.args.c (omega arith)

pub bounds-shares-row : goal.bounds-shares-row
bounds-shares-row c = omega (arith, L.shares_long c.args.shares.now c.requires)

pub returns : goal.returns
returns c = L.stands_by c.args.shares.now c.requires c.args.c (omega arith)
