use Rattle.shares.proofs.ShareLaws as L
use native.Mathlib.Omega.{arith}
use mathlib.Core.Path.{sym, ◌∙◌}
use Rattle.shares.proofs.figures_of.Goals as goal

pub share_at-requires : goal.share_at-requires
share_at-requires c = omega (arith, L.shares_long c.args.shares.now c.requires)

pub returns-then-row-lt-MAX_CONNECTIONS : goal.returns-then-row-lt-MAX_CONNECTIONS
returns-then-row-lt-MAX_CONNECTIONS c = c.share_at.ensures ∙ L.figures_are c.args.shares.now c.requires c.args.c

pub returns : goal.returns
returns c =
    c.no_share.ensures ∙ sym (L.share_none c.args.shares.now c.requires c.args.c (omega (arith, L.shares_few c.args.shares.now c.requires)))
