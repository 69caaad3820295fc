-- `shares::standing` meets its contract: the rows in use, two numbers to each.
use mathlib.Core.Path.{sym, ◌∙◌}
use Rattle.shares.proofs.ShareLaws.{shares_used}
use Rattle.shares.proofs.standing.Goals as goal

pub returns : goal.returns
returns c = c.in_use.ensures ∙ sym (shares_used c.args.shares.now)
