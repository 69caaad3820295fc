use lib.ListN.{length}
use borrow.Author.Tests.{eq-eqb}
use Rattle.rules.specs.Limits.{max_levels}
use borrow.Author.Rules.{rules}
use Rattle.sound.proofs.blank_ok.Goals as goal

pub returns : goal.returns
returns c =
    rw (eq-eqb (length c.args.l.bounds) max_levels (search rules), eq-eqb (length c.args.l.windows) max_levels (search rules), c.zero_from.ensures, c.zero_from-2.ensures)
