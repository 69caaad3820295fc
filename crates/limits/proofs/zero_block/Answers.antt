use borrow.Author.Rules.{rules}
use mathlib.Core.Path.{◌∙◌}
use Rattle.limits.proofs.ZeroLaws.{is_zeros}
use Rattle.limits.proofs.zero_block.Goals as goal

pub returns : goal.returns
returns c = c.eq.ensures ∙ is_zeros 16 c.args.block.now (search rules)
