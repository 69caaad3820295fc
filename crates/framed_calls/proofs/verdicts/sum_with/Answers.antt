use native.Mathlib.Omega.{arith}
use Rattle.framed_calls.proofs.VerdictLaws as W
use Rattle.shares.specs.Shares.{shares_in}
use Rattle.framed_calls.proofs.verdicts.sum_with.Goals as goal

pub overflow_add-result : goal.overflow_add-result
overflow_add-result c = omega (arith, c.units_of_all.ensures, W.units_within c.args.l (shares_in c.args.shares.now) c.requires.2)

pub overflow_add-result-2 : goal.overflow_add-result-2
overflow_add-result-2 c = omega (arith, c.units_of_all.ensures, W.units_within c.args.l (shares_in c.args.shares.now) c.requires.2)

pub returns : goal.returns
returns c = W.sum_with c.args.l (shares_in c.args.shares.now) c.args.x _ c.units_of_all.ensures
