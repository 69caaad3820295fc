use lib.ListN.{length-set}
use native.Mathlib.Omega.{arith}
use native.Mathlib.Numerals.{unary_clauses}
use Rattle.shares.proofs.put_share.Goals as goal

pub bounds-shares-at-2 : goal.bounds-shares-at-2
bounds-shares-at-2 c = simp length-set (omega arith)

pub returns : goal.returns
returns c = simp unary_clauses
