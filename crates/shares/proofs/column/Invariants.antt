use Prim.Native.Nat.{◌+◌, ◌*◌, ◌≤◌}
use mathlib.Core.Path.{◌≡◌}
use lib.ListN.{get_or}
use Rattle.rules.specs.Words.{sum}
use Rattle.shares.proofs.column.Given as goal

abbrev pub invariant-loop-c : goal.invariant-loop-c
invariant-loop-c l = (l.total ≤ 4_294_967_295 * l.c) × (l.total ≡ sum l.c (λ c. get_or l.shares (2 * c + l.at) 0))
