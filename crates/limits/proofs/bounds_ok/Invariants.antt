use Prim.Native.Nat.{◌-◌}
use mathlib.Core.Path.{◌≡◌}
use lib.ListN.{drop}
use Rattle.rules.specs.Admission.{rising}
use Rattle.limits.proofs.bounds_ok.Given as goal

abbrev pub invariant-loop-d : goal.invariant-loop-d
invariant-loop-d l = rising l.low (l.n - l.d-index) (drop l.d-index l.fn.bounds) ≡ rising l.lowest l.n l.fn.bounds
