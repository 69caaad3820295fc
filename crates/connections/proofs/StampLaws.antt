-- Laws of an offer that may bring a stamp, and of a stamp that is out of time.
use Prim.Native.Nat.{ℕ, ◌+◌, ◌≤◌, ◌<◌}
use native.Mathlib.Omega.{arith}
use mathlib.Core.Path.{◌≡◌, refl}
use mathlib.Core.Bool.{true}
use lib.Dec.{eqb, ltb}
use borrow.Author.Tests.{lt-ltb, le-ltb}
use Rattle.rules.specs.declared.Connection.{Connection}
use Rattle.rules.specs.Model.{Past}
use Rattle.rules.specs.Admission.{stamped}
use Rattle.rules.specs.Service.{nth_before, ticks_after, untimely}

pub stamped_is : (x : Connection) → eqb x.kind 1 ≡ stamped x
unfolding stamped
stamped_is x = refl

-- ---- out of time

module _ (x : Connection) (h : Past) (now stamp : ℕ) where
  pub stamp_late : now < stamp → true ≡ untimely x h now stamp
  unfolding untimely
  stamp_late l = rw (lt-ltb now stamp l)

  module _ (l : stamp ≤ now) (e : ℕ) (i : e ≡ stamp + x.allowance) where
    pub sum_over : (n : ℕ) → n ≡ now → e < n → true ≡ untimely x h now stamp
    unfolding untimely
    sum_over n j k = rw (le-ltb now stamp l, lt-ltb (stamp + x.allowance) now (omega arith))

    pub gap_decides : (n : ℕ) → n ≡ now → n ≤ e → (a : ℕ) → a ≡ ticks_after x.gap (nth_before 1 h) → ltb e a ≡ untimely x h now stamp
    unfolding untimely
    gap_decides n j k a f = rw (le-ltb now stamp l, le-ltb (stamp + x.allowance) now (omega arith), i, f)
