-- The log's window, and what a read puts in it.
use Prim.Native.Nat.{ℕ, ◌-◌, ◌<◌, ◌≤◌}
use native.Mathlib.Omega.{arith}
use mathlib.Core.Path.{◌≡◌, refl, sym, ◌∙◌}
use mathlib.Core.List.{List, [], append-nil}
use Rattle.std.specs.Prelude.{Some, None, Result}
use lib.ListN.{length, take}
use lib.Seq.{length-take-le}
use borrow.Author.Tests.{ne_eqb}
use Rattle.streams.specs.declared.ReadError.{ReadError}
use Rattle.turns.specs.Turns.{given_by, window}
use Rattle.turns.proofs.TurnLaws.{length_window}
use Rattle.checker.specs.Checks.{Fetched}

no_window : (b : List ℕ) (from to : ℕ) → to ≤ from → window b from to ≡ []
no_window b from to h = let e : to - from ≡ 0 = omega arith in rw e

-- there is something in the window
pub fetched_still : (b : List ℕ) (from to : ℕ) → from < to → to ≤ length b → Fetched (window b from to) None (window b from to)
fetched_still b from to h k =
    let n = length_window b from to (omega arith) k in
    record {
      where_empty = sym (ne_eqb (length (window b from to)) 0 (λ e. omega (arith, n, e)));
      got = [];
      count = refl;
      rest = sym (append-nil (window b from to));
    }

-- a read gave some, or none
pub fetched_read : (b : List ℕ) (from to : ℕ) → to ≤ from → (z : Result ℕ ReadError) (b2 : List ℕ) (n : ℕ) → n ≡ given_by (Some z) → n ≤ length b2
    → Fetched (window b from to) (Some z) (window b2 0 n)
fetched_read b from to h z b2 n e l =
    let k : n - 0 ≡ n = omega arith in
    record { where_empty = rw (no_window b from to h); got = take n b2; count = length-take-le n b2 l ∙ e; rest = rw (no_window b from to h, k) }
