-- Bytes held against the log: a move of the checker, from what its calls ensure.
use Prim.Native.Nat.{ℕ, ◌+◌, ◌<◌, ◌≤◌}
use native.Mathlib.Omega.{arith}
use mathlib.Core.Path.{◌≡◌, refl, ap}
use mathlib.Core.List.{List}
use Rattle.std.specs.Prelude.{Option, Some, Result}
use Rattle.streams.specs.declared.ReadError.{ReadError}
use lib.ListN.{length, drop}
use borrow.Author.Tests.{lt-ltb, le-ltb}
use Rattle.turns.specs.Turns.{window}
use Rattle.turns.proofs.TurnLaws.{length_window}
use Rattle.checker.specs.declared.Finding.{Finding}
use Rattle.checker.specs.declared.Check.{Check}
use Rattle.checker.specs.Judgement.{common}
use Rattle.checker.specs.Checks.{Fetched, without_more, with_more, Compares}
use Rattle.checker.proofs.CommonLaws.{common_le}

-- what two windows have in common fits in both
pub alike_fits : (x y : List ℕ) (a b from to k : ℕ) → k ≡ common (window x a b) (window y from to) → a ≤ b → b ≤ length x → from ≤ to → to ≤ length y
    → (a + k ≤ b) × (from + k ≤ to)
alike_fits x y a b from to k e h i j l =
    let m = common_le (window x a b) (window y from to) in
    let p = rw (length_window x a b h i) at m.0 in
    let q = rw (length_window y from to j l) at m.1 in
    (omega (arith, e, p), omega (arith, e, q))

module _ (c : Check) (e l : List ℕ) (z : Option (Result ℕ ReadError)) (came : List ℕ) (F : Fetched l z came) (met wrote from to : ℕ) where
  abbrev now : ℕ → Option Finding → Check
  now at f = record { turn = c.turn; met = met; wrote = wrote; from = from; to = to; read = z; at = at; finding = f }

  -- nothing came
  pub compares_none : (f : Finding) → length came ≡ 0 → f ≡ without_more z → Compares c e l (now c.at (Some f)) e came
  compares_none f n d =
      let k : common came e ≡ 0 = omega (arith, (common_le came e).0) in
      record { came = came; fetched = F; turn = refl; at = rw k (omega arith); expected = rw k; rest = rw k; finding = rw (le-ltb 0 (length came) (omega arith)) (ap (λ (x : Finding). Some x) d) }

  -- some bytes came, of which k are met
  pub compares_some : (k : ℕ) (f : Option Finding) (e2 l2 : List ℕ) → k ≡ common came e → 0 < length came → e2 ≡ drop k e → l2 ≡ drop k came → f ≡ with_more (length e2) (length l2)
      → Compares c e l (now (c.at + k) f) e2 l2
  compares_some k f e2 l2 h n p q d =
      record { came = came; fetched = F; turn = refl; at = rw h; expected = rw (← h) p; rest = rw (← h) q; finding = rw (lt-ltb 0 (length came) n) d }
