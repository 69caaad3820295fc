-- Laws of the stand-by queue: a product that fits 64 bits, and what settles an eligibility.
use Prim.Native.Nat.{ℕ, zero, suc, ◌+◌, ◌*◌, ◌-◌, ◌/◌, ◌≤◌, ◌<◌}
use native.Mathlib.Omega.{arith}
use native.Mathlib.Nat.{mul-le-mul_right, mul-le-mul_left}
use mathlib.Core.Path.{◌≡◌, refl, sym, ap, ◌∙◌}
use mathlib.Core.Bool.{Bool, true, false, not, ◌&&◌}
use mathlib.Core.Option.{Option, none, some}
use lib.Dec.{eqb, leb, ltb}
use lib.ListN.{length, length-take}
use borrow.Author.Tests.{leb-true, leb-false, le-ltb}
use Rattle.rules.specs.declared.Link.{Link}
use Rattle.rules.specs.declared.Connection.{Connection}
use Rattle.rules.specs.Limits.{beyond_32_bits}
use Rattle.rules.specs.Admission.{stamped, stand_by_on, goes_early}
use Rattle.rules.specs.Service.{nth_before, ticks_after}
use Rattle.rules.specs.SoundState.{is_known, lies_beyond, settled_by, settles}
use Rattle.connections.specs.declared.Member.{Member}
use Rattle.connections.specs.Rows.{connection_of, past_of}
use Rattle.connections.proofs.FigureLaws.{burst_is}
use Rattle.connections.proofs.RegulatorLaws.{at_some, at_none}

pub on_is : (l : Link) → eqb l.early 1 ≡ stand_by_on l
unfolding stand_by_on
on_is l = refl

pub early_is : (l : Link) (x : Connection) (a b : Bool) → a ≡ stand_by_on l → b ≡ stamped x → (a && not b) ≡ goes_early l x
unfolding goes_early
early_is l x a b e f = rw (e, f)

pub distance_fits : (a b : ℕ) → a < beyond_32_bits → b < beyond_32_bits → a * b < beyond_32_bits * beyond_32_bits
distance_fits a b h k = omega (arith, mul-le-mul_right {m = a} {n = beyond_32_bits - 1} b (omega arith), mul-le-mul_left {m = b} {n = beyond_32_bits - 1} (beyond_32_bits - 1) (omega arith))

-- ---- what settles an eligibility

beyond_is : (t : ℕ) (o : Option ℕ) → ltb t (ticks_after 0 o) ≡ lies_beyond t o
beyond_is t none = le-ltb t 0 (omega arith)
beyond_is t (some a) = let e : a + 0 ≡ a = omega arith in rw e

module _ (m : Member) (now n : ℕ) (e : n ≡ m.figures.window / m.figures.average) where
  settled_is : settled_by n now (past_of m) ≡ settles (connection_of m) now (past_of m)
  unfolding settles
  settled_is = ap (λ (k : ℕ). settled_by k now (past_of m)) (e ∙ burst_is (connection_of m))

  pub settled_without : n ≡ 0 → (a b : ℕ) → a ≡ now → b ≡ ticks_after 0 (nth_before 1 (past_of m)) → ltb a b ≡ settles (connection_of m) now (past_of m)
  settled_without z a b f g = rw (f, g) (beyond_is now (nth_before 1 (past_of m)) ∙ ap (λ (k : ℕ). settled_by k now (past_of m)) (sym z) ∙ settled_is)

  pub settled_with : (n ≡ 0 → ⊥) → m.known ≤ length m.ticks → leb n m.known ≡ settles (connection_of m) now (past_of m)
  settled_with z h = go n refl ∙ settled_is
    where
      known : length (past_of m) ≡ m.known
      known = omega (arith, length-take m.known m.ticks)

      there : (i : ℕ) (b : Bool) → leb (suc i) m.known ≡ b → b ≡ is_known (nth_before (suc i) (past_of m))
      there i true k = ap is_known (sym (at_some (past_of m) i (omega (arith, known, leb-true (suc i) m.known k))))
      there i false k = ap is_known (sym (at_none (past_of m) i (omega (arith, known, leb-false (suc i) m.known k))))

      go : (i : ℕ) → n ≡ i → leb n m.known ≡ settled_by n now (past_of m)
      go zero k = absurd (z k)
      go (suc i) k = rw k (there i (leb (suc i) m.known) refl)
