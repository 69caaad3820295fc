-- The order in which the line goes: the key of a packet is its level and its eligibility, and the lower key goes first. What is ahead of a key (m, e),
-- and the numbers that only count there.
use Prim.Native.Nat.{ℕ, ◌+◌, ◌≤◌, ◌<◌}
use native.Mathlib.Omega.{arith}
use native.Mathlib.Nat.{le_refl}
use mathlib.Core.Path.{◌≡◌, ◌∙◌}
use mathlib.Core.Bool.{cond}
use mathlib.Core.Logic.{◌⊎◌, inl, inr}
use lib.Dec.{eqb}
use borrow.Author.Tests.{eq-eqb, ne_eqb}
use Rattle.rules.specs.Words.{upto}
use Rattle.rules.proofs.Sums.{split, same, cond_is, upto_yes, upto_no}

-- the key (v, x) is no later than (m, e)
pub record Ahead (m e v x : ℕ) : Type 0 where
  pub no_higher : v ≤ m
  pub no_later : v ≡ m → x ≤ e

-- n where it is, else 0
pub keyed : ℕ → ℕ → ℕ → ℕ → ℕ → ℕ
keyed m e v x n = upto v m (cond (eqb v m) (upto x e n) n)

module _ (m e v x : ℕ) where
  pub ahead_or_not : Ahead m e v x ⊎ (Ahead m e v x → ⊥)
  ahead_or_not = go (split v m) (same v m) (split x e)
    where
      go : (v ≤ m) ⊎ (m < v) → (v ≡ m) ⊎ (v ≡ m → ⊥) → (x ≤ e) ⊎ (e < x) → Ahead m e v x ⊎ (Ahead m e v x → ⊥)
      go (inr h) i j = inr (λ a. omega (arith, a.no_higher))
      go (inl h) (inr i) j = inl (record { no_higher = h; no_later = λ k. absurd (i k) })
      go (inl h) (inl i) (inl j) = inl (record { no_higher = h; no_later = λ _. j })
      go (inl h) (inl i) (inr j) = inr (λ a. omega (arith, a.no_later i))

  pub keyed_yes : (n : ℕ) → Ahead m e v x → keyed m e v x n ≡ n
  unfolding keyed
  keyed_yes n a = upto_yes v m (cond (eqb v m) (upto x e n) n) a.no_higher ∙ go (same v m)
    where
      go : (v ≡ m) ⊎ (v ≡ m → ⊥) → cond (eqb v m) (upto x e n) n ≡ n
      go (inl i) = cond_is (upto x e n) n (eq-eqb v m i) ∙ upto_yes x e n (a.no_later i)
      go (inr i) = cond_is (upto x e n) n (ne_eqb v m i)

  pub keyed_no : (n : ℕ) → (Ahead m e v x → ⊥) → keyed m e v x n ≡ 0
  unfolding keyed
  keyed_no n f = go (split v m) (same v m) (split x e)
    where
      go : (v ≤ m) ⊎ (m < v) → (v ≡ m) ⊎ (v ≡ m → ⊥) → (x ≤ e) ⊎ (e < x) → upto v m (cond (eqb v m) (upto x e n) n) ≡ 0
      go (inr h) i j = upto_no v m (cond (eqb v m) (upto x e n) n) h
      go (inl h) (inr i) j = absurd (f (record { no_higher = h; no_later = λ k. absurd (i k) }))
      go (inl h) (inl i) (inl j) = absurd (f (record { no_higher = h; no_later = λ _. j }))
      go (inl h) (inl i) (inr j) = upto_yes v m (cond (eqb v m) (upto x e n) n) h ∙ cond_is (upto x e n) n (eq-eqb v m i) ∙ upto_no x e n j

  pub keyed_le : (n : ℕ) → keyed m e v x n ≤ n
  keyed_le n = go ahead_or_not
    where
      go : Ahead m e v x ⊎ (Ahead m e v x → ⊥) → keyed m e v x n ≤ n
      go (inl a) = omega (arith, keyed_yes n a)
      go (inr f) = omega (arith, keyed_no n f)

  pub keyed_mono : {a b : ℕ} → a ≤ b → keyed m e v x a ≤ keyed m e v x b
  keyed_mono {a} {b} h = go ahead_or_not
    where
      go : Ahead m e v x ⊎ (Ahead m e v x → ⊥) → keyed m e v x a ≤ keyed m e v x b
      go (inl k) = omega (arith, keyed_yes a k, keyed_yes b k)
      go (inr f) = omega (arith, keyed_no a f)

  pub keyed_add : (a b : ℕ) → keyed m e v x (a + b) ≡ keyed m e v x a + keyed m e v x b
  keyed_add a b = go ahead_or_not
    where
      go : Ahead m e v x ⊎ (Ahead m e v x → ⊥) → keyed m e v x (a + b) ≡ keyed m e v x a + keyed m e v x b
      go (inl k) = omega (arith, keyed_yes (a + b) k, keyed_yes a k, keyed_yes b k)
      go (inr f) = omega (arith, keyed_no (a + b) f, keyed_no a f, keyed_no b f)

-- what goes no later than something ahead is ahead too
pub ahead_trans : (m e v x v' x' : ℕ) → v' ≤ v → (v' ≡ v → x' ≤ x) → Ahead m e v x → Ahead m e v' x'
ahead_trans m e v x v' x' h f a = record {
  no_higher = omega (arith, a.no_higher);
  no_later = λ i. let j : v ≡ m = omega (arith, a.no_higher) in omega (arith, f (omega arith), a.no_later j);
}

-- the key of a packet is ahead of itself
pub ahead_self : (m e v : ℕ) → v ≡ m → Ahead m e v e
ahead_self m e v i = record { no_higher = omega arith; no_later = λ _. le_refl e }
