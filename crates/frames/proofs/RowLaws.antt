-- Rows: parts of lists, the rows of a connection, and sums over them sorted by connection. Nothing here knows a discipline.
use Prim.Native.Nat.{ℕ, ◌+◌, ◌≤◌, ◌<◌}
use native.Mathlib.Omega.{arith}
use mathlib.Core.Path.{◌≡◌, refl, ap, ◌∙◌}
use mathlib.Core.Bool.{Bool, true, false, cond}
use mathlib.Core.List.{List, [], ◌∷◌, ◌++◌}
use lib.Dec.{eqb}
use lib.ListN.{length}
use borrow.Author.Tests.{eqb-true, eqb-false}
use Rattle.rules.specs.declared.Packet.{Packet}
use Rattle.rules.specs.Words.{All, Pairs, sum, filter, total}
use Rattle.rules.specs.Service.{of}
use Rattle.rules.proofs.Lists.{all_sub, Sub, nil, skip, keep, total_sub}
use Rattle.rules.proofs.Sums.{sum_eq, only, only_at, only_off, total_by}

module _ {A : Type 0} where
  pub pairs_sub : (R : A → A → Type 0) {xs ys : List A} → Sub xs ys → Pairs R ys → Pairs R xs
  pairs_sub R nil h = tt
  pairs_sub R (skip y s) h = pairs_sub R s h.1
  pairs_sub R (keep x s) h = (all_sub (R x) s h.0, pairs_sub R s h.1)

  pub filter_snoc_on : (f : A → Bool) (xs : List A) (y : A) → f y ≡ true → filter f (xs ++ y ∷ []) ≡ filter f xs ++ y ∷ []
  filter_snoc_on f [] y e = ap (λ (b : Bool). cond b (y ∷ []) []) e
  filter_snoc_on f (x ∷ xs) y e = go (f x) (filter_snoc_on f xs y e)
    where
      go : (b : Bool) → filter f (xs ++ y ∷ []) ≡ filter f xs ++ y ∷ []
          → cond b (x ∷ filter f (xs ++ y ∷ [])) (filter f (xs ++ y ∷ [])) ≡ cond b (x ∷ filter f xs) (filter f xs) ++ y ∷ []
      go true k = ap (λ (l : List A). x ∷ l) k
      go false k = k

  pub length_total : (xs : List A) → length xs ≡ total (λ _. 1) xs
  length_total [] = refl
  length_total (x ∷ xs) = omega (arith, length_total xs)

  pub length_sub : {xs ys : List A} → Sub xs ys → length xs ≤ length ys
  length_sub {xs} {ys} s = omega (arith, length_total xs, length_total ys, total_sub (λ _. 1) s)

  pub total_append : (w : A → ℕ) (xs ys : List A) → total w (xs ++ ys) ≡ total w xs + total w ys
  total_append w [] ys = omega arith
  total_append w (x ∷ xs) ys = omega (arith, total_append w xs ys)

-- the rows of c are a part of all
pub sub_all : (c : ℕ) (xs : List Packet) → Sub (of c xs) xs
sub_all c [] = nil
sub_all c (x ∷ xs) = go (eqb x.connection c) (sub_all c xs)
  where
    go : (b : Bool) → Sub (of c xs) xs → Sub (cond b (x ∷ of c xs) (of c xs)) (x ∷ xs)
    go true k = keep x k
    go false k = skip x k

-- a sum over the rows of c
pub total_of : (w : Packet → ℕ) (c : ℕ) (rs : List Packet) → total (λ p. only p.connection (w p) c) rs ≡ total w (of c rs)
total_of w c [] = refl
total_of w c (r ∷ rs) = go (eqb r.connection c) refl (total_of w c rs)
  where
    go : (b : Bool) → eqb r.connection c ≡ b → total (λ p. only p.connection (w p) c) rs ≡ total w (of c rs)
        → only r.connection (w r) c + total (λ p. only p.connection (w p) c) rs ≡ total w (cond b (r ∷ of c rs) (of c rs))
    go true e k = omega (arith, only_at r.connection (w r) (eqb-true r.connection c e))
    go false e k = omega (arith, only_off r.connection (w r) (eqb-false r.connection c e))

-- a sum over all rows, sorted by connection
pub total_sorted : (w : Packet → ℕ) (n : ℕ) (rs : List Packet) → All (λ p. p.connection < n) rs → total w rs ≡ sum n (λ c. total w (of c rs))
total_sorted w n rs h =
    total_by (λ p. p.connection) w n rs h ∙ sum_eq n {f = λ c. total (λ p. only p.connection (w p) c) rs} {g = λ c. total w (of c rs)} (λ c l. total_of w c rs)
