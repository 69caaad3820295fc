-- Lists: a property of every element, a relation of every earlier to every later element, sublists, and sums of weights.
use Prim.Native.Nat.{ℕ, zero, suc, ◌+◌, ◌*◌, ◌≤◌, ◌<◌}
use native.Mathlib.Omega.{arith}
use mathlib.Core.Path.{◌≡◌, refl, sym, ap}
use mathlib.Core.Bool.{Bool, true, false, cond, true≢false}
use Rattle.rules.specs.Words.{filter}
use mathlib.Core.List.{List, [], ◌∷◌, ◌++◌}
use lib.ListN.{length, get_or, set}
pub use Rattle.rules.specs.Words.{All, Pairs, total}

module _ {A : Type 0} where
  pub all_map : {P Q : A → Type 0} → ((x : A) → P x → Q x) → (xs : List A) → All P xs → All Q xs
  all_map f [] h = tt
  all_map f (x ∷ xs) h = (f x h.0, all_map f xs h.1)

  pub all_zip : {P Q R : A → Type 0} → ((x : A) → P x → Q x → R x) → (xs : List A) → All P xs → All Q xs → All R xs
  all_zip f [] h k = tt
  all_zip f (x ∷ xs) h k = (f x h.0 k.0, all_zip f xs h.1 k.1)

  pub all_snoc : (P : A → Type 0) (xs : List A) (y : A) → All P xs → P y → All P (xs ++ y ∷ [])
  all_snoc P [] y h p = (p, tt)
  all_snoc P (x ∷ xs) y h p = (h.0, all_snoc P xs y h.1 p)

  pub pairs_snoc : (R : A → A → Type 0) (xs : List A) (y : A) → Pairs R xs → All (λ x. R x y) xs → Pairs R (xs ++ y ∷ [])
  pairs_snoc R [] y h p = (tt, tt)
  pairs_snoc R (x ∷ xs) y h p = (all_snoc (R x) xs y h.0 p.0, pairs_snoc R xs y h.1 p.1)

  pub pairs_map : (P : A → Type 0) {R S : A → A → Type 0} → ((x y : A) → P x → R x y → S x y) → (xs : List A) → All P xs → Pairs R xs → Pairs S xs
  pairs_map P f [] h k = tt
  pairs_map P f (x ∷ xs) h k = (all_map (λ y r. f x y h.0 r) xs k.0, pairs_map P f xs h.1 k.1)

  pub all_init : (P : A → Type 0) (xs : List A) (y : A) → All P (xs ++ y ∷ []) → All P xs × P y
  all_init P [] y h = (tt, h.0)
  all_init P (x ∷ xs) y h = let k = all_init P xs y h.1 in ((h.0, k.0), k.1)

  pub pairs_init : (R : A → A → Type 0) (xs : List A) (y : A) → Pairs R (xs ++ y ∷ []) → Pairs R xs × All (λ x. R x y) xs
  pairs_init R [] y h = (tt, tt)
  pairs_init R (x ∷ xs) y h =
      let k = pairs_init R xs y h.1 in
      let a = all_init (R x) xs y h.0 in
      ((a.0, k.0), (a.1, k.1))

  pub all_front : (P : A → Type 0) (xs ys : List A) → All P (xs ++ ys) → All P xs
  all_front P [] ys h = tt
  all_front P (x ∷ xs) ys h = (h.0, all_front P xs ys h.1)

  pub pairs_front : (R : A → A → Type 0) (xs ys : List A) → Pairs R (xs ++ ys) → Pairs R xs
  pairs_front R [] ys h = tt
  pairs_front R (x ∷ xs) ys h = (all_front (R x) xs ys h.0, pairs_front R xs ys h.1)

  pub data Sub : List A → List A → Type 0 where
    nil : Sub [] []
    skip : {xs ys : List A} (y : A) → Sub xs ys → Sub xs (y ∷ ys)
    keep : {xs ys : List A} (x : A) → Sub xs ys → Sub (x ∷ xs) (x ∷ ys)

  pub sub_snoc : {xs ys : List A} (a : A) → Sub xs ys → Sub (xs ++ a ∷ []) (ys ++ a ∷ [])
  sub_snoc a nil = keep a nil
  sub_snoc a (skip y s) = skip y (sub_snoc a s)
  sub_snoc a (keep x s) = keep x (sub_snoc a s)

  pub sub_more : {xs ys : List A} (zs : List A) → Sub xs ys → Sub xs (ys ++ zs)
  sub_more [] nil = nil
  sub_more (z ∷ zs) nil = skip z (sub_more zs nil)
  sub_more zs (skip y s) = skip y (sub_more zs s)
  sub_more zs (keep x s) = keep x (sub_more zs s)

  -- the same, with the longer one first: it is the one that the recursion goes over
  sub_after : {ys zs : List A} → Sub ys zs → {xs : List A} → Sub xs ys → Sub xs zs
  sub_after nil s = s
  sub_after (skip z t) s = skip z (sub_after t s)
  sub_after (keep x t) (skip y s) = skip x (sub_after t s)
  sub_after (keep x t) (keep y s) = keep x (sub_after t s)

  pub sub_trans : {xs ys zs : List A} → Sub xs ys → Sub ys zs → Sub xs zs
  sub_trans s t = sub_after t s

  pub sub_refl : (xs : List A) → Sub xs xs
  sub_refl [] = nil
  sub_refl (x ∷ xs) = keep x (sub_refl xs)

  pub all_sub : (P : A → Type 0) {xs ys : List A} → Sub xs ys → All P ys → All P xs
  all_sub P nil h = tt
  all_sub P (skip y s) h = all_sub P s h.1
  all_sub P (keep x s) h = (h.0, all_sub P s h.1)

  -- ---- the sum of a weight over a list
  pub total_snoc : (w : A → ℕ) (xs : List A) (y : A) → total w (xs ++ y ∷ []) ≡ total w xs + w y
  total_snoc w [] y = omega arith
  total_snoc w (x ∷ xs) y = omega (arith, total_snoc w xs y)

  pub total_le : (w v : A → ℕ) (xs : List A) → All (λ x. w x ≤ v x) xs → total w xs ≤ total v xs
  total_le w v [] h = omega arith
  total_le w v (x ∷ xs) h = omega (arith, total_le w v xs h.1)

  pub total_eq : (w v : A → ℕ) (xs : List A) → All (λ x. w x ≡ v x) xs → total w xs ≡ total v xs
  total_eq w v [] h = refl
  total_eq w v (x ∷ xs) h = omega (arith, total_eq w v xs h.1)

  pub total_add : (w v : A → ℕ) (xs : List A) → total (λ x. w x + v x) xs ≡ total w xs + total v xs
  total_add w v [] = omega arith
  total_add w v (x ∷ xs) = omega (arith, total_add w v xs)

  pub total_sub : (w : A → ℕ) {xs ys : List A} → Sub xs ys → total w xs ≤ total w ys
  total_sub w nil = omega arith
  total_sub w (skip y s) = omega (arith, total_sub w s)
  total_sub w (keep x s) = omega (arith, total_sub w s)

  -- a weight that sums to 0 is 0 at every element
  pub total_zero : (w : A → ℕ) (xs : List A) → total w xs ≡ 0 → All (λ x. w x ≡ 0) xs
  total_zero w [] e = tt
  total_zero w (x ∷ xs) e = (omega arith, total_zero w xs (omega arith))

  -- each element weighs at most what all do
  pub total_each : (w : A → ℕ) (xs : List A) → All (λ x. w x ≤ total w xs) xs
  total_each w [] = tt
  total_each w (x ∷ xs) = (omega arith, all_map (λ y h. omega arith) xs (total_each w xs))

  -- a weight that is 0 at every element sums to 0
  pub total_none : (w : A → ℕ) (xs : List A) → All (λ x. w x ≡ 0) xs → total w xs ≡ 0
  total_none w [] h = refl
  total_none w (x ∷ xs) h = omega (arith, total_none w xs h.1)

  pub total_mul : (w : A → ℕ) (k : ℕ) (xs : List A) → total (λ x. w x * k) xs ≡ total w xs * k
  total_mul w k [] = omega arith
  total_mul w k (x ∷ xs) = omega (arith, total_mul w k xs)

  -- what each x says of all elements it says of itself
  pub all_self : (Q : A → A → Type 0) (xs : List A) → ((x : A) → All (Q x) xs) → All (λ x. Q x x) xs
  all_self Q [] h = tt
  all_self Q (x ∷ xs) h = ((h x).0, all_self Q xs (λ y. (h y).1))

  -- what holds of everything holds of each element
  pub all_every : {P : A → Type 0} → ((x : A) → P x) → (xs : List A) → All P xs
  all_every f [] = tt
  all_every f (x ∷ xs) = (f x, all_every f xs)

  pub all_at : (P : A → Type 0) (xs : List A) (i : ℕ) (d : A) → i < length xs → All P xs → P (get_or xs i d)
  all_at P [] i d l h = absurd (omega arith)
  all_at P (x ∷ xs) zero d l h = h.0
  all_at P (x ∷ xs) (suc i) d l h = all_at P xs i d (omega arith) h.1

  pub all_from : (P : A → Type 0) (xs : List A) (d : A) → ((i : ℕ) → i < length xs → P (get_or xs i d)) → All P xs
  all_from P [] d f = tt
  all_from P (x ∷ xs) d f = (f 0 (omega arith), all_from P xs d (λ i l. f (suc i) (omega arith)))

  -- two lists with the same elements
  pub list_eq : (xs ys : List A) (d : A) → length xs ≡ length ys → ((i : ℕ) → i < length xs → get_or xs i d ≡ get_or ys i d) → xs ≡ ys
  list_eq [] [] d e h = refl
  list_eq [] (y ∷ ys) d e h = absurd (omega arith)
  list_eq (x ∷ xs) [] d e h = absurd (omega arith)
  list_eq (x ∷ xs) (y ∷ ys) d e h = rw (h 0 (omega arith), list_eq xs ys d (omega arith) (λ i l. h (suc i) (omega arith)))

  pub all_set : (P : A → Type 0) (xs : List A) (i : ℕ) (y : A) → All P xs → P y → All P (set xs i y)
  all_set P [] i y h k = tt
  all_set P (x ∷ xs) zero y h k = (k, h.1)
  all_set P (x ∷ xs) (suc i) y h k = (h.0, all_set P xs i y h.1 k)

  -- ---- those for which a test holds
  pub filter_all : (f : A → Bool) (xs : List A) → All (λ x. f x ≡ true) xs → filter f xs ≡ xs
  filter_all f [] h = refl
  filter_all f (x ∷ xs) h = go (f x) h.0 (filter_all f xs h.1)
    where
      go : (b : Bool) → b ≡ true → filter f xs ≡ xs → cond b (x ∷ filter f xs) (filter f xs) ≡ x ∷ xs
      go true e k = ap (λ (l : List A). x ∷ l) k
      go false e k = absurd (true≢false (sym e))

  pub filter_snoc_off : (f : A → Bool) (xs : List A) (y : A) → f y ≡ false → filter f (xs ++ y ∷ []) ≡ filter f xs
  filter_snoc_off f [] y e = ap (λ (b : Bool). cond b (y ∷ []) []) e
  filter_snoc_off f (x ∷ xs) y e = ap (λ (l : List A). cond (f x) (x ∷ l) l) (filter_snoc_off f xs y e)

  pub all_filter : (P : A → Type 0) (f : A → Bool) (xs : List A) → All P xs → All (λ x. (f x ≡ true) × P x) (filter f xs)
  all_filter P f [] h = tt
  all_filter P f (x ∷ xs) h = go (f x) refl (all_filter P f xs h.1)
    where
      go : (b : Bool) → f x ≡ b → All (λ x. (f x ≡ true) × P x) (filter f xs) → All (λ x. (f x ≡ true) × P x) (cond b (x ∷ filter f xs) (filter f xs))
      go true e k = ((e, h.0), k)
      go false e k = k

  pub sub_filter : (f : A → Bool) {xs ys : List A} → Sub xs ys → All (λ x. f x ≡ true) xs → Sub xs (filter f ys)
  sub_filter f nil h = nil
  sub_filter f (skip {xs = xs} {ys = ys} y s) h = go (f y) (sub_filter f s h)
    where
      go : (b : Bool) → Sub xs (filter f ys) → Sub xs (cond b (y ∷ filter f ys) (filter f ys))
      go true k = skip y k
      go false k = k
  sub_filter f (keep {xs = xs} {ys = ys} x s) h = go (f x) h.0 (sub_filter f s h.1)
    where
      go : (b : Bool) → b ≡ true → Sub xs (filter f ys) → Sub (x ∷ xs) (cond b (x ∷ filter f ys) (filter f ys))
      go true e k = keep x k
      go false e k = absurd (true≢false (sym e))

  -- a weight that the others do not have
  pub total_filter : (w v : A → ℕ) (f : A → Bool) (xs : List A) → All (λ x. (f x ≡ true → w x ≤ v x) × (f x ≡ false → w x ≡ 0)) xs → total w xs ≤ total v (filter f xs)
  total_filter w v f [] h = omega arith
  total_filter w v f (x ∷ xs) h = go (f x) refl (total_filter w v f xs h.1)
    where
      go : (b : Bool) → f x ≡ b → total w xs ≤ total v (filter f xs) → w x + total w xs ≤ total v (cond b (x ∷ filter f xs) (filter f xs))
      go true e k = omega (arith, h.0.0 e)
      go false e k = omega (arith, h.0.1 e)
