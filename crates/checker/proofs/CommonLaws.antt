-- The length of the longest common beginning of two lists.
use Prim.Native.Nat.{ℕ, zero, suc, ◌+◌, ◌≤◌, ◌<◌}
use native.Mathlib.Omega.{arith}
use mathlib.Core.Path.{◌≡◌, refl, ap}
use mathlib.Core.Bool.{Bool, true, false, cond}
use mathlib.Core.Logic.{◌⊎◌, inl, inr}
use mathlib.Core.List.{List, [], ◌∷◌, ◌++◌}
use lib.Dec.{eqb}
use lib.ListN.{length, take, drop, get_or}
use borrow.Author.Tests.{eq-eqb, eqb-true, eqb-false}
use Rattle.checker.specs.Judgement.{common, Common}

-- ---- bounds

pub common_le : (l m : List ℕ) → (common l m ≤ length l) × (common l m ≤ length m)
common_le [] m = (omega arith, omega arith)
common_le (x ∷ l) [] = (omega arith, omega arith)
common_le (x ∷ l) (y ∷ m) = go (eqb x y) (common_le l m)
  where
    go : (b : Bool) → (common l m ≤ length l) × (common l m ≤ length m) → (cond b (suc (common l m)) 0 ≤ suc (length l)) × (cond b (suc (common l m)) 0 ≤ suc (length m))
    go true k = (omega (arith, k.0), omega (arith, k.1))
    go false k = (omega arith, omega arith)

-- ---- with a common beginning

pub common_behind : (p x y : List ℕ) → common (p ++ x) (p ++ y) ≡ length p + common x y
common_behind [] x y = omega arith
common_behind (a ∷ p) x y = rw (eq-eqb a a refl) (omega (arith, common_behind p x y))

pub common_itself : (l : List ℕ) → common l l ≡ length l
common_itself [] = refl
common_itself (a ∷ l) = rw (eq-eqb a a refl) (ap suc (common_itself l))

-- r bytes are known to be alike
pub common_from : (r : ℕ) (a b : List ℕ) → r ≤ length a → r ≤ length b → take r a ≡ take r b → common a b ≡ r + common (drop r a) (drop r b)
common_from zero a b h k e = omega arith
common_from (suc r) [] b h k e = absurd (omega arith)
common_from (suc r) (x ∷ a) [] h k e = absurd (omega arith)
common_from (suc r) (x ∷ a) (y ∷ b) h k e =
    let i : x ≡ y = ap (λ (l : List ℕ). get_or l 0 0) e in
    let j : take r a ≡ take r b = ap (λ (l : List ℕ). drop 1 l) e in
    rw (eq-eqb x y i) (omega (arith, common_from r a b (omega arith) (omega arith) j))

-- ---- what comes behind

-- the two differ: nothing behind matters
pub common_apart : (x y u v : List ℕ) → common x y < length x → common x y < length y → common (x ++ u) (y ++ v) ≡ common x y
common_apart [] y u v h k = absurd (omega arith)
common_apart (a ∷ x) [] u v h k = absurd (omega arith)
common_apart (a ∷ x) (b ∷ y) u v h k = go (eqb a b) (common_apart x y u v) h k
  where
    go : (c : Bool) → (common x y < length x → common x y < length y → common (x ++ u) (y ++ v) ≡ common x y) → cond c (suc (common x y)) 0 < suc (length x) → cond c (suc (common x y)) 0 < suc (length y)
        → cond c (suc (common (x ++ u) (y ++ v))) 0 ≡ cond c (suc (common x y)) 0
    go true f h k = ap suc (f (omega arith) (omega arith))
    go false f h k = refl

-- the first is a beginning of the second
pub common_early : (x y v : List ℕ) → common x y ≡ length x → common x (y ++ v) ≡ length x
common_early [] y v e = refl
common_early (a ∷ x) [] v e = absurd (omega arith)
common_early (a ∷ x) (b ∷ y) v e = go (eqb a b) (common_early x y v) e
  where
    go : (c : Bool) → (common x y ≡ length x → common x (y ++ v) ≡ length x) → cond c (suc (common x y)) 0 ≡ suc (length x) → cond c (suc (common x (y ++ v))) 0 ≡ suc (length x)
    go true f e = ap suc (f (omega arith))
    go false f e = absurd (omega arith)

-- ---- all of both

pub common_all : (l m : List ℕ) → common l m ≡ length l → common l m ≡ length m → l ≡ m
common_all [] [] e f = refl
common_all [] (y ∷ m) e f = absurd (omega arith)
common_all (x ∷ l) [] e f = absurd (omega arith)
common_all (x ∷ l) (y ∷ m) e f = go (eqb x y) refl (common_all l m) e f
  where
    go : (c : Bool) → eqb x y ≡ c → (common l m ≡ length l → common l m ≡ length m → l ≡ m) → cond c (suc (common l m)) 0 ≡ suc (length l) → cond c (suc (common l m)) 0 ≡ suc (length m) → x ∷ l ≡ y ∷ m
    go true b g e f = let i = eqb-true x y b in rw (i, g (omega arith) (omega arith))
    go false b g e f = absurd (omega arith)

-- ---- it is the longest

pub common_is : (l m : List ℕ) → Common (common l m) l m
common_is [] m = record { alike = refl; within = (omega arith, omega arith); there = inl refl }
common_is (x ∷ l) [] = record { alike = refl; within = (omega arith, omega arith); there = inr (inl refl) }
common_is (x ∷ l) (y ∷ m) = go (eqb x y) refl (common_is l m)
  where
    there : Common (common l m) l m → (suc (common l m) ≡ suc (length l)) ⊎ ((suc (common l m) ≡ suc (length m)) ⊎ (get_or l (common l m) 0 ≡ get_or m (common l m) 0 → ⊥))
    there k = step k.there
      where
        step : (common l m ≡ length l) ⊎ ((common l m ≡ length m) ⊎ (get_or l (common l m) 0 ≡ get_or m (common l m) 0 → ⊥))
            → (suc (common l m) ≡ suc (length l)) ⊎ ((suc (common l m) ≡ suc (length m)) ⊎ (get_or l (common l m) 0 ≡ get_or m (common l m) 0 → ⊥))
        step (inl e) = inl (ap suc e)
        step (inr (inl e)) = inr (inl (ap suc e))
        step (inr (inr d)) = inr (inr d)

    go : (c : Bool) → eqb x y ≡ c → Common (common l m) l m → Common (cond c (suc (common l m)) 0) (x ∷ l) (y ∷ m)
    go true b k =
        let i = eqb-true x y b in
        record { alike = rw (i, k.alike); within = (omega (arith, k.within.0), omega (arith, k.within.1)); there = there k }
    go false b k = record { alike = refl; within = (omega arith, omega arith); there = inr (inr (eqb-false x y b)) }

-- no other number is
pub common_one : (n : ℕ) (l m : List ℕ) → Common n l m → n ≡ common l m
common_one zero [] m C = refl
common_one zero (x ∷ l) [] C = refl
common_one zero (x ∷ l) (y ∷ m) C = go (eqb x y) refl C.there
  where
    go : (c : Bool) → eqb x y ≡ c → (0 ≡ suc (length l)) ⊎ ((0 ≡ suc (length m)) ⊎ (x ≡ y → ⊥)) → 0 ≡ cond c (suc (common l m)) 0
    go true b (inl e) = absurd (omega arith)
    go true b (inr (inl e)) = absurd (omega arith)
    go true b (inr (inr d)) = absurd (d (eqb-true x y b))
    go false b t = refl
common_one (suc n) [] m C = absurd (omega (arith, C.within.0))
common_one (suc n) (x ∷ l) [] C = absurd (omega (arith, C.within.1))
common_one (suc n) (x ∷ l) (y ∷ m) C =
    let i : x ≡ y = ap (λ (k : List ℕ). get_or k 0 0) C.alike in
    let j : take n l ≡ take n m = ap (λ (k : List ℕ). drop 1 k) C.alike in
    rw (eq-eqb x y i) (ap suc (common_one n l m (record { alike = j; within = (omega (arith, C.within.0), omega (arith, C.within.1)); there = go C.there })))
  where
    go : (suc n ≡ suc (length l)) ⊎ ((suc n ≡ suc (length m)) ⊎ (get_or l n 0 ≡ get_or m n 0 → ⊥)) → (n ≡ length l) ⊎ ((n ≡ length m) ⊎ (get_or l n 0 ≡ get_or m n 0 → ⊥))
    go (inl e) = inl (omega arith)
    go (inr (inl e)) = inr (inl (omega arith))
    go (inr (inr d)) = inr (inr d)
