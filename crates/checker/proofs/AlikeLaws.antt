-- Eights of bytes that two lists have in common, and single bytes.
use Prim.Native.Nat.{ℕ, zero, suc, ◌+◌, ◌*◌, ◌-◌, ◌≤◌, ◌/◌}
use native.Mathlib.Omega.{arith}
use mathlib.Core.Path.{◌≡◌, refl, sym, ap, ◌∙◌}
use mathlib.Core.Bool.{Bool, true, false, cond}
use mathlib.Core.List.{List, [], ◌∷◌}
use lib.Dec.{eqb}
use lib.ListN.{length, take, drop}
use lib.Seq.{take-add}
use Rattle.std.specs.List.{prefix_len, zip}
use Rattle.std.specs.Simd.{first_chunks}
use Rattle.std.specs.Cmp.Lexicographic.{pointwise, same_text}
use Rattle.std.proofs.lemmas.List.{take_rest}
use Rattle.checker.specs.Judgement.{common}
use Rattle.checker.proofs.CommonLaws.{common_from}

-- single bytes
pub bytes_common : (x y : List ℕ) → prefix_len (λ (p : ℕ × ℕ). eqb p.0 p.1) (zip x y) ≡ common x y
bytes_common [] y = refl
bytes_common (a ∷ x) [] = refl
bytes_common (a ∷ x) (b ∷ y) = go (eqb a b) (bytes_common x y)
  where
    go : (c : Bool) → prefix_len (λ (p : ℕ × ℕ). eqb p.0 p.1) (zip x y) ≡ common x y → cond c (1 + prefix_len (λ (p : ℕ × ℕ). eqb p.0 p.1) (zip x y)) 0 ≡ cond c (suc (common x y)) 0
    go true e = omega (arith, e)
    go false e = refl

-- how many eights, of n and of m
abbrev pub met : ℕ → ℕ → List ℕ → List ℕ → ℕ
met n m x y = prefix_len (λ (p : List ℕ × List ℕ). pointwise eqb p.0 p.1) (zip (first_chunks 8 n x) (first_chunks 8 m y))

pub met_few : (n m : ℕ) (x y : List ℕ) → (met n m x y ≤ n) × (met n m x y ≤ m)
met_few zero m x y = (omega arith, omega arith)
met_few (suc n) zero x y = (omega arith, omega arith)
met_few (suc n) (suc m) x y = go (pointwise eqb (take 8 x) (take 8 y)) (met_few n m (drop 8 x) (drop 8 y))
  where
    k : ℕ
    k = met n m (drop 8 x) (drop 8 y)

    go : (b : Bool) → (k ≤ n) × (k ≤ m) → (cond b (1 + k) 0 ≤ suc n) × (cond b (1 + k) 0 ≤ suc m)
    go true l = (omega (arith, l.0), omega (arith, l.1))
    go false l = (omega arith, omega arith)

pub met_same : (n m : ℕ) (x y : List ℕ) → take (met n m x y * 8) x ≡ take (met n m x y * 8) y
met_same zero m x y = refl
met_same (suc n) zero x y = refl
met_same (suc n) (suc m) x y = go (pointwise eqb (take 8 x) (take 8 y)) refl (met_same n m (drop 8 x) (drop 8 y))
  where
    k : ℕ
    k = met n m (drop 8 x) (drop 8 y)

    go : (b : Bool) → pointwise eqb (take 8 x) (take 8 y) ≡ b → take (k * 8) (drop 8 x) ≡ take (k * 8) (drop 8 y) → take (cond b (1 + k) 0 * 8) x ≡ take (cond b (1 + k) 0 * 8) y
    go true e f =
        let more : (1 + k) * 8 ≡ 8 + k * 8 = omega arith in
        let here : take 8 x ≡ take 8 y = same_text (take 8 x) (take 8 y) (sym e) in
        rw (more, take-add 8 (k * 8) x, take-add 8 (k * 8) y, here, f)
    go false e f = refl

-- .. where each is cut into as many as it has
pub eights_are : (a b : List ℕ) {x y : List (List ℕ)} {r : ℕ} → x ≡ first_chunks 8 (length a / 8) a → y ≡ first_chunks 8 (length b / 8) b
    → r ≡ prefix_len (λ (p : List ℕ × List ℕ). pointwise eqb p.0 p.1) (zip x y) → (r * 8 ≤ length a) × (r * 8 ≤ length b) × (take (r * 8) a ≡ take (r * 8) b)
eights_are a b {x} {y} {r} f g k =
    let n = length a / 8 in
    let m = length b / 8 in
    let e : r ≡ met n m a b =
    k ∙ ap (λ (z : List (List ℕ)). prefix_len (λ (p : List ℕ × List ℕ). pointwise eqb p.0 p.1) (zip z y)) f
    ∙ ap (λ (z : List (List ℕ)). prefix_len (λ (p : List ℕ × List ℕ). pointwise eqb p.0 p.1) (zip (first_chunks 8 n a) z)) g in
    let w = met_few n m a b in
    (omega (arith, e, w.0), omega (arith, e, w.1), rw e (met_same n m a b))

-- .. and of what is left behind them all that are the same
pub rest_common : (a b : List ℕ) (m : ℕ) {r : ℕ} → m ≤ length a → m ≤ length b → take m a ≡ take m b → r ≡ common (take (length a - m) (drop m a)) (take (length b - m) (drop m b)) → m + r ≡ common a b
rest_common a b m h g e k =
    let c = common_from m a b h g e in
    let t = rw (take_rest a m, take_rest b m) at k in
    omega (arith, c, t)
