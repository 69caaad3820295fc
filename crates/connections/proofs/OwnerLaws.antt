-- Laws of the numbers that have an owner: the lowest that has none, how many there are up to the last that has one, the earliest of those that are closed, and
-- sums over them.
use Prim.Native.Nat.{ℕ, zero, suc, ◌+◌, ◌-◌, ◌≤◌, ◌<◌, max}
use native.Mathlib.Omega.{arith}
use mathlib.Core.Path.{◌≡◌, refl, sym, ap, ◌∙◌}
use mathlib.Core.Bool.{Bool, true, false, cond, ◌&&◌}
use mathlib.Core.Logic.{◌⊎◌, inl, inr, ⊎_elim}
use mathlib.Core.List.{List, [], ◌∷◌}
use lib.Dec.{eqb}
use lib.ListN.{length, get_or, set, get_or-eq_default}
use borrow.Author.Tests.{eqb-true, eq-eqb, ne_eqb}
use Rattle.rules.specs.declared.Connection.{Connection}
use Rattle.rules.specs.Words.{sum}
use Rattle.rules.specs.Model.{Past, no_connection, nth}
use Rattle.rules.specs.Admission.{owned, free_number, joining}
use Rattle.rules.proofs.Sums.{split, same, cond_is, cond_ind, sum_eq, sum_add, only, only_at, only_off, sum_only}
use Rattle.rules.proofs.Standing.{level_free, owned_level, free_is, length_joining, nth_new, nth_other}
use Rattle.connections.specs.Members.{used_by, earlier, first_closed}
use Rattle.connections.specs.Rows.{last_of}

-- ---- the lowest free number

free_none : (cs : List Connection) → (nth cs (free_number cs)).level ≡ 0
free_none cs = ⊎_elim (λ l. ap (λ (x : Connection). x.level) (get_or-eq_default cs no_connection {n = free_number cs} l)) (free_is cs) (split (length cs) (free_number cs))

free_le : (cs : List Connection) (i : ℕ) → (nth cs i).level ≡ 0 → free_number cs ≤ i
free_le [] i e = omega arith
free_le (x ∷ cs) zero e = omega (arith, cond_is 0 (suc (free_number cs)) (eq-eqb x.level 0 e))
free_le (x ∷ cs) (suc i) e = cond_ind (λ (n : ℕ). n ≤ suc i) (eqb x.level 0) (λ _. omega arith) (λ _. omega (arith, free_le cs i e))

-- a number without an owner, below which each has one
pub free_first : (cs : List Connection) (i : ℕ) → (nth cs i).level ≡ 0 → ((k : ℕ) → k < i → (nth cs k).level ≡ 0 → ⊥) → i ≡ free_number cs
free_first cs i e below = ⊎_elim (λ l. omega (arith, free_le cs i e)) (λ l. absurd (below (free_number cs) l (free_none cs))) (split i (free_number cs))

-- ---- how many numbers there are up to the last owner

abbrev pub up_to : Bool → ℕ → ℕ
up_to free n = cond (eqb n 0 && free) 0 (suc n)

pub up_to_some : (b : Bool) (n : ℕ) → 1 ≤ n → up_to b n ≡ suc n
up_to_some b n h = rw (ne_eqb n 0 (λ e. omega arith))

up_to_le : (b : Bool) (n : ℕ) → up_to b n ≤ suc n
up_to_le true zero = omega arith
up_to_le false zero = omega arith
up_to_le b (suc n) = omega (arith, up_to_some b (suc n) (omega arith))

pub used_le : (cs : List Connection) → used_by cs ≤ length cs
used_le [] = omega arith
used_le (x ∷ cs) = omega (arith, used_le cs, up_to_le (eqb x.level 0) (used_by cs))

-- behind them nobody is one
pub level_behind : (cs : List Connection) (c : ℕ) → used_by cs ≤ c → (nth cs c).level ≡ 0
level_behind [] c h = refl
level_behind (x ∷ cs) zero h = go (eqb x.level 0) refl (used_by cs) h
  where
    go : (b : Bool) → eqb x.level 0 ≡ b → (n : ℕ) → up_to b n ≤ 0 → x.level ≡ 0
    go true e n l = eqb-true x.level 0 e
    go false e zero l = absurd (omega arith)
    go false e (suc n) l = absurd (omega (arith, up_to_some false (suc n) (omega arith)))
level_behind (x ∷ cs) (suc c) h = level_behind cs c (go (used_by cs) h)
  where
    go : (n : ℕ) → up_to (eqb x.level 0) n ≤ suc c → n ≤ c
    go zero l = omega arith
    go (suc n) l = omega (arith, up_to_some (eqb x.level 0) (suc n) (omega arith))

pub none_behind : (cs : List Connection) (c : ℕ) → used_by cs ≤ c → owned cs c ≡ false
none_behind cs c h = level_free cs c (level_behind cs c h)

pub owned_used : (cs : List Connection) (c : ℕ) → owned cs c ≡ true → c < used_by cs
owned_used cs c o = ⊎_elim (λ h. absurd (owned_level cs c o (level_behind cs c h))) (λ h. h) (split (used_by cs) c)

-- with an owner at c
up_to_owner : (b : Bool) (n : ℕ) → up_to false n ≡ max (up_to b n) 1
up_to_owner true zero = refl
up_to_owner false zero = refl
up_to_owner b (suc n) = omega (arith, up_to_some false (suc n) (omega arith), up_to_some b (suc n) (omega arith))

up_to_max : (b : Bool) (n c : ℕ) → up_to b (max n (suc c)) ≡ max (up_to b n) (suc (suc c))
up_to_max true zero c = up_to_some true (max 0 (suc c)) (omega arith) ∙ omega arith
up_to_max false zero c = up_to_some false (max 0 (suc c)) (omega arith) ∙ omega arith
up_to_max b (suc n) c = up_to_some b (max (suc n) (suc c)) (omega arith) ∙ omega (arith, up_to_some b (suc n) (omega arith))

pub used_set : (cs : List Connection) (c : ℕ) (x : Connection) → c < length cs → 1 ≤ x.level → used_by (set cs c x) ≡ max (used_by cs) (suc c)
used_set [] c x l h = absurd (omega arith)
used_set (y ∷ cs) zero x l h = ap (λ (b : Bool). up_to b (used_by cs)) (ne_eqb x.level 0 (λ e. omega arith)) ∙ up_to_owner (eqb y.level 0) (used_by cs)
used_set (y ∷ cs) (suc c) x l h = ap (up_to (eqb y.level 0)) (used_set cs c x (omega arith) h) ∙ up_to_max (eqb y.level 0) (used_by cs) c

-- ---- the earliest of those that are closed

-- of one that is not closed, another past changes nothing
pub first_same : (hs : List Past) (bs : List Bool) (c : ℕ) (h : Past) → get_or bs c false ≡ false → first_closed (set hs c h) bs ≡ first_closed hs bs
first_same [] bs c h e = refl
first_same (k ∷ hs) [] zero h e = refl
first_same (k ∷ hs) [] (suc c) h e = refl
first_same (k ∷ hs) (b ∷ bs) zero h e = cond_is (earlier (suc (last_of h)) (first_closed hs bs)) (first_closed hs bs) e ∙ sym (cond_is (earlier (suc (last_of k)) (first_closed hs bs)) (first_closed hs bs) e)
first_same (k ∷ hs) (b ∷ bs) (suc c) h e = ap (λ (n : ℕ). cond b (earlier (suc (last_of k)) n) n) (first_same hs bs c h e)

-- ---- a sum over the connections, to which a free number adds nothing

sum_further : (n k : ℕ) (f : ℕ → ℕ) → ((i : ℕ) → n ≤ i → f i ≡ 0) → sum (n + k) f ≡ sum n f
sum_further n zero f h = let e : n + 0 ≡ n = omega arith in ap (λ (j : ℕ). sum j f) e
sum_further n (suc k) f h = let e : n + suc k ≡ suc (n + k) = omega arith in ap (λ (j : ℕ). sum j f) e ∙ omega (arith, sum_further n k f h, h (n + k) (omega arith))

module _ (cs : List Connection) (f : Connection → ℕ) (z : f no_connection ≡ 0) where
  -- up to the last owner, or further
  pub sum_used : ((c : ℕ) → owned cs c ≡ false → nth cs c ≡ no_connection) → (n : ℕ) → used_by cs ≤ n → n ≤ length cs → sum n (λ c. f (nth cs c)) ≡ sum (length cs) (λ c. f (nth cs c))
  sum_used blank n h l =
      let e : n + (length cs - n) ≡ length cs = omega arith in
      sym (ap (λ (j : ℕ). sum j (λ c. f (nth cs c))) (sym e) ∙ sum_further n (length cs - n) (λ c. f (nth cs c)) (λ i k. ap f (blank i (none_behind cs i (omega arith))) ∙ z))

  -- a newcomer adds its own
  module _ (x : Connection) (room : free_number cs < length cs) (blank : nth cs (free_number cs) ≡ no_connection) where
    pub sum_joining : sum (length (joining cs x)) (λ c. f (nth (joining cs x) c)) ≡ sum (length cs) (λ c. f (nth cs c)) + f x
    sum_joining =
        omega (
          arith,
          ap (λ (n : ℕ). sum n (λ c. f (nth (joining cs x) c))) (length_joining cs x room),
          sum_eq (length cs) {f = λ c. f (nth (joining cs x) c)} {g = λ c. f (nth cs c) + only (free_number cs) (f x) c} (λ c k. one c (same c (free_number cs))),
          sum_add (length cs) (λ c. f (nth cs c)) (only (free_number cs) (f x)),
          sum_only (free_number cs) (f x) (length cs) room,
        )
      where
        one : (c : ℕ) → (c ≡ free_number cs) ⊎ (c ≡ free_number cs → ⊥) → f (nth (joining cs x) c) ≡ f (nth cs c) + only (free_number cs) (f x) c
        one c (inl e) =
            omega (
              arith,
              ap (λ (j : ℕ). f (nth (joining cs x) j)) e,
              ap f (nth_new cs x room),
              ap (λ (j : ℕ). f (nth cs j)) e,
              ap f blank,
              only_at (free_number cs) (f x) (sym e),
            )
        one c (inr e) = omega (arith, ap f (nth_other cs x room c e), only_off (free_number cs) (f x) {i = c} (λ i. e (sym i)))
