-- What is remembered of a connection: the laws of `remember`, and of a memory from which the oldest are forgotten. Nothing else opens `remember`.
use Prim.Native.Nat.{ℕ, zero, suc, ◌+◌, ◌-◌, ◌≤◌, ◌<◌}
use native.Mathlib.Omega.{arith}
use mathlib.Core.Path.{◌≡◌, refl, sym, ap, ◌∙◌}
use mathlib.Core.Logic.{◌⊎◌, inl, inr}
use mathlib.Core.List.{List, [], ◌∷◌, ◌++◌, reverse_aux}
use mathlib.Core.Option.{Option, none, some}
use lib.ListN.{length, take, drop, get_elem?, length-take}
use lib.Seq.{take_all, take-take, drop-drop}
use Rattle.rules.specs.Limits.{max_remembered}
use Rattle.rules.specs.Model.{Past, no_past}
use Rattle.rules.specs.Service.{remember, remember_all}
use Rattle.rules.proofs.Lists.{All}
use Rattle.rules.proofs.Sums.{split}

-- what is remembered of a connection whose packets were accepted with these eligibilities, in order
abbrev pub memory : List ℕ → Past
memory es = remember_all no_past es

pub remember_all_snoc : (h : Past) (es : List ℕ) (e : ℕ) → remember_all h (es ++ e ∷ []) ≡ remember (remember_all h es) e
remember_all_snoc h [] e = refl
remember_all_snoc h (d ∷ es) e = remember_all_snoc (remember h d) es e

pub memory_snoc : (es : List ℕ) (e : ℕ) → memory (es ++ e ∷ []) ≡ remember (memory es) e
memory_snoc es e = remember_all_snoc no_past es e

-- ---- no more than its places

pub remember_few : (h : Past) (e : ℕ) → length (remember h e) ≤ max_remembered
unfolding remember
remember_few h e = omega (arith, length-take max_remembered (e ∷ h))

pub remember_all_few : (es : List ℕ) (h : Past) → length h ≤ max_remembered → length (remember_all h es) ≤ max_remembered
remember_all_few [] h l = l
remember_all_few (e ∷ es) h l = remember_all_few es (remember h e) (remember_few h e)

pub all_take : (P : ℕ → Type 0) (n : ℕ) (m : List ℕ) → All P m → All P (take n m)
all_take P zero m h = tt
all_take P (suc n) [] h = tt
all_take P (suc n) (b ∷ m) h = (h.0, all_take P n m h.1)

pub all_remember : (P : ℕ → Type 0) (h : Past) (e : ℕ) → All P h → P e → All P (remember h e)
unfolding remember
all_remember P h e a p = all_take P max_remembered (e ∷ h) (p, a)

-- what is remembered afterwards was remembered before, or came
pub all_remember_all : (P : ℕ → Type 0) (es : List ℕ) (h : Past) → All P h → All P es → All P (remember_all h es)
all_remember_all P [] h a b = a
all_remember_all P (e ∷ es) h a b = all_remember_all P es (remember h e) (all_remember P h e a b.0) b.1

-- ---- as far as it goes, it is the whole past

get_elem_take : (n i : ℕ) (l : List ℕ) → i < n → get_elem? (take n l) i ≡ get_elem? l i
get_elem_take zero i l h = absurd (omega arith)
get_elem_take (suc n) i [] h = refl
get_elem_take (suc n) zero (x ∷ l) h = refl
get_elem_take (suc n) (suc i) (x ∷ l) h = get_elem_take n i l (omega arith)

-- k tells of the newest what m does
abbrev pub Agrees : List ℕ → Past → Type 0
Agrees m k = (i : ℕ) → i < max_remembered → get_elem? k i ≡ get_elem? m i

pub agrees_remember : (m : List ℕ) (k : Past) (e : ℕ) → Agrees m k → Agrees (e ∷ m) (remember k e)
unfolding remember
agrees_remember m k e a zero l = refl
agrees_remember m k e a (suc i) l = get_elem_take 15 i k (omega arith) ∙ a i (omega arith)

pub agrees_all : (es m : List ℕ) (k : Past) → Agrees m k → Agrees (reverse_aux es m) (remember_all k es)
agrees_all [] m k a = a
agrees_all (e ∷ es) m k a = agrees_all es (e ∷ m) (remember k e) (agrees_remember m k e a)

-- ---- the oldest of m are forgotten, each of which has P: k is left

abbrev pub Forgets : (ℕ → Type 0) → List ℕ → List ℕ → Type 0
Forgets P m [] = All P m
Forgets P [] (a ∷ k) = ⊥
Forgets P (b ∷ m) (a ∷ k) = (b ≡ a) × Forgets P m k

module _ (P : ℕ → Type 0) where
  forgets_take : (n : ℕ) (m k : List ℕ) → Forgets P m k → Forgets P (take n m) (take n k)
  forgets_take zero m k h = tt
  forgets_take (suc n) m [] h = all_take P (suc n) m h
  forgets_take (suc n) [] (a ∷ k) h = absurd h
  forgets_take (suc n) (b ∷ m) (a ∷ k) h = (h.0, forgets_take n m k h.1)

  -- those beyond a number are
  pub take_forgets : (n : ℕ) (m : List ℕ) → All P m → Forgets P m (take n m)
  take_forgets zero m h = h
  take_forgets (suc n) [] h = tt
  take_forgets (suc n) (b ∷ m) h = (refl, take_forgets n m h.1)

  pub remember_forgets : (m : List ℕ) (e : ℕ) → All P (e ∷ m) → Forgets P (e ∷ m) (remember m e)
  unfolding remember
  remember_forgets m e h = take_forgets max_remembered (e ∷ m) h

  pub forgets_remember : (m k : List ℕ) (e : ℕ) → Forgets P m k → Forgets P (remember m e) (remember k e)
  unfolding remember
  forgets_remember m k e h = forgets_take max_remembered (e ∷ m) (e ∷ k) (refl, h)

  -- of an eligibility that is forgotten: it had P
  abbrev pub Had : Option ℕ → Type 0
  Had none = Unit {0}
  Had (some a) = P a

  had_at : (m : List ℕ) (i : ℕ) → All P m → Had (get_elem? m i)
  had_at [] i h = tt
  had_at (b ∷ m) zero h = h.0
  had_at (b ∷ m) (suc i) h = had_at m i h.1

  pub forgets_at : (m k : List ℕ) → Forgets P m k → (i : ℕ) → (get_elem? k i ≡ get_elem? m i) ⊎ ((get_elem? k i ≡ none) × Had (get_elem? m i))
  forgets_at m [] h i = inr (refl, had_at m i h)
  forgets_at [] (a ∷ k) h i = absurd h
  forgets_at (b ∷ m) (a ∷ k) h zero = inl (ap some (sym h.0))
  forgets_at (b ∷ m) (a ∷ k) h (suc i) = forgets_at m k h.1 i

-- ---- behind the rows that are remembered, what is left of the memory before them

module _ (m : Past) (e : ℕ) where
  one_less : (n r : ℕ) → max_remembered - n ≡ r → drop 1 (take r (e ∷ take 15 m)) ≡ take (max_remembered - suc n) m
  one_less n zero i = ap (λ (k : ℕ). take k m) zeros
    where
      zeros : 0 ≡ max_remembered - suc n
      zeros = omega arith
  one_less n (suc j) i = take-take j 15 m (omega arith) ∙ ap (λ (k : ℕ). take k m) less
    where
      less : j ≡ max_remembered - suc n
      less = omega arith

pub rest_of : (es : List ℕ) (m : Past) → length m ≤ max_remembered → drop (length es) (remember_all m es) ≡ take (max_remembered - length es) m
unfolding remember
rest_of [] m l = sym (take_all max_remembered m l)
rest_of (e ∷ es) m l =
    ap (λ (k : ℕ). drop k (remember_all (remember m e) es)) more
    ∙ sym (drop-drop 1 (length es) (remember_all (remember m e) es))
    ∙ ap (drop 1) (rest_of es (remember m e) (remember_few m e))
    ∙ one_less m e (length es) (max_remembered - length es) refl
  where
    more : suc (length es) ≡ length es + 1
    more = omega arith

-- .. which is enough: what is forgotten would not be remembered
same_front : (k : ℕ) → k ≤ max_remembered → (es : List ℕ) (m n : Past) (j : ℕ) → k ≤ j + length es → take j m ≡ take j n → take k (remember_all m es) ≡ take k (remember_all n es)
unfolding remember
same_front k few [] m n j l e = sym (take-take k j m (omega arith)) ∙ ap (take k) e ∙ take-take k j n (omega arith)
same_front k few (f ∷ es) m n j l e = go (split (suc j) max_remembered) (same_front k few es (remember m f) (remember n f))
  where
    go : (suc j ≤ max_remembered) ⊎ (max_remembered < suc j)
        → ((i : ℕ) → k ≤ i + length es → take i (remember m f) ≡ take i (remember n f) → take k (remember_all (remember m f) es) ≡ take k (remember_all (remember n f) es))
        → take k (remember_all (remember m f) es) ≡ take k (remember_all (remember n f) es)
    go (inl h) ih =
        ih (suc j) (omega arith)
        (take-take (suc j) max_remembered (f ∷ m) h ∙ ap (λ (l : List ℕ). f ∷ l) e ∙ sym (take-take (suc j) max_remembered (f ∷ n) h))
    go (inr h) ih =
        ih max_remembered (omega arith)
        (ap (take max_remembered)
        (ap (λ (l : List ℕ). f ∷ l)
        (sym (take-take 15 j m (omega arith)) ∙ ap (take 15) e ∙ take-take 15 j n (omega arith))))

pub rest_enough : (es : List ℕ) (m : Past) → length m ≤ max_remembered → remember_all (take (max_remembered - length es) m) es ≡ remember_all m es
rest_enough es m l =
    sym (take_all max_remembered (remember_all rest es) (remember_all_few es rest (omega (arith, length-take (max_remembered - length es) m))))
    ∙ same_front max_remembered (omega arith) es rest m (max_remembered - length es) (omega arith) (take-take (max_remembered - length es) (max_remembered - length es) m (omega arith))
    ∙ take_all max_remembered (remember_all m es) (remember_all_few es m l)
  where
    rest : Past
    rest = take (max_remembered - length es) m
