-- `(0..n).all(..)` against `every`: the test of each number below n.
use Rattle.std.proofs.Common.{◌≡◌, ℕ, zero, suc, ◌+◌, Bool, true, false, ◌&&◌, List, [], ◌∷◌, length, get_or, refl, sym, ap, ◌∙◌, arith}
use Rattle.std.proofs.iter.Yields.{nat_range_steps}
use Rattle.std.proofs.lemmas.Iterator.{YieldsList-from_range}
use Rattle.std.proofs.lemmas.Iterator.Search.{all_from_yields_List}
use Rattle.std.specs.declared.ops.Range.{Range}
use Rattle.std.specs.Fn.{Called}
use Rattle.std.specs.Iterator.{YieldsThen}
use Rattle.std.specs.List.{FoldsTo, list_all, range_with_len}
use Rattle.std.specs.Option.{MatchOption}
use Rattle.std.specs.Prelude.{Option}
use denote.Param.Members.{Mut}
use Rattle.rules.specs.Words.{every, each}
use Rattle.limits.proofs.EveryLaws.{every_same}

-- one more in front
pub every_front : (n : ℕ) (f : ℕ → Bool) → every (suc n) f ≡ (f 0 && every n (λ i. f (suc i)))
every_front zero f = both (f 0)
  where
    both : (b : Bool) → (true && b) ≡ (b && true)
    both true = refl
    both false = refl
every_front (suc n) f = ap (λ (b : Bool). b && f (suc n)) (every_front n f) ∙ regroup (f 0) (every n (λ i. f (suc i))) (f (suc n))
  where
    regroup : (a b c : Bool) → ((a && b) && c) ≡ (a && (b && c))
    regroup true b c = refl
    regroup false b c = refl

-- the elements of a list, by number
pub each_every : {A : Type 0} (f : A → Bool) (d : A) (xs : List A) → each f xs ≡ every (length xs) (λ i. f (get_or xs i d))
each_every f d [] = refl
each_every f d (x ∷ xs) =
    ap (λ (b : Bool). f x && b) (each_every f d xs) ∙ sym (every_front (length xs) (λ i. f (get_or (x ∷ xs) i d)))

-- those of a range, one by one
listed : (n a : ℕ) (f : ℕ → Bool) → list_all f (range_with_len a n) ≡ every n (λ i. f (a + i))
listed zero a f = refl
listed (suc n) a f =
    ap (λ (b : Bool). f a && b) (listed n (a + 1) f ∙ every_same n (λ i. f (a + 1 + i)) (λ i. f (a + suc i)) (λ i l. ap f (omega arith)))
    ∙ ap (λ (k : ℕ). f k && every n (λ i. f (a + suc i))) (omega arith)
    ∙ sym (every_front n (λ i. f (a + i)))

-- the clause of `all`: it answered r, of the numbers of the range s and the closure f
abbrev pub Answered : {F : Type 0} → Mut F (ℕ × Unit {0}) Bool → Range ℕ → Range ℕ → F → Bool → Type 0
Answered {F} g s u f r = (xs : List ℕ) × (o : Option ℕ) × (j : F) × YieldsThen nat_range_steps s xs o u × FoldsTo (λ p x q. Called g p (x, tt) true q) f xs j × MatchOption o (r ≡ true) (λ x. (r ≡ false) × ((h : F) × Called g j (x, tt) false h))

-- .. where the closure computes `test`
pub every_of_all : {F : Type 0} {g : Mut F (ℕ × Unit {0}) Bool} {s u : Range ℕ} {f : F} {r : Bool} (test : ℕ → Bool) (n : ℕ) → s ≡ record { start = 0; end = n }
    → Answered g s u f r → ((x : ℕ) (b : Bool) (q : F) → Called g f (x, tt) b q → (q ≡ f) × (b ≡ test x)) → r ≡ every n test
every_of_all test n e ran k =
    all_from_yields_List test _ _ _ ran (YieldsList-from_range 0 n n e (omega arith)) k
    ∙ listed n 0 test
    ∙ every_same n (λ i. test (0 + i)) test (λ i l. ap test (omega arith))
