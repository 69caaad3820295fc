-- Eight numbers of a list, counted from a place: those of a list of eight, and of one that stands behind it.
use Rattle.std.proofs.Common.{◌≡◌, refl, ap, subst, ℕ, ◌+◌, List, [], ◌∷◌, ◌++◌, length, get_or}
use Rattle.rules.specs.Words.{tabulate}

all_of : (ds : List ℕ) → tabulate (length ds) (λ i. get_or ds i 0) ≡ ds
all_of [] = refl
all_of (d ∷ ds) = ap (λ l. d ∷ l) (all_of ds)

-- A list of eight numbers is these.
pub eight_of : (ds : List ℕ) → length ds ≡ 8 → tabulate 8 (λ i. get_or ds i 0) ≡ ds
eight_of ds e = subst (λ n. tabulate n (λ i. get_or ds i 0) ≡ ds) e (all_of ds)

-- Behind eight numbers there is none, or those that stand behind them.
pub none_behind : (ds : List ℕ) → length ds ≡ 8 → tabulate 8 (λ i. get_or ds (8 + i) 0) ≡ tabulate 8 (λ i. 0)
none_behind ds e = subst (λ l. tabulate 8 (λ i. get_or l (8 + i) 0) ≡ tabulate 8 (λ i. 0)) (eight_of ds e) refl

pub some_behind : (ds ws : List ℕ) → length ds ≡ 8 → tabulate 8 (λ i. get_or (ds ++ ws) (8 + i) 0) ≡ tabulate 8 (λ i. get_or ws i 0)
some_behind ds ws e = subst (λ l. tabulate 8 (λ i. get_or (l ++ ws) (8 + i) 0) ≡ tabulate 8 (λ i. get_or ws i 0)) (eight_of ds e) refl

pub first_eight : (ds ws : List ℕ) → length ds ≡ 8 → tabulate 8 (λ i. get_or (ds ++ ws) i 0) ≡ ds
first_eight ds ws e = subst (λ l. tabulate 8 (λ i. get_or (l ++ ws) i 0) ≡ l) (eight_of ds e) refl
