-- THE JUDGEMENT of a log, held against the log that the rules give for a trace. Document 02, R-14.
use Rattle.std.specs.Prelude.{ℕ, suc, ◌<◌, ◌≡◌, cond, ◌⊎◌, ◌↔◌, List, [], ◌∷◌, eqb, length, take, get_or}
use Rattle.checker.specs.declared.Finding.{Finding}
use Rattle.checker.specs.declared.Finding.TheVariants.{Accepted, Differs, TooLong, EndsEarly}

-- the length of the longest common beginning
abbrev pub common : List ℕ → List ℕ → ℕ
common [] m = 0
common (x ∷ l) [] = 0
common (x ∷ l) (y ∷ m) = cond (eqb x y) (suc (common l m)) 0

-- n is that length: up to n they are alike, and there one of them ends or they differ
pub record Common (n : ℕ) (l m : List ℕ) : Type 0 where
  pub alike : take n l ≡ take n m
  pub within : (n < suc (length l)) × (n < suc (length m))
  pub there : (n ≡ length l) ⊎ ((n ≡ length m) ⊎ (get_or l n 0 ≡ get_or m n 0 → ⊥))

-- THE JUDGEMENT: f is found, with the offset n, where `found` is held against `expected`. "Accept exactly when the log is the one the rules give", else "the first byte of
-- the log that differs or is one too many, or its length if it ends early"
pub record Judged (f : Finding) (n : ℕ) (found expected : List ℕ) : Type 0 where
  -- a log is accepted exactly if it is the one that the rules give
  pub accepts_exactly : f ≡ Accepted ↔ found ≡ expected
  -- the offset is always the length of the longest common beginning ..
  pub offset_is_the_longest_common_beginning : Common n found expected
  -- .. of which there is one
  pub one_offset : (m : ℕ) → Common m found expected → m ≡ n
  -- it is that of the first byte of the log that differs, or of the first that is one too many, or the log's length where it ends early
  pub differs : f ≡ Differs → (n < length found) × (n < length expected)
  pub too_long : f ≡ TooLong → (n < length found) × (n ≡ length expected)
  pub ends_early : f ≡ EndsEarly → (n ≡ length found) × (n < length expected)
