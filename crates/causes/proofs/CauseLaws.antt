-- Laws of a table of verdicts: number 1 first; the rows in front decided first, and then the others; how many packets of a connection the rows have.
use Prim.Native.Nat.{ℕ, ◌+◌, ◌≤◌, ◌<◌}
use native.Mathlib.Omega.{arith}
use mathlib.Core.Path.{◌≡◌, refl, sym, ap, ◌∙◌}
use mathlib.Core.Bool.{Bool, true, false, cond, not}
use mathlib.Core.List.{List, [], ◌∷◌, ◌++◌}
use lib.Dec.{eqb}
use lib.ListN.{length, drop}
use lib.Seq.{drop-length}
use Rattle.rules.specs.declared.Packet.{Packet}
use Rattle.rules.specs.Words.{All, first_number}
use Rattle.rules.specs.Service.{of}
use Rattle.rules.proofs.Tests.{passed}
use Rattle.rules.proofs.Sums.{cond_is}

-- number 1 in front of the others, on a sound state
pub sound_first : (b : Bool) (rs : List (ℕ × Bool)) → b ≡ true → first_number rs ≡ first_number ((1, not b) ∷ rs)
sound_first b rs ok = rw ok

-- rows in front, decided first: what they give where they give something, and what the rows behind them give where they do not
pub front_gives : (front behind : List (ℕ × Bool)) → (first_number front ≡ 0 → ⊥) → first_number front ≡ first_number (front ++ behind)
front_gives [] behind h = absurd (h refl)
front_gives (r ∷ rs) behind h = step r.1 h (front_gives rs behind)
  where
    step : (b : Bool) → (cond b r.0 (first_number rs) ≡ 0 → ⊥) → ((first_number rs ≡ 0 → ⊥) → first_number rs ≡ first_number (rs ++ behind))
        → cond b r.0 (first_number rs) ≡ cond b r.0 (first_number (rs ++ behind))
    step true h f = refl
    step false h f = f h

none_in_front : (rs behind : List (ℕ × Bool)) → All (λ r. r.1 ≡ false) rs → first_number behind ≡ first_number (rs ++ behind)
none_in_front [] behind k = refl
none_in_front (r ∷ rs) behind k = none_in_front rs behind k.1 ∙ sym (cond_is r.0 (first_number (rs ++ behind)) k.0)

pub behind_gives : (front behind : List (ℕ × Bool)) → All (λ r. 0 < r.0) front → first_number front ≡ 0 → first_number behind ≡ first_number (front ++ behind)
behind_gives front behind a e = none_in_front front behind (passed front a e)

-- ---- the packets of a connection

-- how many packets of c the rows have, row by row
pub one_more : (c : ℕ) (l : List Packet) (p : Packet) (ps : List Packet) → l ≡ p ∷ ps → length (of c l) ≡ cond (eqb p.connection c) 1 0 + length (of c ps)
one_more c l p ps e = ap (λ (q : List Packet). length (of c q)) e ∙ go (eqb p.connection c)
  where
    go : (b : Bool) → length (cond b (p ∷ of c ps) (of c ps)) ≡ cond b 1 0 + length (of c ps)
    go true = omega arith
    go false = omega arith

pub bit_le : (a b : ℕ) → cond (eqb a b) 1 0 ≤ 1
bit_le a b = go (eqb a b)
  where
    go : (u : Bool) → cond u 1 0 ≤ 1
    go true = omega arith
    go false = omega arith

pub all_counted : (c : ℕ) (ps : List Packet) (n i : ℕ) → i ≡ length ps → n + length (of c (drop i ps)) ≡ length (of c ps) → n ≡ length (of c ps)
all_counted c ps n i e h = omega (arith, ap (λ (l : List Packet). length (of c l)) (ap (λ (j : ℕ). drop j ps) e ∙ drop-length ps))
