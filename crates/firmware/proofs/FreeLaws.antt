-- Connections with free numbers among them or behind them: a free number adds nothing to a sum, so that the level test says the same without it.
use Prim.Native.Nat.{ℕ, zero, suc, ◌+◌, ◌≤◌, ◌<◌}
use native.Mathlib.Omega.{arith}
use mathlib.Core.Path.{◌≡◌, refl, ap, ◌∙◌}
use mathlib.Core.Bool.{Bool, true, false, cond, not}
use mathlib.Core.List.{List, [], ◌∷◌, ◌++◌}
use lib.Dec.{eqb}
use lib.ListN.{length, replicate}
use borrow.Author.Tests.{eqb-true, ne_eqb}
use Rattle.rules.specs.declared.Link.{Link}
use Rattle.rules.specs.declared.Connection.{Connection}
use Rattle.rules.specs.Words.{All, sum, total, filter}
use Rattle.rules.specs.Model.{no_connection, nth}
use Rattle.rules.specs.Admission.{cost, span, level_sum, level_test, free_number, joining}
use Rattle.rules.proofs.Lists.{total_snoc, all_at}
use Rattle.rules.proofs.Sums.{cond_is}
use Rattle.rules.proofs.Figures.{sum_is}
use Rattle.rules.proofs.Standing.{free_is}
use Rattle.connections.specs.Members.{used_by}
use Rattle.connections.specs.Within.{share_in}
use Rattle.connections.proofs.OwnerLaws.{up_to, up_to_some}
use Rattle.connections.proofs.FigureLaws.{share_free, test_same, sums_joining}

-- the connections that have an owner, by number
abbrev pub owners : List Connection → List Connection
owners cs = filter (λ x. not (eqb x.level 0)) cs

-- free numbers behind connections
abbrev pub padded : List Connection → ℕ → List Connection
padded xs k = xs ++ replicate k no_connection

-- an entry that is free is blank
abbrev pub Blank : Connection → Type 0
Blank x = x.level ≡ 0 → x ≡ no_connection

-- ---- sums

sum_front : (n : ℕ) (f : ℕ → ℕ) → sum (suc n) f ≡ f 0 + sum n (λ i. f (suc i))
sum_front zero f = omega arith
sum_front (suc n) f = omega (arith, sum_front n f)

module _ (f : Connection → ℕ) where
  -- a sum by number is the sum over the list
  sum_total : (cs : List Connection) → sum (length cs) (λ c. f (nth cs c)) ≡ total f cs
  sum_total [] = refl
  sum_total (x ∷ cs) = sum_front (length cs) (λ c. f (nth (x ∷ cs) c)) ∙ ap (λ (k : ℕ). f x + k) (sum_total cs)

  module _ (z : f no_connection ≡ 0) where
    total_free : (k : ℕ) → total f (replicate k no_connection) ≡ 0
    total_free zero = refl
    total_free (suc k) = omega (arith, z, total_free k)

    total_padded : (xs : List Connection) (k : ℕ) → total f (padded xs k) ≡ total f xs
    total_padded [] k = total_free k
    total_padded (x ∷ xs) k = ap (λ (n : ℕ). f x + n) (total_padded xs k)

    total_owners : (cs : List Connection) → All Blank cs → total f (owners cs) ≡ total f cs
    total_owners [] b = refl
    total_owners (x ∷ cs) b = go (eqb x.level 0) refl (total_owners cs b.1)
      where
        go : (t : Bool) → eqb x.level 0 ≡ t → total f (owners cs) ≡ total f cs → total f (cond (not t) (x ∷ owners cs) (owners cs)) ≡ f x + total f cs
        go true e ih = omega (arith, ih, ap f (b.0 (eqb-true x.level 0 e)), z)
        go false e ih = omega (arith, ih)

-- ---- the level test

module _ (l : Link) where
  sum_over : (cs : List Connection) (m i : ℕ) → level_sum l cs m i ≡ total (share_in l m i) cs + cost l l.largest
  sum_over cs m i = sum_is l cs m i ∙ ap (λ (k : ℕ). k + cost l l.largest) (sum_total (share_in l m i) cs)

  pub test_padded : (xs : List Connection) (k : ℕ) → level_test l (padded xs k) ≡ level_test l xs
  test_padded xs k =
      test_same l (padded xs k) xs
      (λ m i h. omega (arith, sum_over (padded xs k) m i, sum_over xs m i, total_padded (share_in l m i) (share_free l m (span l m i 0)) xs k))

  -- owners and a newcomer, in the place of all numbers with the newcomer at the lowest free one
  pub test_owners : (cs : List Connection) (x : Connection) → All Blank cs → free_number cs < length cs → level_test l (owners cs ++ x ∷ []) ≡ level_test l (joining cs x)
  test_owners cs x b room =
      let blank : nth cs (free_number cs) ≡ no_connection = all_at Blank cs (free_number cs) no_connection room b (free_is cs room) in
      test_same l (owners cs ++ x ∷ []) (joining cs x)
      (λ m i h.
      omega (
        arith,
        sum_over (owners cs ++ x ∷ []) m i,
        total_snoc (share_in l m i) (owners cs) x,
        total_owners (share_in l m i) (share_free l m (span l m i 0)) cs b,
        sum_total (share_in l m i) cs,
        sums_joining l cs x room blank m i h,
      ))

-- ---- the lowest free number

-- fewer owners than numbers: one is free
pub owners_room : (cs : List Connection) → length (owners cs) < length cs → free_number cs < length cs
owners_room [] h = absurd (omega arith)
owners_room (x ∷ cs) h = go (eqb x.level 0) h (owners_room cs)
  where
    go : (t : Bool) → length (cond (not t) (x ∷ owners cs) (owners cs)) < length (x ∷ cs) → (length (owners cs) < length cs → free_number cs < length cs)
        → cond t 0 (suc (free_number cs)) < length (x ∷ cs)
    go true h ih = omega arith
    go false h ih = omega (arith, ih (omega arith))

pub free_behind : (xs ys : List Connection) → All (λ x. 1 ≤ x.level) xs → free_number (xs ++ no_connection ∷ ys) ≡ length xs
free_behind [] ys h = refl
free_behind (x ∷ xs) ys h =
    cond_is 0 (suc (free_number (xs ++ no_connection ∷ ys))) (ne_eqb x.level 0 (λ e. omega (arith, h.0))) ∙ ap suc (free_behind xs ys h.1)

-- ---- free numbers behind connections

none_used : (k : ℕ) → used_by (replicate k no_connection) ≡ 0
none_used zero = refl
none_used (suc k) = ap (up_to true) (none_used k)

pub used_padded : (xs : List Connection) (k : ℕ) → used_by (padded xs k) ≤ length xs
used_padded [] k = omega (arith, none_used k)
used_padded (x ∷ xs) k = go (eqb x.level 0) (used_by (padded xs k)) (used_padded xs k)
  where
    go : (t : Bool) (n : ℕ) → n ≤ length xs → up_to t n ≤ length (x ∷ xs)
    go true zero h = omega arith
    go false zero h = omega arith
    go t (suc n) h = omega (arith, up_to_some t (suc n) (omega arith))

none_at : (k c : ℕ) → nth (replicate k no_connection) c ≡ no_connection
none_at zero c = refl
none_at (suc k) zero = refl
none_at (suc k) (suc c) = none_at k c

pub nth_behind : (xs : List Connection) (k c : ℕ) → length xs ≤ c → nth (padded xs k) c ≡ no_connection
nth_behind [] k c h = none_at k c
nth_behind (x ∷ xs) k zero h = absurd (omega arith)
nth_behind (x ∷ xs) k (suc c) h = nth_behind xs k c (omega arith)
