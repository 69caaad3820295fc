-- Laws of the table of shares: rows read and put behind the others, its shape, reading what is written and writing what is read.
use mathlib.Core.Path.{◌≡◌, refl, sym, ap, ◌∙◌}
use mathlib.Core.Bool.{true, false}
use mathlib.Core.Logic.{◌⊎◌, inl, inr}
use mathlib.Core.List.{List, [], ◌∷◌, ◌++◌}
use Prim.Native.Nat.{ℕ, zero, suc, ◌+◌, ◌*◌, ◌-◌, ◌≤◌, ◌<◌}
use native.Mathlib.Nat.{add-zero}
use native.Mathlib.Omega.{arith}
use lib.Dec.{ltb}
use borrow.Author.Tests.{lt-ltb, le-ltb, eq-eqb, ne_eqb}
use lib.ListN.{length, get_or, drop, length-map, get_or-eq_default}
use lib.Seq.{get_or-drop}
use Rattle.rules.specs.Words.{All, sum}
use Rattle.rules.specs.Limits.{max_connections}
use Rattle.rules.proofs.Sums.{same, split}
use Rattle.frames.specs.declared.Share.{Share}
use Rattle.frames.specs.Model.{nth}
use Rattle.frames.specs.Admission.{stands}
use Rattle.limits.specs.Zeros.{zeros}
use Rattle.limits.proofs.ZeroLaws.{zero_at}
use Rattle.tables.specs.Table.{row_in, used}
use Rattle.tables.proofs.TableLaws.{listed_row, number_in, read_at, used_end, held_stop, formed_length, formed_written, put_last, read_back, formed_back}
use Rattle.shares.specs.Shares.{share_width, shares_length, share_at, put, shares_in, written_shares, shares_formed}
use Rattle.frames.proofs.Names.{no_share}

-- ---- a row

-- as it is read, and as it is written
abbrev share_in : List ℕ → Share
share_in r = record { units = get_or r 0 0; places = get_or r 1 0 }

abbrev numbers_of : Share → List ℕ
numbers_of x = x.units ∷ x.places ∷ []

numbers_back : (r : List ℕ) → length r ≡ share_width → numbers_of (share_in r) ≡ r
numbers_back r e = listed_row share_width r e

row_numbers : (t : List ℕ) (c : ℕ) → share_in (row_in share_width t c) ≡ share_at t c
row_numbers t c = let n = number_in share_width t c in rw (n 0 (omega arith), n 1 (omega arith), add-zero (2 * c))

-- ---- the rows in use

pub shares_used : (t : List ℕ) → length (shares_in t) ≡ length (used share_width t)
unfolding shares_in
shares_used t = length-map (used share_width t) share_in

pub share_is : (t : List ℕ) (c : ℕ) → c < length (shares_in t) → nth (shares_in t) c ≡ share_at t c
unfolding shares_in
share_is t c h = read_at share_width share_in t c (omega (arith, shares_used t)) ∙ row_numbers t c

pub shares_end : (t : List ℕ) → 2 * length (shares_in t) ≤ length t
shares_end t = omega (arith, used_end share_width t, shares_used t)

shares_stop : (t : List ℕ) (i : ℕ) → i ≤ length (shares_in t) → get_or t (2 * i + 1) 0 ≡ 0 → i ≡ length (shares_in t)
shares_stop t i h z = let k = held_stop share_width t (omega arith) i (omega (arith, shares_used t)) z in omega (arith, shares_used t)

positive : (m : ℕ) → (m ≡ 0 → ⊥) → 0 < m
positive zero n = absurd (n refl)
positive (suc m) n = omega arith

-- ---- a table with zeros behind its rows

pub not_formed : (t : List ℕ) → (length t ≡ shares_length → ⊥) → false ≡ shares_formed t
unfolding shares_formed
not_formed t h = rw (ne_eqb (length t) shares_length h)

pub formed_by : (t : List ℕ) (n : ℕ) → length t ≡ shares_length → n ≡ length (shares_in t) → zeros (drop (2 * n) t) ≡ shares_formed t
unfolding shares_formed
formed_by t n h e = rw (eq-eqb (length t) shares_length h, e ∙ shares_used t)

module _ (t : List ℕ) (f : shares_formed t ≡ true) where
  pub shares_long : length t ≡ shares_length
  unfolding shares_formed
  shares_long = formed_length share_width shares_length t f

  -- WRITING WHAT IS READ gives the table back
  pub shares_back : t ≡ written_shares (shares_in t)
  unfolding shares_formed shares_in written_shares
  shares_back = formed_written share_width share_in numbers_of numbers_back shares_length t f

  pub shares_few : length (shares_in t) ≤ max_connections
  shares_few = omega (arith, shares_end t, shares_long)

  behind : zeros (drop (2 * length (shares_in t)) t) ≡ true
  behind = formed_by t (length (shares_in t)) shares_long refl ∙ f

  zero_behind : (k : ℕ) → 2 * length (shares_in t) ≤ k → get_or t k 0 ≡ 0
  zero_behind k h =
      let n : ℕ = 2 * length (shares_in t) in
      let e : k ≡ n + (k - n) = omega arith in
      ap (λ (m : ℕ). get_or t m 0) e ∙ sym (get_or-drop n t (k - n) 0) ∙ zero_at (drop n t) (k - n) behind

  -- a row that is none is zero
  pub share_none : (c : ℕ) → length (shares_in t) ≤ c → nth (shares_in t) c ≡ no_share
  share_none c h = get_or-eq_default (shares_in t) no_share {n = c} h

  pub figures_are : (c : ℕ) → share_at t c ≡ nth (shares_in t) c
  figures_are c = go (split (length (shares_in t)) c)
    where
      go : (length (shares_in t) ≤ c) ⊎ (c < length (shares_in t)) → share_at t c ≡ nth (shares_in t) c
      go (inr l) = sym (share_is t c l)
      go (inl l) = rw (zero_behind (2 * c) (omega arith), zero_behind (2 * c + 1) (omega arith)) (sym (share_none c l))

  -- whether a number stands: the p of its row tells
  pub stands_by : (c : ℕ) → c < max_connections → ltb 0 (get_or t (2 * c + 1) 0) ≡ stands (shares_in t) c
  unfolding stands
  stands_by c h = go (same (get_or t (2 * c + 1) 0) 0) (split (length (shares_in t)) c)
    where
      go : (get_or t (2 * c + 1) 0 ≡ 0) ⊎ (get_or t (2 * c + 1) 0 ≡ 0 → ⊥) → (length (shares_in t) ≤ c) ⊎ (c < length (shares_in t))
          → ltb 0 (get_or t (2 * c + 1) 0) ≡ ltb c (length (shares_in t))
      go (inl z) (inl l) = le-ltb 0 (get_or t (2 * c + 1) 0) (omega arith) ∙ sym (le-ltb c (length (shares_in t)) l)
      go (inl z) (inr l) = absurd (omega (arith, shares_stop t c (omega arith) z))
      go (inr n) (inl l) = absurd (n (zero_behind (2 * c + 1) (omega arith)))
      go (inr n) (inr l) = lt-ltb 0 (get_or t (2 * c + 1) 0) (positive (get_or t (2 * c + 1) 0) n) ∙ sym (lt-ltb c (length (shares_in t)) l)

  pub none_stands : (c : ℕ) → max_connections ≤ c → false ≡ stands (shares_in t) c
  unfolding stands
  none_stands c h = sym (le-ltb c (length (shares_in t)) (omega (arith, shares_few)))

-- ---- a newcomer

put_behind : (cs : List Share) (x : Share) → 2 * length cs + 2 ≤ shares_length → put (written_shares cs) (length cs) x ≡ written_shares (cs ++ x ∷ [])
unfolding written_shares
put_behind cs x h = put_last share_width numbers_of (λ x. refl) shares_length cs x h

pub joined : (t : List ℕ) (n : ℕ) (x : Share) → shares_formed t ≡ true → n ≡ length (shares_in t) → n < max_connections → put t n x ≡ written_shares (shares_in t ++ x ∷ [])
joined t n x f e h =
    ap (λ (u : List ℕ). put u n x) (shares_back t f) ∙ ap (λ (m : ℕ). put (written_shares (shares_in t)) m x) e ∙ put_behind (shares_in t) x (omega arith)

-- ---- the sum of a number of each: of all r, of all p

module _ (t : List ℕ) (f : shares_formed t ≡ true) where
  pub all_units_are : (n : ℕ) → n ≡ length (shares_in t) → sum n (λ c. get_or t (2 * c + 0) 0) ≡ sum (length (shares_in t)) (λ c. (nth (shares_in t) c).units)
  all_units_are n e = go n ∙ ap (λ (k : ℕ). sum k (λ c. (nth (shares_in t) c).units)) e
    where
      go : (n : ℕ) → sum n (λ c. get_or t (2 * c + 0) 0) ≡ sum n (λ c. (nth (shares_in t) c).units)
      go zero = refl
      go (suc n) = rw (go n, ← figures_are t f n, add-zero (2 * n)) refl

  pub all_places_are : (n : ℕ) → n ≡ length (shares_in t) → sum n (λ c. get_or t (2 * c + 1) 0) ≡ sum (length (shares_in t)) (λ c. (nth (shares_in t) c).places)
  all_places_are n e = go n ∙ ap (λ (k : ℕ). sum k (λ c. (nth (shares_in t) c).places)) e
    where
      go : (n : ℕ) → sum n (λ c. get_or t (2 * c + 1) 0) ≡ sum n (λ c. (nth (shares_in t) c).places)
      go zero = refl
      go (suc n) = rw (go n, ← figures_are t f n) refl

-- ---- READING WHAT IS WRITTEN gives it back, and its table is formed

module _ (cs : List Share) (some_places : All (λ x. 0 < x.places) cs) where
  pub shares_again : shares_in (written_shares cs) ≡ cs
  unfolding shares_in written_shares
  shares_again = read_back share_width numbers_of (λ x. refl) (omega arith) share_in (λ x. refl) cs (shares_length - share_width * length cs) some_places

  pub written_formed : length cs ≤ max_connections → shares_formed (written_shares cs) ≡ true
  unfolding shares_formed written_shares
  written_formed few = formed_back share_width numbers_of (λ x. refl) (omega arith) share_in (λ x. refl) cs shares_length some_places (omega (arith, few))
