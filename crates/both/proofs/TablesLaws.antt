-- The table of shares in the table of connections: zeros behind it, taken out and put back.
use Prim.Native.Nat.{ℕ}
use native.Mathlib.Omega.{arith}
use mathlib.Core.Path.{◌≡◌, sym, ap, ◌∙◌}
use mathlib.Core.Bool.{Bool, true, false}
use mathlib.Core.List.{List, ◌++◌}
use lib.Dec.{eqb}
use lib.ListN.{length, take, drop, replicate, take-append-drop, length-drop, length-append, length-replicate}
use lib.Seq.{take_at, drop_at, length-take-le}
use borrow.Author.Tests.{eqb-true, eq-eqb, ne_eqb}
use Rattle.rules.proofs.Tests.{and_true, and_intro}
use Rattle.limits.specs.Zeros.{zeros}
use Rattle.limits.proofs.ZeroLaws.{zeros_are, zeros_rep, zeros_left}
use Rattle.connections.specs.Members.{members_length}
use Rattle.shares.specs.Shares.{shares_length}
use Rattle.tables.specs.Lent.{Tables, tables}
use Rattle.both.specs.View.{framed, unframed, members_framed}
use Rattle.both.proofs.Views.{behind_shares}

-- ---- such a table

module _ (m : List ℕ) (f : members_framed m ≡ true) where
  pub framed_long : length m ≡ members_length
  unfolding members_framed
  framed_long = eqb-true _ _ (and_true (eqb (length m) members_length) (zeros (drop shares_length m)) f).0

  zero_behind : zeros (drop shares_length m) ≡ true
  unfolding members_framed
  zero_behind = (and_true (eqb (length m) members_length) (zeros (drop shares_length m)) f).1

  -- behind the table of shares there are zeros
  pub rest_zero : drop shares_length m ≡ replicate behind_shares 0
  rest_zero = zeros_are (drop shares_length m) zero_behind ∙ zeros_left (length (drop shares_length m)) behind_shares (omega (arith, length-drop shares_length m, framed_long))

  pub members_back : take shares_length m ++ replicate behind_shares 0 ≡ m
  members_back = ap (λ (l : List ℕ). take shares_length m ++ l) (sym rest_zero) ∙ take-append-drop shares_length m

  pub shares_long : shares_length ≡ length (take shares_length m)
  shares_long = sym (length-take-le shares_length m (omega (arith, framed_long)))

-- all three tables
pub tables_back : (t : Tables) → members_framed t.members ≡ true → unframed (framed t) ≡ t
tables_back t f = ap (λ (m : List ℕ). tables m t.places t.notices) (members_back t.members f)

-- .. of which the first is as it was, or has another table of shares
module _ (m : List ℕ) (f : members_framed m ≡ true) (places notices : List ℕ) where
  pub same_members : tables m places notices ≡ unframed (tables (take shares_length m) places notices)
  same_members = ap (λ (l : List ℕ). tables l places notices) (sym (members_back m f))

  pub other_shares : (l : List ℕ) → tables (l ++ drop shares_length m) places notices ≡ unframed (tables l places notices)
  other_shares l = ap (λ (z : List ℕ). tables (l ++ z) places notices) (rest_zero m f)

-- ---- the test, in code

pub not_framed : (m : List ℕ) → (length m ≡ members_length → ⊥) → false ≡ members_framed m
unfolding members_framed
not_framed m n = rw (ne_eqb (length m) members_length n)

pub framed_by : (m : List ℕ) → length m ≡ members_length → (b : Bool) → b ≡ zeros (drop shares_length m) → b ≡ members_framed m
unfolding members_framed
framed_by m e b z = rw (eq-eqb (length m) members_length e) z

-- ---- a table of shares with zeros behind it

module _ (l : List ℕ) (e : length l ≡ shares_length) where
  pub shares_back : take shares_length (l ++ replicate behind_shares 0) ≡ l
  shares_back = take_at l (replicate behind_shares 0) shares_length e

  pub with_zeros_framed : members_framed (l ++ replicate behind_shares 0) ≡ true
  unfolding members_framed
  with_zeros_framed =
      and_intro (eqb (length (l ++ replicate behind_shares 0)) members_length) (zeros (drop shares_length (l ++ replicate behind_shares 0)))
      (eq-eqb (length (l ++ replicate behind_shares 0)) members_length (omega (arith, e, length-append l (replicate behind_shares 0), length-replicate {A = ℕ} behind_shares 0)))
      (ap zeros (drop_at l (replicate behind_shares 0) shares_length e) ∙ zeros_rep behind_shares)

pub framed_back : (t : Tables) → length t.members ≡ shares_length → framed (unframed t) ≡ t
framed_back t e = ap (λ (l : List ℕ). tables l t.places t.notices) (shares_back t.members e)
