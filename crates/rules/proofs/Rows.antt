-- The packets of a connection, the first of them, and the rows without it.
use Prim.Native.Nat.{ℕ, zero, suc, ◌+◌, ◌<◌}
use native.Mathlib.Omega.{arith}
use mathlib.Core.Path.{◌≡◌, refl, sym, ap, ◌∙◌, subst}
use mathlib.Core.Bool.{Bool, true, false, cond, true≢false}
use mathlib.Core.Logic.{◌⊎◌, inl, inr}
use mathlib.Core.List.{List, [], ◌∷◌, ◌++◌, map, append_assoc, append-nil}
use mathlib.Core.Option.{none, some}
use lib.Dec.{eqb}
use lib.ListN.{length, get_elem?}
use borrow.Author.Tests.{eqb-true, eq-eqb, ne_eqb}
use Rattle.rules.specs.Model.{Packet}
use Rattle.rules.specs.Service.{of, eligibilities, first, without}
use Rattle.rules.proofs.Lists.{All, all_map, Pairs, Sub, nil, skip, keep, total}
use Rattle.rules.proofs.Sums.{cond_is, same}

pub none_some : {A : Type 0} {a : A} → none ≡ some a → ⊥
none_some e = let z : ◌≡◌ {A = ℕ} 0 1 = cc e in omega arith

pub find_below : {A : Type 0} (xs : List A) (i : ℕ) (x : A) → get_elem? xs i ≡ some x → i < length xs
find_below [] i x e = absurd (none_some e)
find_below (y ∷ xs) zero x e = omega arith
find_below (y ∷ xs) (suc i) x e = omega (arith, find_below xs i x e)

pub some_inj : {A : Type 0} {a b : A} → some a ≡ some b → a ≡ b
some_inj e = cc e

module _ (c : ℕ) where
  pub sub_without : {rs ps : List Packet} → Sub rs ps → Sub (without c rs) ps
  sub_without nil = nil
  sub_without (skip y s) = skip y (sub_without s)
  sub_without (keep {xs = xs} {ys = ys} x s) = go (eqb x.connection c) (sub_without s)
    where
      go : (t : Bool) → Sub (without c xs) ys → Sub (cond t xs (x ∷ without c xs)) (x ∷ ys)
      go true r = skip x s
      go false r = keep x r

  pub total_without : (w : Packet → ℕ) (rs : List Packet) (p : Packet) → first c rs ≡ some p → total w rs ≡ w p + total w (without c rs)
  total_without w [] p e = absurd (none_some e)
  total_without w (r ∷ rs) p e = go (eqb r.connection c) e (total_without w rs p)
    where
      go : (t : Bool) → cond t (some r) (first c rs) ≡ some p
          → (first c rs ≡ some p → total w rs ≡ w p + total w (without c rs))
          → w r + total w rs ≡ w p + total w (cond t rs (r ∷ without c rs))
      go true e ih = ap (λ (q : Packet). w q + total w rs) (some_inj e)
      go false e ih = omega (arith, ih e)

  pub first_all : (P : Packet → Type 0) (rs : List Packet) (p : Packet) → first c rs ≡ some p → All P rs → P p
  first_all P [] p e h = absurd (none_some e)
  first_all P (r ∷ rs) p e h = go (eqb r.connection c) e (first_all P rs p)
    where
      go : (t : Bool) → cond t (some r) (first c rs) ≡ some p → (first c rs ≡ some p → All P rs → P p) → P p
      go true e ih = subst P (some_inj e) h.0
      go false e ih = ih e h.1

  pub first_of : (rs : List Packet) (p : Packet) → first c rs ≡ some p → p.connection ≡ c
  first_of [] p e = absurd (none_some e)
  first_of (r ∷ rs) p e = go (eqb r.connection c) refl e (first_of rs p)
    where
      go : (t : Bool) → eqb r.connection c ≡ t → cond t (some r) (first c rs) ≡ some p → (first c rs ≡ some p → p.connection ≡ c) → p.connection ≡ c
      go true q e ih = ap (λ (p : Packet). p.connection) (sym (some_inj e)) ∙ eqb-true r.connection c q
      go false q e ih = ih e

  pub first_append : (rs qs : List Packet) (p : Packet) → first c rs ≡ some p → first c (rs ++ qs) ≡ some p
  first_append [] qs p e = absurd (none_some e)
  first_append (r ∷ rs) qs p e = go (eqb r.connection c) e (first_append rs qs p)
    where
      go : (t : Bool) → cond t (some r) (first c rs) ≡ some p → (first c rs ≡ some p → first c (rs ++ qs) ≡ some p) → cond t (some r) (first c (rs ++ qs)) ≡ some p
      go true e ih = e
      go false e ih = ih e

  pub of_append : (rs qs : List Packet) → of c (rs ++ qs) ≡ of c rs ++ of c qs
  of_append [] qs = refl
  of_append (r ∷ rs) qs = go (eqb r.connection c) (of_append rs qs)
    where
      go : (t : Bool) → of c (rs ++ qs) ≡ of c rs ++ of c qs
          → cond t (r ∷ of c (rs ++ qs)) (of c (rs ++ qs)) ≡ cond t (r ∷ of c rs) (of c rs) ++ of c qs
      go true ih = rw ih
      go false ih = ih

  -- the first row of c is the first of the rows of c
  pub of_first : (rs : List Packet) (p : Packet) → first c rs ≡ some p → of c rs ≡ p ∷ of c (without c rs)
  of_first [] p e = absurd (none_some e)
  of_first (r ∷ rs) p e = go (eqb r.connection c) refl e (of_first rs p)
    where
      go : (t : Bool) → eqb r.connection c ≡ t → cond t (some r) (first c rs) ≡ some p
          → (first c rs ≡ some p → of c rs ≡ p ∷ of c (without c rs))
          → cond t (r ∷ of c rs) (of c rs) ≡ p ∷ of c (cond t rs (r ∷ without c rs))
      go true q e ih = ap (λ (x : Packet). x ∷ of c rs) (some_inj e)
      go false q e ih = ih e ∙ ap (λ (l : List Packet). p ∷ l) (sym (cond_is (r ∷ of c (without c rs)) (of c (without c rs)) q))

  pub of_other : (d : ℕ) (rs : List Packet) → (c ≡ d → ⊥) → of d (without c rs) ≡ of d rs
  of_other d [] ne = refl
  of_other d (r ∷ rs) ne = go (eqb r.connection c) refl (eqb r.connection d) refl (of_other d rs ne)
    where
      go : (t : Bool) → eqb r.connection c ≡ t → (u : Bool) → eqb r.connection d ≡ u
          → of d (without c rs) ≡ of d rs
          → of d (cond t rs (r ∷ without c rs)) ≡ cond u (r ∷ of d rs) (of d rs)
      go true q true v ih = absurd (ne (sym (eqb-true r.connection c q) ∙ eqb-true r.connection d v))
      go true q false v ih = refl
      go false q u v ih = cond_is (r ∷ of d (without c rs)) (of d (without c rs)) v ∙ ap (λ (l : List Packet). cond u (r ∷ l) l) ih

-- the first row of w moves to the end of what has gone: for every connection, what has gone and what is held stay the same together
pub moved : (c w : ℕ) (gone rs : List Packet) (p : Packet) → first w rs ≡ some p
    → of c gone ++ of c rs ≡ of c (gone ++ p ∷ []) ++ of c (without w rs)
moved c w gone rs p e = go (same w c)
  where
    here : p.connection ≡ w
    here = first_of w rs p e

    go : (w ≡ c) ⊎ (w ≡ c → ⊥) → of c gone ++ of c rs ≡ of c (gone ++ p ∷ []) ++ of c (without w rs)
    go (inl i) =
        subst
        (λ (k : ℕ). of k gone ++ of k rs ≡ of k (gone ++ p ∷ []) ++ of k (without w rs))
        i
        (rw (of_append w gone (p ∷ []), cond_is (p ∷ []) [] (eq-eqb p.connection w here), append_assoc, of_first w rs p e))
    go (inr i) =
        rw
        (of_append c gone (p ∷ []), cond_is (p ∷ []) [] (ne_eqb p.connection c (λ j. i (sym here ∙ j))), append-nil, of_other w c rs i)

pub nil_of : {A : Type 0} (xs : List A) → length xs ≡ 0 → xs ≡ []
nil_of [] e = refl
nil_of (x ∷ xs) e = absurd (omega arith)

-- ---- a property of the packets of c, said of all packets

module _ (c : ℕ) where
  pub from_of : (P : Packet → Type 0) (rs : List Packet) → All P (of c rs) → All (λ q. q.connection ≡ c → P q) rs
  from_of P [] h = tt
  from_of P (r ∷ rs) h = go (eqb r.connection c) refl h (from_of P rs)
    where
      go : (t : Bool) → eqb r.connection c ≡ t → All P (cond t (r ∷ of c rs) (of c rs)) → (All P (of c rs) → All (λ q. q.connection ≡ c → P q) rs)
          → (r.connection ≡ c → P r) × All (λ q. q.connection ≡ c → P q) rs
      go true e h k = (λ _. h.0, k h.1)
      go false e h k = (λ i. absurd (true≢false (sym (eq-eqb r.connection c i) ∙ e)), k h)

  pub to_of : (P : Packet → Type 0) (rs : List Packet) → All (λ q. q.connection ≡ c → P q) rs → All (λ q. (q.connection ≡ c) × P q) (of c rs)
  to_of P [] h = tt
  to_of P (r ∷ rs) h = go (eqb r.connection c) refl (to_of P rs h.1)
    where
      go : (t : Bool) → eqb r.connection c ≡ t → All (λ q. (q.connection ≡ c) × P q) (of c rs) → All (λ q. (q.connection ≡ c) × P q) (cond t (r ∷ of c rs) (of c rs))
      go true e k = let i = eqb-true r.connection c e in ((i, h.0 i), k)
      go false e k = k

  pub of_snoc_same : (rs : List Packet) (p : Packet) → p.connection ≡ c → of c (rs ++ p ∷ []) ≡ of c rs ++ p ∷ []
  of_snoc_same rs p e = of_append c rs (p ∷ []) ∙ ap (λ (l : List Packet). of c rs ++ l) (cond_is (p ∷ []) [] (eq-eqb p.connection c e))

  pub of_snoc_other : (rs : List Packet) (p : Packet) → (p.connection ≡ c → ⊥) → of c (rs ++ p ∷ []) ≡ of c rs
  of_snoc_other rs p e =
      of_append c rs (p ∷ []) ∙ ap (λ (l : List Packet). of c rs ++ l) (cond_is (p ∷ []) [] (ne_eqb p.connection c e)) ∙ append-nil (of c rs)

  pub sub_of : {rs ps : List Packet} → Sub rs ps → Sub (of c rs) (of c ps)
  sub_of nil = nil
  sub_of (skip {xs = xs} {ys = ys} y s) = go (eqb y.connection c) (sub_of s)
    where
      go : (b : Bool) → Sub (of c xs) (of c ys) → Sub (of c xs) (cond b (y ∷ of c ys) (of c ys))
      go true k = skip y k
      go false k = k
  sub_of (keep {xs = xs} {ys = ys} x s) = go (eqb x.connection c) (sub_of s)
    where
      go : (b : Bool) → Sub (of c xs) (of c ys) → Sub (cond b (x ∷ of c xs) (of c xs)) (cond b (x ∷ of c ys) (of c ys))
      go true k = keep x k
      go false k = k

pub sub_map : {A B : Type 0} (f : A → B) {xs ys : List A} → Sub xs ys → Sub (map f xs) (map f ys)
sub_map f nil = nil
sub_map f (skip y s) = skip (f y) (sub_map f s)
sub_map f (keep x s) = keep (f x) (sub_map f s)

-- ---- eligibilities

module _ {A B : Type 0} (f : A → B) where
  pub map_append : (xs ys : List A) → map f (xs ++ ys) ≡ map f xs ++ map f ys
  map_append [] ys = refl
  map_append (x ∷ xs) ys = ap (λ (l : List B). f x ∷ l) (map_append xs ys)

  pub all_of_map : (P : B → Type 0) (xs : List A) → All P (map f xs) → All (λ x. P (f x)) xs
  all_of_map P [] h = tt
  all_of_map P (x ∷ xs) h = (h.0, all_of_map P xs h.1)

  pub all_map_of : (P : B → Type 0) (xs : List A) → All (λ x. P (f x)) xs → All P (map f xs)
  all_map_of P [] h = tt
  all_map_of P (x ∷ xs) h = (h.0, all_map_of P xs h.1)

  pub length_map : (xs : List A) → length (map f xs) ≡ length xs
  length_map [] = refl
  length_map (x ∷ xs) = ap suc (length_map xs)

-- ---- a property, and a relation, of the eligibilities of each connection, said of all packets

-- the eligibilities of c behind a packet
module _ (c : ℕ) (r : Packet) (rs : List Packet) where
  pub eligibilities_same : r.connection ≡ c → eligibilities c (r ∷ rs) ≡ r.eligibility ∷ eligibilities c rs
  eligibilities_same e = ap (λ (ps : List Packet). map (λ q. q.eligibility) ps) (cond_is (r ∷ of c rs) (of c rs) (eq-eqb r.connection c e))

  pub eligibilities_other : (r.connection ≡ c → ⊥) → eligibilities c (r ∷ rs) ≡ eligibilities c rs
  eligibilities_other e = ap (λ (ps : List Packet). map (λ q. q.eligibility) ps) (cond_is (r ∷ of c rs) (of c rs) (ne_eqb r.connection c e))

module _ (N : ℕ → Type 0) where
  -- what holds of each connection's eligibilities, and of those behind the first packet
  behind_first : (Q : List ℕ → Type 0) → ((e : ℕ) (es : List ℕ) → Q (e ∷ es) → Q es) → (r : Packet) (rs : List Packet)
      → ((c : ℕ) → N c → Q (eligibilities c (r ∷ rs))) → (c : ℕ) → N c → Q (eligibilities c rs)
  behind_first Q tail r rs h c l = go (same r.connection c)
    where
      go : (r.connection ≡ c) ⊎ (r.connection ≡ c → ⊥) → Q (eligibilities c rs)
      go (inl e) = tail r.eligibility (eligibilities c rs) (subst Q (eligibilities_same c r rs e) (h c l))
      go (inr e) = subst Q (eligibilities_other c r rs e) (h c l)

  pub all_by_connection : (P : ℕ → Type 0) (rs : List Packet) → All (λ p. N p.connection) rs
      → ((c : ℕ) → N c → All P (eligibilities c rs)) → All (λ p. P p.eligibility) rs
  all_by_connection P [] l h = tt
  all_by_connection P (r ∷ rs) l h = (
    (subst (All P) (eligibilities_same r.connection r rs refl) (h r.connection l.0)).0,
    all_by_connection P rs l.1 (behind_first (All P) (λ e es k. k.1) r rs h),
  )

  pub pairs_by_connection : (R : ℕ → ℕ → Type 0) (rs : List Packet) → All (λ p. N p.connection) rs
      → ((c : ℕ) → N c → Pairs R (eligibilities c rs))
      → Pairs (λ p q. p.connection ≡ q.connection → R p.eligibility q.eligibility) rs
  pairs_by_connection R [] l h = tt
  pairs_by_connection R (r ∷ rs) l h = (
    all_map (λ q f e. f (sym e)) rs
        (from_of r.connection (λ q. R r.eligibility q.eligibility) rs
        (all_of_map (λ q. q.eligibility) (R r.eligibility) (of r.connection rs) (subst (Pairs R) (eligibilities_same r.connection r rs refl) (h r.connection l.0)).0)),
    pairs_by_connection R rs l.1 (behind_first (Pairs R) (λ e es k. k.1) r rs h),
  )

pub eligibilities_snoc_same : (c : ℕ) (rs : List Packet) (p : Packet) → p.connection ≡ c → eligibilities c (rs ++ p ∷ []) ≡ eligibilities c rs ++ p.eligibility ∷ []
eligibilities_snoc_same c rs p e =
    ap (λ (ps : List Packet). map (λ q. q.eligibility) ps) (of_snoc_same c rs p e) ∙ map_append (λ (q : Packet). q.eligibility) (of c rs) (p ∷ [])

pub eligibilities_snoc_other : (c : ℕ) (rs : List Packet) (p : Packet) → (p.connection ≡ c → ⊥) → eligibilities c (rs ++ p ∷ []) ≡ eligibilities c rs
eligibilities_snoc_other c rs p e = ap (λ (ps : List Packet). map (λ q. q.eligibility) ps) (of_snoc_other c rs p e)
