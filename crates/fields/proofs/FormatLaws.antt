-- Reading and writing in any format: what one law says of every kind.
use Rattle.std.specs.Prelude.{Option, Some, None}
use mathlib.Core.Path.{◌≡◌, refl, sym, ap, ◌∙◌, fun_ext}
use mathlib.Core.Bool.{Bool, true, false, cond, ◌&&◌}
use mathlib.Core.List.{List, [], ◌∷◌, ◌++◌, append_assoc}
use Prim.Native.Nat.{ℕ, ◌+◌, ◌<◌, ◌≤◌, ◌^◌}
use native.Mathlib.Omega.{arith}
use borrow.Author.Tests.{eqb-true, le-ltb, ltb-false}
use lib.ListN.{length, get_or, take, drop, length-append, length-drop}
use lib.Seq.{drop_at, take-add}
use lib.Dec.{ltb, eqb}
use Rattle.fields.specs.Numbers.{put_fields, get_fields, sum, none_lost}
use Rattle.fields.specs.Kinds.{Kind}
use Rattle.fields.specs.Formats.{starts, read_kind, read_kinds, laid}
use Rattle.fields.specs.Laws.{Written}
use Rattle.fields.proofs.Parts.{bytes, size, whole}
use Rattle.fields.proofs.NumberLaws.{length_put}
use Rattle.fields.proofs.FieldLaws.{fields_on, fields_back, fits_none_lost, got_none_lost, put_back, bytes_left, each_byte}
use Rattle.fields.proofs.MarkLaws.{both}

-- The record that the numbers xs make.
abbrev pub made_of : {R : Type 0} → Kind R → List ℕ → R
made_of k xs = k.make (λ i. get_or xs i 0)

pub length_bytes : {R : Type 0} (k : Kind R) (xs : List ℕ) → length (bytes k xs) ≡ length k.mark + sum (k.widths (get_or xs 0 0))
unfolding bytes
length_bytes k xs = length-append k.mark (put_fields (k.widths (get_or xs 0 0)) xs) ∙ ap (λ n. length k.mark + n) (length_put (k.widths (get_or xs 0 0)) xs)

-- A record that is written has the bytes of its kind and its numbers; and one that has bytes has as many as its kind says.
pub laid_is : {R : Type 0} (k : Kind R) (xs : List ℕ) → k.allows (get_or xs 0 0) ≡ true → none_lost (k.widths (get_or xs 0 0)) xs ≡ true
    → laid (Some (k, xs)) ≡ bytes k xs
unfolding laid bytes
laid_is k xs a n = rw (a, n)

pub written_laid : {R : Type 0} (k : Kind R) (xs : List ℕ) → Written (Some (k, xs)) → laid (Some (k, xs)) ≡ bytes k xs
written_laid k xs w = laid_is k xs w.0 (fits_none_lost (k.widths (get_or xs 0 0)) xs w.1)

pub length_laid : {R : Type 0} (k : Kind R) (xs : List ℕ) → 0 < length (laid (Some (k, xs)))
    → length (laid (Some (k, xs))) ≡ length k.mark + sum (k.widths (get_or xs 0 0))
unfolding laid bytes
length_laid k xs = go (k.allows (get_or xs 0 0) && none_lost (k.widths (get_or xs 0 0)) xs)
  where
    go : (t : Bool) → 0 < length (cond t (bytes k xs) []) → length (cond t (bytes k xs) []) ≡ length k.mark + sum (k.widths (get_or xs 0 0))
    go true h = length_bytes k xs
    go false h = absurd (omega arith)

-- The two letters of a mark, neither of which is 0.
pub record Letters (mark : List ℕ) : Type 0 where
  pub two : length mark ≡ 2
  pub first : 0 < get_or mark 0 0
  pub second : 0 < get_or mark 1 0

-- Bytes that start with a mark have it as their first two.
pub starts_take : (mark bs : List ℕ) → Letters mark → starts mark bs ≡ true → take 2 bs ≡ mark
unfolding starts
starts_take [] bs l h = absurd (omega (arith, l.two))
starts_take (a ∷ []) bs l h = absurd (omega (arith, l.two))
starts_take (a ∷ b ∷ c ∷ m) bs l h = absurd (omega (arith, l.two))
starts_take (a ∷ b ∷ []) bs l h =
    let t = both (eqb (get_or bs 0 0) a) (eqb (get_or bs 1 0) b) h in
    heads bs (eqb-true (get_or bs 0 0) a t.0) (eqb-true (get_or bs 1 0) b t.1) l.first l.second
  where
    heads : (bs : List ℕ) → get_or bs 0 0 ≡ a → get_or bs 1 0 ≡ b → 0 < a → 0 < b → take 2 bs ≡ a ∷ b ∷ []
    heads [] e f p q = absurd (omega arith)
    heads (x ∷ []) e f p q = absurd (omega arith)
    heads (x ∷ y ∷ bs) e f p q = rw (e, f)

pub some_same : {A : Type 0} {x y : A} → Some x ≡ Some y → x ≡ y
some_same h = cc

-- What is whole has all its bytes.
pub of_whole : {R : Type 0} (n : ℕ) (x r : R) (m : ℕ) (bs : List ℕ) → whole n x bs ≡ Some (r, m) → (n ≤ length bs) × (x ≡ r) × (n ≡ m)
of_whole {R} n x r m bs = go (ltb (length bs) n) refl
  where
    go : (t : Bool) → ltb (length bs) n ≡ t → cond {A = Option (R × ℕ)} t None (Some (x, n)) ≡ Some (r, m) → (n ≤ length bs) × (x ≡ r) × (n ≡ m)
    go true e h = let z : ◌≡◌ {A = ℕ} 0 1 = cc in absurd (omega arith)
    go false e h = (ltb-false (length bs) n e, ap (λ p. p.0) (some_same h), ap (λ p. p.1) (some_same h))

pub whole_is : {R : Type 0} (n : ℕ) (r : R) (bs : List ℕ) → n ≤ length bs → whole n r bs ≡ Some (r, n)
whole_is n r bs h = rw (le-ltb (length bs) n h)

-- The fields behind a mark.
fields_of : {R : Type 0} (k : Kind R) (xs rest : List ℕ) → length k.mark ≡ 2 → ((i : ℕ) → get_or xs i 0 < 256 ^ get_or (k.widths (get_or xs 0 0)) i 0)
    → (i : ℕ) → get_or (get_fields (k.widths (get_or xs 0 0)) (bytes k xs ++ rest) 2) i 0 ≡ get_or xs i 0
unfolding bytes
fields_of k xs rest two fit i =
    let ws = k.widths (get_or xs 0 0) in
    let fields = put_fields ws xs in
    ap (λ l. get_or l i 0)
    (fields_on ws 2 ((k.mark ++ fields) ++ rest) 0
    ∙ ap (λ l. get_fields ws l 0) (ap (λ l. drop 2 l) (append_assoc k.mark fields rest) ∙ drop_at k.mark (fields ++ rest) 2 two))
    ∙ fields_back ws xs rest fit i

module _ {R : Type 0} (k : Kind R) where
  allowed_is : (b : ℕ) (bs : List ℕ) → k.allows b ≡ true
      → read_kind k b bs ≡ whole (size k b) (made_of k (get_fields (k.widths b) bs 2)) bs
  unfolding read_kind
  allowed_is b bs h = rw h

  -- A record of a kind is read back from its bytes, whatever stands behind them. `b` is the byte behind the mark.
  pub kind_back : (xs rest : List ℕ) (b : ℕ) → length k.mark ≡ 2 → ((i : ℕ) → get_or xs i 0 < 256 ^ get_or (k.widths (get_or xs 0 0)) i 0)
      → k.allows b ≡ true
      → k.widths b ≡ k.widths (get_or xs 0 0)
      → read_kind k b (bytes k xs ++ rest) ≡ Some (made_of k xs, length (bytes k xs))
  kind_back xs rest b two fit allowed same =
      let ws = k.widths (get_or xs 0 0) in
      let bs = bytes k xs ++ rest in
      let len : length (bytes k xs) ≡ 2 + sum ws = omega (arith, length_bytes k xs) in
      allowed_is b bs allowed
      ∙ ap (λ vs. whole (2 + sum vs) (made_of k (get_fields vs bs 2)) bs) same
      ∙ whole_is (2 + sum ws) (made_of k (get_fields ws bs 2)) bs (simp length-append (omega arith))
      ∙ ap (λ r. Some (r, 2 + sum ws)) (ap k.make (fun_ext (fields_of k xs rest two fit)))
      ∙ ap (λ m. Some (made_of k xs, m)) (sym len)

  -- What is read of a kind, and where it stands.
  pub record ReadAs (bs : List ℕ) (r : R) (n : ℕ) : Type 0 where
    pub allowed : k.allows (get_or bs 2 0) ≡ true
    pub there : size k (get_or bs 2 0) ≤ length bs
    pub made : made_of k (get_fields (k.widths (get_or bs 2 0)) bs 2) ≡ r
    pub count : size k (get_or bs 2 0) ≡ n

  pub of_kind : (bs : List ℕ) (r : R) (n : ℕ) → read_kind k (get_or bs 2 0) bs ≡ Some (r, n) → ReadAs bs r n
  unfolding read_kind
  of_kind bs r n = go (k.allows (get_or bs 2 0)) refl
    where
      b : ℕ
      b = get_or bs 2 0

      x : R
      x = made_of k (get_fields (k.widths b) bs 2)

      go : (t : Bool) → k.allows b ≡ t → cond t (whole (size k b) x bs) None ≡ Some (r, n) → ReadAs bs r n
      go true e h =
          let w = of_whole (size k b) x r n bs h in
          record { allowed = e; there = w.0; made = w.1; count = w.2 }
      go false e h = let z : ◌≡◌ {A = ℕ} 0 1 = cc in absurd (omega arith)

-- What a kind must be for its records to be written as they were read: its mark has two letters, and its records have it and their numbers as their layout.
pub record Fair {R : Type 0} (layout : R → Option (Kind R × List ℕ)) (k : Kind R) : Type 0 where
  pub letters : Letters k.mark
  pub same_widths : (bs : List ℕ) → k.allows (get_or bs 2 0) ≡ true
      → k.widths (get_or (get_fields (k.widths (get_or bs 2 0)) bs 2) 0 0) ≡ k.widths (get_or bs 2 0)
  pub same_allowed : (bs : List ℕ) → k.allows (get_or bs 2 0) ≡ true
      → k.allows (get_or (get_fields (k.widths (get_or bs 2 0)) bs 2) 0 0) ≡ true
  pub same_layout : (bs : List ℕ) → k.allows (get_or bs 2 0) ≡ true
      → layout (made_of k (get_fields (k.widths (get_or bs 2 0)) bs 2)) ≡ Some (k, get_fields (k.widths (get_or bs 2 0)) bs 2)

pub two_letters : (a b : ℕ) → 0 < a → 0 < b → Letters (a ∷ b ∷ [])
two_letters a b h k = record { two = refl; first = h; second = k }

-- A kind whose widths are the same whatever it holds, and whose records have its numbers as their layout.
pub plain_fair : {R : Type 0} {layout : R → Option (Kind R × List ℕ)} (k : Kind R) → Letters k.mark
    → ((b c : ℕ) → k.widths b ≡ k.widths c)
    → ((bs : List ℕ) → k.allows (get_or bs 2 0) ≡ true → k.allows (get_or (get_fields (k.widths (get_or bs 2 0)) bs 2) 0 0) ≡ true)
    → ((bs : List ℕ) → k.allows (get_or bs 2 0) ≡ true
    → layout (made_of k (get_fields (k.widths (get_or bs 2 0)) bs 2)) ≡ Some (k, get_fields (k.widths (get_or bs 2 0)) bs 2))
    → Fair layout k
plain_fair k letters widths allowed layouts =
    record { letters = letters; same_widths = λ bs a. widths _ _; same_allowed = allowed; same_layout = layouts }

unfoldable pub AllFair : {R : Type 0} → (R → Option (Kind R × List ℕ)) → List (Kind R) → Type 0
AllFair layout [] = Unit {0}
AllFair layout (k ∷ ks) = Fair layout k × AllFair layout ks

module _ {R : Type 0} (layout : R → Option (Kind R × List ℕ)) where
  kind_written : (k : Kind R) → Fair layout k → (bs : List ℕ) (r : R) (n : ℕ) → ((i : ℕ) → get_or bs i 0 < 256) → starts k.mark bs ≡ true
      → read_kind k (get_or bs 2 0) bs ≡ Some (r, n)
      → laid (layout r) ≡ take n bs
  unfolding bytes
  kind_written k fair bs r n bytes_only begins h =
      let a = of_kind k bs r n h in
      let ws = k.widths (get_or bs 2 0) in
      let xs = get_fields ws bs 2 in
      let there : sum ws ≤ length (drop 2 bs) = simp length-drop (omega (arith, a.there)) in
      ap (λ q. laid (layout q)) (sym a.made)
      ∙ ap laid (fair.same_layout bs a.allowed)
      ∙ laid_is k xs (fair.same_allowed bs a.allowed) (ap (λ vs. none_lost vs xs) (fair.same_widths bs a.allowed) ∙ got_none_lost ws bs 2)
      ∙ ap (λ vs. k.mark ++ put_fields vs (get_fields ws bs 2)) (fair.same_widths bs a.allowed)
      ∙ ap (λ xs. k.mark ++ put_fields ws xs) (fields_on ws 2 bs 0)
      ∙ ap (λ l. k.mark ++ l) (put_back ws (drop 2 bs) (bytes_left 2 bs (each_byte bs bytes_only)) there)
      ∙ ap (λ l. l ++ take (sum ws) (drop 2 bs)) (sym (starts_take k.mark bs fair.letters begins))
      ∙ sym (take-add 2 (sum ws) bs)
      ∙ ap (λ m. take m bs) a.count

  -- Whatever was read is written as the bytes that were read.
  pub kinds_written : (ks : List (Kind R)) → AllFair layout ks → (bs : List ℕ) (r : R) (n : ℕ) → ((i : ℕ) → get_or bs i 0 < 256)
      → read_kinds ks bs ≡ Some (r, n)
      → laid (layout r) ≡ take n bs
  unfolding read_kinds AllFair
  kinds_written [] fair bs r n b = λ h. let z : ◌≡◌ {A = ℕ} 0 1 = cc in absurd (omega arith)
  kinds_written (k ∷ ks) fair bs r n b = go (starts k.mark bs) refl (kinds_written ks fair.1 bs r n b)
    where
      go : (t : Bool) → starts k.mark bs ≡ t → (read_kinds ks bs ≡ Some (r, n) → laid (layout r) ≡ take n bs)
          → cond t (read_kind k (get_or bs 2 0) bs) (read_kinds ks bs) ≡ Some (r, n)
          → laid (layout r) ≡ take n bs
      go true e more h = kind_written k fair.0 bs r n b e h
      go false e more h = more h

-- What is written is read back.
abbrev pub ReadsBack : {R : Type 0} → List (Kind R) → (R → Option (Kind R × List ℕ)) → Type 0
ReadsBack {R} kinds layout =
    (r : R) (rest : List ℕ) → Written (layout r) → read_kinds kinds (laid (layout r) ++ rest) ≡ Some (r, length (laid (layout r)))

-- Two records with the same bytes are both what those bytes are read as.
pub apart : {R : Type 0} (kinds : List (Kind R)) (layout : R → Option (Kind R × List ℕ)) → ReadsBack kinds layout
    → (r q : R) → Written (layout r) → Written (layout q) → laid (layout r) ≡ laid (layout q) → r ≡ q
apart kinds layout back r q hr hq same =
    ap (λ p. p.0) (some_same (sym (back r [] hr) ∙ ap (λ bs. read_kinds kinds (bs ++ [])) same ∙ back q [] hq))
