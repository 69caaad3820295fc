-- Reading does not look past the record.
use Rattle.std.specs.Prelude.{Some, None}
use mathlib.Core.Path.{◌≡◌, refl, sym, ap, ◌∙◌}
use mathlib.Core.Bool.{Bool, true, false, cond}
use mathlib.Core.List.{List, [], ◌∷◌, ◌++◌}
use Prim.Native.Nat.{ℕ, zero, suc, ◌+◌, ◌≤◌}
use native.Mathlib.Omega.{arith}
use lib.ListN.{length, get_or, length-append, get_or-append}
use Rattle.fields.specs.Numbers.{number, get_fields, sum}
use Rattle.fields.specs.Kinds.{Kind}
use Rattle.fields.proofs.Parts.{size, whole}
use Rattle.fields.specs.Formats.{starts, read_kind, read_kinds}
use Rattle.fields.proofs.FormatLaws.{made_of, whole_is}

number_same : (w : ℕ) (bs rest : List ℕ) (at : ℕ) → at + w ≤ length bs → number w (bs ++ rest) at ≡ number w bs at
unfolding number
number_same zero bs rest at h = refl
number_same (suc w) bs rest at h =
    rw (get_or-append bs rest 0 at (omega arith), number_same w bs rest (at + 1) (omega arith))

fields_same : (ws bs rest : List ℕ) (at : ℕ) → at + sum ws ≤ length bs → get_fields ws (bs ++ rest) at ≡ get_fields ws bs at
unfolding get_fields sum
fields_same [] bs rest at h = refl
fields_same (w ∷ ws) bs rest at h =
    rw (number_same w bs rest at (omega arith), fields_same ws bs rest (at + w) (omega arith))

starts_same : (mark bs rest : List ℕ) → 2 ≤ length bs → starts mark (bs ++ rest) ≡ starts mark bs
unfolding starts
starts_same mark bs rest h = rw (get_or-append bs rest 0 0 (omega arith), get_or-append bs rest 0 1 (omega arith))

-- No record of a kind has more bytes than these.
unfoldable pub AllWithin : {R : Type 0} → ℕ → List (Kind R) → Type 0
AllWithin longest [] = Unit {0}
AllWithin longest (k ∷ ks) = ((b : ℕ) → k.allows b ≡ true → size k b ≤ longest) × AllWithin longest ks

module _ {R : Type 0} (longest : ℕ) (bs rest : List ℕ) (long : longest ≤ length bs) where
  kind_same : (k : Kind R) (b : ℕ) → (k.allows b ≡ true → size k b ≤ longest) → read_kind k b (bs ++ rest) ≡ read_kind k b bs
  unfolding read_kind
  kind_same k b within = go (k.allows b) refl
    where
      made : List ℕ → R
      made l = made_of k (get_fields (k.widths b) l 2)

      go : (t : Bool) → k.allows b ≡ t
          → cond t (whole (size k b) (made (bs ++ rest)) (bs ++ rest)) None ≡ cond t (whole (size k b) (made bs) bs) None
      go false e = refl
      go true e =
          let n = size k b in
          let fits = within e in
          whole_is n (made (bs ++ rest)) (bs ++ rest) (simp length-append (omega arith))
          ∙ ap (λ xs. Some (made_of k xs, n)) (fields_same (k.widths b) bs rest 2 (omega arith))
          ∙ sym (whole_is n (made bs) bs (omega arith))

  pub kinds_same : (ks : List (Kind R)) → 3 ≤ longest → AllWithin longest ks → read_kinds ks (bs ++ rest) ≡ read_kinds ks bs
  unfolding read_kinds AllWithin
  kinds_same [] three within = refl
  kinds_same (k ∷ ks) three within =
      let b = get_or bs 2 0 in
      rw (
        starts_same k.mark bs rest (omega arith),
        get_or-append bs rest 0 2 (omega arith),
        kind_same k b (within.0 b),
        kinds_same ks three within.1,
      )
