-- Laws of the rows of a table, counted: looking for one by its place.
use Rattle.std.proofs.Common.{◌≡◌, refl, sym, ap, ◌∙◌, ℕ, ◌<◌, ◌≤◌, Bool, List, true, false, cond, length, arith, position, zero-add, one-add, eqb, Some, None}
use Rattle.std.specs.List.{range_with_len, position_or_len}
use Rattle.std.proofs.lemmas.List.FromFn.{length-range_with_len}
use Rattle.std.proofs.lemmas.List.Recursion.{is_position_or_len}
use borrow.Author.Tests.{ltb-true, ltb-false}
use lib.Dec.{ltb}
use Rattle.rules.specs.declared.Packet.{Packet}
use Rattle.tables.specs.Places.{rows, row_at, no_packet, place}
use Rattle.std.specs.Option.{unwrap_or}
use Rattle.tables.proofs.PlacesLaws.{row_is, place_le, used_below, unused_above}
use Rattle.tables.proofs.TableLaws.{rows_in_at, number_in, length_rows}
use Rattle.rules.proofs.Sums.{same, split}
use mathlib.Core.Logic.{◌⊎◌, inl, inr}
use borrow.Author.Tests.{eq-eqb, ne_eqb, le-ltb, lt-ltb}
use Rattle.std.specs.Simd.{first_chunks}
use Rattle.std.specs.List.Sorted.{IsPartitionedBy, IsPartitionPoint}
use Rattle.std.proofs.Common.{◌/◌, ◌*◌, ◌+◌, get_or}
use Rattle.rules.proofs.Tests.{never}
use Rattle.tables.specs.Places.{table_of}
use Rattle.rules.specs.Words.{each}
use Rattle.std.specs.List.{prefix_len, list_all}
use Rattle.std.proofs.Common.{not, get_or, map, [], ◌∷◌}
use Rattle.std.proofs.lemmas.List.FromFn.{length-map-range_with_len, get_or-map-range_with_len}
use Rattle.std.proofs.lemmas.List.{ext_get_or, get_or-take, length-take-le}
use Rattle.std.proofs.Common.{take}

-- the rows, read one by one by their places
pub listed : (t : List ℕ) → map (row_at t) (range_with_len 0 (length (rows t))) ≡ rows t
listed t =
    let n : ℕ = length (rows t) in
    let e : length (map (row_at t) (range_with_len 0 n)) ≡ n = length-map-range_with_len (row_at t) 0 n in
    ext_get_or no_packet _ _ e
    (λ i h. let l : i < n = omega (arith, e) in get_or-map-range_with_len (row_at t) 0 n i i no_packet l (zero-add i) ∙ sym (row_is t i l))

module _ {A : Type 0} (f : ℕ → A) (p : A → Bool) where
  prefix_map : (xs : List ℕ) → prefix_len (λ i. not (p (f i))) xs ≡ prefix_len (λ x. not (p x)) (map f xs)
  prefix_map [] = refl
  prefix_map (x ∷ xs) = rw (prefix_map xs) refl

  all_map : (xs : List ℕ) → list_all (λ i. p (f i)) xs ≡ each p (map f xs)
  all_map [] = refl
  all_map (x ∷ xs) = rw (all_map xs) refl

-- looked for, and looked at, by their places
module _ (p : Packet → Bool) (t : List ℕ) where
  pub found_position : position (λ i. p (row_at t i)) (range_with_len 0 (length (rows t))) ≡ position p (rows t)
  found_position =
      let n : ℕ = length (rows t) in
      rw (prefix_map (row_at t) p (range_with_len 0 n), listed t, length-range_with_len 0 n) refl

  pub each_row : list_all (λ i. p (row_at t i)) (range_with_len 0 (length (rows t))) ≡ each p (rows t)
  each_row = all_map (row_at t) p (range_with_len 0 (length (rows t))) ∙ ap (each p) (listed t)

-- what was found, and the place of the first row of connection c
module _ (c : ℕ) (ps : List Packet) where
  place_is : place c ps ≡ position_or_len (λ p. eqb p.connection c) ps
  place_is = is_position_or_len (place c) (λ p. eqb p.connection c) refl (λ p ps. rw one-add refl) ps

  pub none_found : position (λ p. eqb p.connection c) ps ≡ None → length ps ≤ place c ps
  none_found e = go (ltb (place c ps) (length ps)) refl (rw (← place_is) at e)
    where
      go : (b : Bool) → ltb (place c ps) (length ps) ≡ b → cond b (Some (place c ps)) None ≡ None → length ps ≤ place c ps
      go true q e = cc e
      go false q e = ltb-false _ _ q

  pub one_found : (i : ℕ) → position (λ p. eqb p.connection c) ps ≡ Some i → (i ≡ place c ps) × (place c ps < length ps)
  one_found i e = go (ltb (place c ps) (length ps)) refl (rw (← place_is) at e)
    where
      go : (b : Bool) → ltb (place c ps) (length ps) ≡ b → cond b (Some (place c ps)) None ≡ Some i → (i ≡ place c ps) × (place c ps < length ps)
      go true q e = (cc e, ltb-true _ _ q)
      go false q e = cc e

  -- .. or behind all, where there is none
  pub place_found : unwrap_or (position (λ p. eqb p.connection c) ps) (length ps) ≡ place c ps
  place_found = rw (← place_is) (go (ltb (place c ps) (length ps)) refl)
    where
      go : (b : Bool) → ltb (place c ps) (length ps) ≡ b → unwrap_or (cond b (Some (place c ps)) None) (length ps) ≡ place c ps
      go true q = refl
      go false q = omega (arith, ltb-false (place c ps) (length ps) q, place_le c ps)

-- ---- rows as arrays of five, used ones first

-- a row in use
abbrev pub is_used : List ℕ → Bool
is_used r = not (eqb (get_or r 1 0) 0)

module _ (t : List ℕ) (e : t ≡ table_of (length t) (rows t)) where
  abbrev pub arrays : List (List ℕ)
  arrays = first_chunks 5 (length t / 5) t

  -- whether it is tells whether its number is below that of the rows
  used_tells : (i : ℕ) (d : List ℕ) → i < length t / 5 → is_used (get_or arrays i d) ≡ ltb i (length (rows t))
  used_tells i d h = ap is_used (rows_in_at 5 (length t / 5) t i d h) ∙ ap (λ (n : ℕ). not (eqb n 0)) (number_in 5 t i 1 (omega arith)) ∙ go (same (get_or t (5 * i + 1) 0) 0)
    where
      go : (get_or t (5 * i + 1) 0 ≡ 0) ⊎ (get_or t (5 * i + 1) 0 ≡ 0 → ⊥) → not (eqb (get_or t (5 * i + 1) 0) 0) ≡ ltb i (length (rows t))
      go (inl z) = rw (eq-eqb (get_or t (5 * i + 1) 0) 0 z) (sym (le-ltb i (length (rows t)) (used_below t i z)))
      go (inr n) = rw (ne_eqb (get_or t (5 * i + 1) 0) 0 n) (sym (lt-ltb i (length (rows t)) (unused_above t i e n)))

  -- of those before h, the number of rows is where the used ones end, if h is no less
  module _ (h : ℕ) (inside : h ≤ length t / 5) (reached : length (rows t) ≤ h) where
    abbrev pub front : List (List ℕ)
    front = take h arrays

    length_front : length front ≡ h
    length_front = let n = length_rows 5 (length t / 5) t in length-take-le h arrays (omega arith)

    front_tells : (i : ℕ) (d : List ℕ) → i < h → is_used (get_or front i d) ≡ ltb i (length (rows t))
    front_tells i d l = ap is_used (get_or-take h arrays i d l) ∙ used_tells i d (omega arith)

    pub parted : IsPartitionedBy is_used front
    parted i j d l k p =
        let n = length_front in
        let q : j < length (rows t) = ltb-true _ _ (sym (front_tells j d (omega arith)) ∙ p) in
        front_tells i d (omega arith) ∙ lt-ltb i (length (rows t)) (omega arith)

    pub point_is : (r : ℕ) → r ≤ length front → IsPartitionPoint (λ y. is_used y ≡ true) (λ y. is_used y ≡ false) front r → r ≡ length (rows t)
    point_is r l p = let n = length_front in go n (split r (length (rows t)))
      where
        go : length front ≡ h → (r ≤ length (rows t)) ⊎ (length (rows t) < r) → r ≡ length (rows t)
        go n (inr k) = never (sym (le-ltb m m (omega arith)) ∙ sym (front_tells m [] (omega arith)) ∙ p.0 m [] (omega arith) k)
          where
            m : ℕ
            m = length (rows t)
        go n (inl k) = low (split (length (rows t)) r)
          where
            low : (length (rows t) ≤ r) ⊎ (r < length (rows t)) → r ≡ length (rows t)
            low (inl g) = omega arith
            low (inr g) = never (sym (p.1 r [] (omega arith) (omega arith)) ∙ front_tells r [] (omega arith) ∙ lt-ltb r (length (rows t)) g)
