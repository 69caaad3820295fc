-- Laws of the places table: rows put in and taken out, the first row of a connection, the loops over rows, and its shape.
use mathlib.Core.Path.{◌≡◌, refl, sym, ap, ◌∙◌}
use mathlib.Core.Bool.{Bool, true, false, cond}
use mathlib.Core.Logic.{◌⊎◌, inl, inr}
use mathlib.Core.List.{List, [], ◌∷◌, ◌++◌, append_assoc}
use mathlib.Core.Option.{none, some}
use Prim.Native.Nat.{ℕ, zero, suc, ◌+◌, ◌*◌, ◌-◌, ◌≤◌, ◌<◌}
use native.Mathlib.Nat.{le_of_suc-le-suc, add-zero}
use native.Mathlib.Omega.{arith}
use lib.Dec.{ltb, eqb}
use borrow.Author.Tests.{ltb-true, ltb-false, eq-eqb, ne_eqb}
use lib.ListN.{length, get_or, take, drop, replicate, length-drop, length-map}
use lib.Seq.{sets-eq, drop-cons, get_or-drop, take-paste, drop-paste, length-paste, drop-drop, take_at, drop_at}
use Rattle.rules.specs.declared.Packet.{Packet}
use Rattle.rules.specs.Words.{All}
use Rattle.rules.specs.Limits.{max_reserved}
use Rattle.rules.specs.Service.{first, without}
use Rattle.rules.proofs.Sums.{same}
use Rattle.limits.specs.Zeros.{zeros}
use Rattle.limits.proofs.ZeroLaws.{zeros_rep, zero_at, zeros_more}
use Rattle.tables.specs.Table.{row_in, used, write, padded, formed}
use Rattle.tables.specs.Places.{packet_width, put, shifted, cut, place, rows, written_places, table_of, places_length, numbers_of, no_packet, row_at}
use Rattle.tables.proofs.TableLaws.{listed_row, number_in, drop_write, formed_written, read_at, used_end, held_stop, held_more, length_write, write_append, take_rows, drop_rows, length_padded, put_last, read_back, formed_back}

-- ---- a row

-- as it is read
abbrev pub packet_in : List ℕ → Packet
packet_in r = record { connection = get_or r 0 0; len = get_or r 1 0; tag = get_or r 2 0; arrival = get_or r 3 0; eligibility = get_or r 4 0 }

pub numbers_back : (r : List ℕ) → length r ≡ packet_width → numbers_of (packet_in r) ≡ r
numbers_back r e = listed_row packet_width r e

row_numbers : (t : List ℕ) (i : ℕ) → packet_in (row_in packet_width t i) ≡ row_at t i
row_numbers t i =
    let n = number_in packet_width t i in
    rw (n 0 (omega arith), n 1 (omega arith), n 2 (omega arith), n 3 (omega arith), n 4 (omega arith), add-zero (5 * i))

-- a packet put behind the rows
put_behind : (n : ℕ) (ps : List Packet) (p : Packet) → 5 * length ps + 5 ≤ n → put (table_of n ps) (length ps) p ≡ table_of n (ps ++ p ∷ [])
unfolding table_of
put_behind n ps p h = put_last packet_width numbers_of (λ p. refl) n ps p h

length_cut : {A : Type 0} (xs : List A) (i : ℕ) → i < length xs → length (cut i xs) + 1 ≡ length xs
length_cut [] i h = absurd (omega arith)
length_cut (x ∷ xs) zero h = omega arith
length_cut (x ∷ xs) (suc i) h = omega (arith, length_cut xs i (le_of_suc-le-suc h))

-- row i taken out, the later ones moved up, the last one made zero
cut_rows : (size : ℕ) (ps : List Packet) (i : ℕ) → i < length ps → 5 * length ps ≤ size
    → put (shifted (table_of size ps) (5 * i) (5 * (length ps - i - 1))) (length ps - 1) no_packet ≡ table_of size (cut i ps)
unfolding table_of
cut_rows size ps i l h =
    let n : ℕ = size - 5 * length ps in
    let m : ℕ = 5 * (length ps - i - 1) in
    let z : List ℕ = replicate n 0 in
    let t : List ℕ = write numbers_of ps ++ z in
    let ys : List Packet = drop (suc i) ps in
    let s : List ℕ = shifted t (5 * i) m in
    let lt : length t ≡ size = length_padded packet_width numbers_of (λ p. refl) size ps h in
    let ly : length (write numbers_of ys) ≡ m = omega (arith, length_write packet_width numbers_of (λ p. refl) ys, length-drop (suc i) ps) in
    let a : 5 * (length ps - 1) ≡ 5 * i + m = omega arith in
    let b : 5 * (length ps - 1) + 5 ≡ 5 * length ps = omega arith in
    let k1 : 5 * i ≤ length t = omega arith in
    let k3 : 5 * i + 5 ≡ 5 * suc i = omega arith in
    let k4 : 5 * (length ps - 1) + 5 ≡ 5 * i + m + 5 = omega arith in
    let k5 : 5 * i + m + 5 ≡ 5 * length ps = omega arith in
    let k6 : 5 + n ≡ size - 5 * length (cut i ps) = omega (arith, length_cut ps i l) in
    let k2 : m ≤ length (drop (5 * i + 5) t) = omega (arith, length-drop (5 * i + 5) t) in
    let ls : length s ≡ length t = length-paste t (5 * i) (drop (5 * i + 5) t) m (omega arith) k2 in
    let front : take (5 * (length ps - 1)) s ≡ write numbers_of (cut i ps) =
    ap (λ (j : ℕ). take j s) a ∙ take-paste t (5 * i) (drop (5 * i + 5) t) m k1 k2
    ∙ ap (λ (l : List ℕ). l ++ take m (drop (5 * i + 5) t)) (take_rows packet_width numbers_of (λ p. refl) z ps i (omega arith))
    ∙ ap (λ (l : List ℕ). write numbers_of (take i ps) ++ take m l) (ap (λ (j : ℕ). drop j t) k3 ∙ drop_rows packet_width numbers_of (λ p. refl) z ps (suc i) l)
    ∙ ap (λ (l : List ℕ). write numbers_of (take i ps) ++ l) (take_at (write numbers_of ys) z m ly)
    ∙ sym (write_append packet_width numbers_of (λ p. refl) (take i ps) ys) in
    let back : drop (5 * (length ps - 1) + 5) s ≡ z =
    ap (λ (j : ℕ). drop j s) k4 ∙ sym (drop-drop 5 (5 * i + m) s)
    ∙ ap (drop 5) (drop-paste t (5 * i) (drop (5 * i + 5) t) m k1 k2)
    ∙ drop-drop 5 (5 * i + m) t
    ∙ ap (λ (j : ℕ). drop j t) k5
    ∙ drop_at (write numbers_of ps) z (5 * length ps) (length_write packet_width numbers_of (λ p. refl) ps) in
    sets-eq (numbers_of no_packet) s (5 * (length ps - 1)) (omega arith)
    ∙ ap (λ (l : List ℕ). l ++ (0 ∷ 0 ∷ 0 ∷ 0 ∷ 0 ∷ []) ++ drop (5 * (length ps - 1) + 5) s) front
    ∙ ap (λ (l : List ℕ). write numbers_of (cut i ps) ++ (0 ∷ 0 ∷ 0 ∷ 0 ∷ 0 ∷ []) ++ l) back
    ∙ append_assoc (write numbers_of (cut i ps)) (0 ∷ 0 ∷ 0 ∷ 0 ∷ 0 ∷ []) z
    ∙ ap (λ (l : List ℕ). write numbers_of (cut i ps) ++ l) (zeros_more 5 n (size - 5 * length (cut i ps)) k6)

pub cut_table : (size : ℕ) (t : List ℕ) (held i : ℕ) → t ≡ table_of size (rows t) → held ≡ length (rows t) → i < held → 5 * held ≤ size
    → put (shifted t (5 * i) (5 * (held - i - 1))) (held - 1) no_packet ≡ table_of size (cut i (rows t))
cut_table size t held i e n l h =
    ap (λ (u : List ℕ). put (shifted u (5 * i) (5 * (held - i - 1))) (held - 1) no_packet) e
    ∙ ap (λ (m : ℕ). put (shifted (table_of size (rows t)) (5 * i) (5 * (m - i - 1))) (m - 1) no_packet) n
    ∙ cut_rows size (rows t) i (omega arith) (omega arith)

-- the places table among the tables, by its length
pub is_places : (t : List ℕ) (ps : List Packet) → length t ≡ places_length → table_of (length t) ps ≡ written_places ps
unfolding table_of
is_places t ps e = ap (λ (n : ℕ). padded packet_width numbers_of n ps) e

-- ---- the first row of a connection

module _ (c : ℕ) where
  pub without_cut : (ps : List Packet) → without c ps ≡ cut (place c ps) ps
  without_cut [] = refl
  without_cut (p ∷ ps) = go (eqb p.connection c) (without_cut ps)
    where
      go : (u : Bool) → without c ps ≡ cut (place c ps) ps → cond u ps (p ∷ without c ps) ≡ cut (cond u 0 (suc (place c ps))) (p ∷ ps)
      go true h = refl
      go false h = ap (λ (l : List Packet). p ∷ l) h

  pub place_le : (ps : List Packet) → place c ps ≤ length ps
  place_le [] = omega arith
  place_le (p ∷ ps) = go (eqb p.connection c) (place_le ps)
    where
      go : (u : Bool) → place c ps ≤ length ps → cond u 0 (suc (place c ps)) ≤ length (p ∷ ps)
      go true h = omega arith
      go false h = omega arith

  -- the first row of c is the one at its place
  pub first_place : (ps : List Packet) → place c ps < length ps → first c ps ≡ some (get_or ps (place c ps) no_packet)
  first_place [] l = absurd (omega arith)
  first_place (p ∷ ps) l = go (eqb p.connection c) l (first_place ps)
    where
      go : (u : Bool) → cond u 0 (suc (place c ps)) < length (p ∷ ps) → (place c ps < length ps → first c ps ≡ some (get_or ps (place c ps) no_packet))
          → cond u (some p) (first c ps) ≡ some (get_or (p ∷ ps) (cond u 0 (suc (place c ps))) no_packet)
      go true l h = refl
      go false l h = h (le_of_suc-le-suc l)

  pub first_held : (ps : List Packet) (p : Packet) → first c ps ≡ some p → place c ps < length ps
  first_held [] p e = let z : ◌≡◌ {A = ℕ} 0 1 = cc e in absurd (omega arith)
  first_held (q ∷ ps) p e = go (eqb q.connection c) e (first_held ps p)
    where
      go : (u : Bool) → cond u (some q) (first c ps) ≡ some p → (first c ps ≡ some p → place c ps < length ps) → cond u 0 (suc (place c ps)) < length (q ∷ ps)
      go true e h = omega arith
      go false e h = let k = h e in omega arith

-- ---- loops over the rows

pub rows_used : (t : List ℕ) → length (rows t) ≡ length (used packet_width t)
unfolding rows
rows_used t = length-map (used packet_width t) packet_in

pub row_is : (t : List ℕ) (i : ℕ) → i < length (rows t) → get_or (rows t) i no_packet ≡ row_at t i
unfolding rows
row_is t i h = read_at packet_width packet_in t i (omega (arith, rows_used t)) ∙ row_numbers t i

pub rows_end : (t : List ℕ) → 5 * length (rows t) ≤ length t
rows_end t = omega (arith, used_end packet_width t, rows_used t)

pub rows_stop : (t : List ℕ) (i : ℕ) → i ≤ length (rows t) → get_or t (5 * i + 1) 0 ≡ 0 → i ≡ length (rows t)
rows_stop t i h z = let k = held_stop packet_width t (omega arith) i (omega (arith, rows_used t)) z in omega (arith, rows_used t)

pub rows_more : (t : List ℕ) (i : ℕ) → 5 * i + 5 ≤ length t → (get_or t (5 * i + 1) 0 ≡ 0 → ⊥) → i ≤ length (rows t) → i < length (rows t)
rows_more t i l z h = let k = held_more packet_width t (omega arith) i (omega arith) z (omega (arith, rows_used t)) in omega (arith, rows_used t)

-- the rows from i on are row i and those behind it
pub rows_from : (t : List ℕ) (i : ℕ) → i < length (rows t) → drop i (rows t) ≡ row_at t i ∷ drop (suc i) (rows t)
rows_from t i h = drop-cons (rows t) i no_packet h ∙ ap (λ (p : Packet). p ∷ drop (suc i) (rows t)) (row_is t i h)

-- ---- the shape of the table

pub not_formed : (n : ℕ) (t : List ℕ) → (length t ≡ n → ⊥) → false ≡ formed packet_width n t
not_formed n t h = rw (ne_eqb (length t) n h)

pub rows_formed : (n m : ℕ) (t : List ℕ) → length t ≡ n → m ≡ length (rows t) → zeros (drop (5 * m) t) ≡ formed packet_width n t
rows_formed n m t h e = rw (eq-eqb (length t) n h, e ∙ rows_used t)

pub table_back : (t : List ℕ) → formed packet_width places_length t ≡ true → t ≡ written_places (rows t)
unfolding rows table_of
table_back t h = formed_written packet_width packet_in numbers_of numbers_back places_length t h

pub first_none : (c : ℕ) (ps : List Packet) → length ps ≤ place c ps → first c ps ≡ none
first_none c [] l = refl
first_none c (p ∷ ps) l = go (eqb p.connection c) l (first_none c ps)
  where
    go : (u : Bool) → length (p ∷ ps) ≤ cond u 0 (suc (place c ps)) → (length ps ≤ place c ps → first c ps ≡ none) → cond u (some p) (first c ps) ≡ none
    go true l h = absurd (omega arith)
    go false l h = h (le_of_suc-le-suc l)

pub append_table : (size : ℕ) (t : List ℕ) (held : ℕ) (p : Packet) → t ≡ table_of size (rows t) → held ≡ length (rows t) → 5 * held + 5 ≤ size
    → put t held p ≡ table_of size (rows t ++ p ∷ [])
append_table size t held p e n h =
    ap (λ (u : List ℕ). put u held p) e ∙ ap (λ (m : ℕ). put (table_of size (rows t)) m p) n ∙ put_behind size (rows t) p (omega arith)

-- ---- rows by halving: used ones before, unused ones behind

pub used_below : (t : List ℕ) (i : ℕ) → get_or t (5 * i + 1) 0 ≡ 0 → length (rows t) ≤ i
used_below t i z = go (ltb i (length (rows t))) refl
  where
    go : (b : Bool) → ltb i (length (rows t)) ≡ b → length (rows t) ≤ i
    go true e = let l : i < length (rows t) = ltb-true _ _ e in absurd (omega (arith, rows_stop t i (omega arith) z))
    go false e = ltb-false _ _ e

-- whether there is a row at all: the first one tells
pub no_rows : (t : List ℕ) → length t < 5 → true ≡ eqb (length (rows t)) 0
no_rows t h = sym (eq-eqb (length (rows t)) 0 (omega (arith, rows_end t)))

pub first_tells : (t : List ℕ) → 5 ≤ length t → eqb (get_or t 1 0) 0 ≡ eqb (length (rows t)) 0
first_tells t h = go (same (get_or t 1 0) 0)
  where
    go : (get_or t 1 0 ≡ 0) ⊎ (get_or t 1 0 ≡ 0 → ⊥) → eqb (get_or t 1 0) 0 ≡ eqb (length (rows t)) 0
    go (inl e) = eq-eqb (get_or t 1 0) 0 e ∙ sym (eq-eqb (length (rows t)) 0 (omega (arith, used_below t 0 e)))
    go (inr n) = ne_eqb (get_or t 1 0) 0 n ∙ sym (ne_eqb (length (rows t)) 0 (λ z. omega (arith, rows_more t 0 (omega arith) n (omega arith))))

unused_behind : (t : List ℕ) → t ≡ table_of (length t) (rows t) → zeros (drop (5 * length (rows t)) t) ≡ true
unfolding table_of
unused_behind t e =
    ap (λ (l : List ℕ). zeros (drop (5 * length (rows t)) l)) e
    ∙ ap zeros (drop_write packet_width numbers_of (λ p. refl) (rows t) (replicate (length t - 5 * length (rows t)) 0))
    ∙ zeros_rep (length t - 5 * length (rows t))

-- the places table is one of these
pub as_table : (t : List ℕ) → t ≡ written_places (rows t) → length t ≡ places_length → t ≡ table_of (length t) (rows t)
as_table t e n = e ∙ sym (is_places t (rows t) n)

pub unused_above : (t : List ℕ) (i : ℕ) → t ≡ table_of (length t) (rows t) → (get_or t (5 * i + 1) 0 ≡ 0 → ⊥) → i < length (rows t)
unused_above t i e n = go (ltb i (length (rows t))) refl
  where
    go : (b : Bool) → ltb i (length (rows t)) ≡ b → i < length (rows t)
    go true q = ltb-true _ _ q
    go false q =
        let l : length (rows t) ≤ i = ltb-false _ _ q in
        let k : 5 * length (rows t) + (5 * i + 1 - 5 * length (rows t)) ≡ 5 * i + 1 = omega arith in
        absurd (n (rw (← k) (sym (get_or-drop (5 * length (rows t)) t (5 * i + 1 - 5 * length (rows t)) 0) ∙ zero_at (drop (5 * length (rows t)) t) (5 * i + 1 - 5 * length (rows t)) (unused_behind t e))))

-- ---- what is written is read back, and is formed

module _ (ps : List Packet) (sent : All (λ p. 0 < p.len) ps) where
  pub rows_again : (n : ℕ) → rows (table_of n ps) ≡ ps
  unfolding rows table_of
  rows_again n = read_back packet_width numbers_of (λ p. refl) (omega arith) packet_in (λ p. refl) ps (n - packet_width * length ps) sent

  pub formed_again : (n : ℕ) → packet_width * length ps ≤ n → formed packet_width n (table_of n ps) ≡ true
  unfolding table_of
  formed_again n fit = formed_back packet_width numbers_of (λ p. refl) (omega arith) packet_in (λ p. refl) ps n sent fit

  -- of the places table
  pub places_again : rows (written_places ps) ≡ ps
  unfolding table_of
  places_again = rows_again places_length

  pub places_formed_again : length ps ≤ max_reserved → formed packet_width places_length (written_places ps) ≡ true
  unfolding table_of
  places_formed_again fit = formed_again places_length (omega arith)
