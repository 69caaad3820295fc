-- Laws of the table of notices: it is what is written of what is read, and the other way round; one more behind the others; its first row.
use mathlib.Core.Path.{◌≡◌, refl, sym, ap, ◌∙◌}
use mathlib.Core.Bool.{true}
use mathlib.Core.List.{List, [], ◌∷◌, ◌++◌, map}
use Prim.Native.Nat.{ℕ, ◌+◌, ◌*◌, ◌≤◌, ◌<◌}
use native.Mathlib.Omega.{arith}
use lib.Dec.{eqb}
use lib.ListN.{length, drop, length-map}
use borrow.Author.Tests.{eqb-true, eq-eqb}
use Rattle.rules.specs.declared.Packet.{Packet}
use Rattle.rules.specs.declared.Notice.{Notice}
use Rattle.rules.specs.Words.{All, each}
use Rattle.rules.specs.Limits.{max_notices, notice_number}
use Rattle.rules.specs.Model.{notice_packet}
use Rattle.rules.proofs.Tests.{and_true, and_intro}
use Rattle.rules.proofs.Rows.{map_append}
use Rattle.tables.specs.Table.{formed}
use Rattle.tables.specs.Places.{packet_width, numbers_of, rows, table_of, row_at}
use Rattle.tables.specs.Notices.{notices_length, notice_of, notices_in, written_notices, marked, notices_formed}
use Rattle.tables.proofs.TableLaws.{formed_length, formed_written}
use Rattle.tables.proofs.PlacesLaws.{packet_in, numbers_back, rows_from, rows_end, rows_again, formed_again}

-- ---- a marked row is its notice's packet

abbrev packet_of : ℕ → ℕ → ℕ → ℕ → ℕ → Packet
packet_of a b c d e = record { connection = a; len = b; tag = c; arrival = d; eligibility = e }

bears : (c l t a e : ℕ) → c ≡ notice_number → e ≡ a → notice_packet (notice_of (packet_of c l t a e)) ≡ packet_of c l t a e
bears c l t a e i j = rw (i, j)

pub marked_row : (p : Packet) → marked p ≡ true → notice_packet (notice_of p) ≡ p
marked_row p h =
    let k = and_true (eqb p.connection notice_number) (eqb p.eligibility p.arrival) h in
    bears p.connection p.len p.tag p.arrival p.eligibility (eqb-true _ _ k.0) (eqb-true _ _ k.1)

pub marked_rows : (ps : List Packet) → each marked ps ≡ true → map notice_packet (map notice_of ps) ≡ ps
marked_rows [] h = refl
marked_rows (p ∷ ps) h =
    let k = and_true (marked p) (each marked ps) h in
    ap (λ (x : Packet). x ∷ map notice_packet (map notice_of ps)) (marked_row p k.0) ∙ ap (λ (l : List Packet). p ∷ l) (marked_rows ps k.1)

all_marked : (ns : List Notice) → each marked (map notice_packet ns) ≡ true
all_marked [] = refl
all_marked (n ∷ ns) = and_intro (marked (notice_packet n)) (each marked (map notice_packet ns)) (eq-eqb n.arrival n.arrival refl) (all_marked ns)

same_notices : (ns : List Notice) → map notice_of (map notice_packet ns) ≡ ns
same_notices [] = refl
same_notices (n ∷ ns) = ap (λ (l : List Notice). n ∷ l) (same_notices ns)

all_len : (ns : List Notice) → All (λ n. 0 < n.len) ns → All (λ p. 0 < p.len) (map notice_packet ns)
all_len [] h = tt
all_len (n ∷ ns) h = (h.0, all_len ns h.1)

-- ---- what is read of a formed table is written back

module _ (q : List ℕ) (f : notices_formed q ≡ true) where
  parts : (formed packet_width notices_length q ≡ true) × (each marked (rows q) ≡ true)
  unfolding notices_formed
  parts = and_true (formed packet_width notices_length q) (each marked (rows q)) f

  pub notices_length_is : length q ≡ notices_length
  notices_length_is = formed_length packet_width notices_length q parts.0

  pub rows_marked : each marked (rows q) ≡ true
  rows_marked = parts.1

  pub notice_rows : map notice_packet (notices_in q) ≡ rows q
  notice_rows = marked_rows (rows q) parts.1

  pub notices_table : q ≡ table_of notices_length (rows q)
  unfolding rows table_of
  notices_table = formed_written packet_width packet_in numbers_of numbers_back notices_length q parts.0

  pub as_a_table : q ≡ table_of (length q) (rows q)
  as_a_table = notices_table ∙ ap (λ (n : ℕ). table_of n (rows q)) (sym notices_length_is)

  pub notices_back : q ≡ written_notices (notices_in q)
  notices_back = notices_table ∙ ap (table_of notices_length) (sym notice_rows)

  pub notices_few : length (notices_in q) ≤ max_notices
  notices_few = omega (arith, rows_end q, notices_length_is, length-map (rows q) notice_of)

  -- one more behind those that wait: its room, and what is written with it
  pub note_room : length (notices_in q) < max_notices → 5 * length (rows q) + 5 ≤ length q
  note_room h = omega (arith, notices_length_is, length-map (rows q) notice_of)

  pub note_behind : (n : Notice) → table_of (length q) (rows q ++ notice_packet n ∷ []) ≡ written_notices (notices_in q ++ n ∷ [])
  note_behind n =
      ap (λ (k : ℕ). table_of k (rows q ++ notice_packet n ∷ [])) notices_length_is
      ∙ ap (λ (ps : List Packet). table_of notices_length (ps ++ notice_packet n ∷ [])) (sym notice_rows)
      ∙ ap (table_of notices_length) (sym (map_append notice_packet (notices_in q) (n ∷ [])))

-- ---- what is written is read back

module _ (ns : List Notice) (pos : All (λ n. 0 < n.len) ns) (few : length ns ≤ max_notices) where
  rows_back : rows (written_notices ns) ≡ map notice_packet ns
  rows_back = rows_again (map notice_packet ns) (all_len ns pos) notices_length

  pub notices_again : notices_in (written_notices ns) ≡ ns
  notices_again = ap (map notice_of) rows_back ∙ same_notices ns

  pub written_formed : notices_formed (written_notices ns) ≡ true
  unfolding notices_formed
  written_formed =
      and_intro (formed packet_width notices_length (written_notices ns)) (each marked (rows (written_notices ns)))
      (formed_again (map notice_packet ns) (all_len ns pos) notices_length (omega (arith, length-map ns notice_packet)))
      (ap (each marked) rows_back ∙ all_marked ns)

-- ---- the first row

pub first_row : (q : List ℕ) → 0 < length (rows q) → notices_in q ≡ notice_of (row_at q 0) ∷ map notice_of (drop 1 (rows q))
first_row q l = ap (map notice_of) (rows_from q 0 l)

pub no_rows : (q : List ℕ) → length (rows q) ≡ 0 → notices_in q ≡ []
no_rows q e = go (rows q) e
  where
    go : (ps : List Packet) → length ps ≡ 0 → map notice_of ps ≡ []
    go [] i = refl
    go (p ∷ ps) i = absurd (omega arith)
