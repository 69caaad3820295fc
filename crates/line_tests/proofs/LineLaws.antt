-- Laws of the tests of a line, in the order of the code.
use Prim.Native.Nat.{ℕ, zero, suc, ◌≤◌, ◌<◌}
use native.Mathlib.Omega.{arith}
use mathlib.Core.Path.{◌≡◌, refl, sym, ap, ◌∙◌}
use mathlib.Core.Bool.{Bool, true, false, not, cond, ◌&&◌}
use mathlib.Core.List.{List, [], ◌∷◌, map}
use mathlib.Core.Option.{Option, some}
use lib.Dec.{leb, eqb}
use lib.ListN.{length, get_or, length-map}
use Rattle.std.specs.List.{position}
use Rattle.std.specs.Prelude.{Some, None}
use borrow.Author.Tests.{not-true, not-false, le-leb, eq-eqb, ne_eqb}
use Rattle.rules.specs.declared.Packet.{Packet}
use Rattle.rules.specs.declared.Notice.{Notice}
use Rattle.rules.specs.Words.{within, each}
use Rattle.rules.specs.Limits.{max_reserved, max_notices, notice_number}
use Rattle.rules.specs.Model.{first_notice}
use Rattle.rules.specs.Service.{first}
use Rattle.rules.specs.SoundTest.{serves, serves_notice}
use Rattle.rules.specs.SoundLine.{waits, busy_line}
use Rattle.rules.proofs.Sums.{cond_is}
use Rattle.rules.proofs.Tests.{and_true}
use Rattle.limits.proofs.ChainLaws.{fails, goes_on}
use Rattle.tables.specs.Table.{formed}
use Rattle.tables.specs.Places.{packet_width, places_length, rows, row_at, no_packet}
use Rattle.tables.specs.Notices.{notice_of, notices_in, notices_formed}
use Rattle.tables.proofs.TableLaws.{formed_length}
use Rattle.tables.proofs.PlacesLaws.{row_is, rows_end, first_place, first_none}
use Rattle.tables.proofs.RowsLaws.{none_found, one_found}
use Rattle.tables.proofs.NoticeLaws.{notices_few as few_notices, first_row, no_rows}
use Rattle.line_tests.specs.declared.Service.{Service}
use Rattle.line_tests.specs.Lines.{wire_of}

-- ---- a test that another function has made, with the answer r

pub holds : {r a : Bool} → r ≡ a → not r ≡ false → a ≡ true
holds {r} e n = sym e ∙ not-false r n

pub falls : {r a : Bool} → r ≡ a → not r ≡ true → a ≡ false
falls {r} e n = sym e ∙ not-true r n

-- first of several: it fails, or it holds and the rest decides
pub stops : {r a : Bool} (b : Bool) → r ≡ a → not r ≡ true → false ≡ (a && b)
stops {r} {a} b e n = fails a b (falls e n)

pub passes_on : {r a s b : Bool} → r ≡ a → not r ≡ false → s ≡ b → s ≡ (a && b)
passes_on {r} {a} {s} {b} e n k = goes_on a b s (holds e n) k

-- .. as `&&` has it
pub both_stop : {r a : Bool} (b : Bool) → r ≡ a → r ≡ false → r ≡ (a && b)
both_stop {r} {a} b e n = n ∙ fails a b (sym e ∙ n)

pub both_go : {r a s b : Bool} → r ≡ a → r ≡ true → s ≡ b → s ≡ (a && b)
both_go {r} {a} {s} {b} e n k = goes_on a b s (sym e ∙ n) k

-- by the number of the link that is 0 where none is set: a without a link, b with one
module _ (n : ℕ) (a b : Bool) {r : Bool} where
  pub without_link : n ≡ 0 → r ≡ a → r ≡ cond (eqb n 0) a b
  without_link z e = e ∙ sym (cond_is a b (eq-eqb n 0 z))

  pub with_link : (n ≡ 0 → ⊥) → r ≡ b → r ≡ cond (eqb n 0) a b
  with_link z e = e ∙ sym (cond_is a b (ne_eqb n 0 z))

-- ---- a test of each row: each passes where all do

pub row_holds : (f : Packet → Bool) (t : List ℕ) → each f (rows t) ≡ true → (k : ℕ) → k < length (rows t) → f (row_at t k) ≡ true
row_holds f t ok k l = ap f (sym (row_is t k l)) ∙ each_at (rows t) ok k l
  where
    each_at : (ps : List Packet) → each f ps ≡ true → (j : ℕ) → j < length ps → f (get_or ps j no_packet) ≡ true
    each_at [] e j i = absurd (omega arith)
    each_at (q ∷ ps) e zero i = (and_true (f q) (each f ps) e).0
    each_at (q ∷ ps) e (suc j) i = each_at ps (and_true (f q) (each f ps) e).1 j (omega arith)

-- ---- formed tables have no more rows than they have room for

pub places_few : (places : List ℕ) → formed packet_width places_length places ≡ true → length (rows places) ≤ max_reserved
places_few places f = let l = formed_length packet_width places_length places f in omega (arith, rows_end places)

pub notices_few : (notices : List ℕ) → notices_formed notices ≡ true → length (rows notices) ≤ max_notices
notices_few notices g = omega (arith, few_notices notices g, length-map (rows notices) notice_of)

-- ---- the notices: the test of all is that of each row of their table

abbrev pub row_waits : ℕ → ℕ → Packet → Bool
row_waits largest clock p = waits largest clock (notice_of p)

pub notices_read : (largest clock : ℕ) (q : List ℕ) → each (row_waits largest clock) (rows q) ≡ each (waits largest clock) (notices_in q)
notices_read largest clock q = each_map (rows q)
  where
    each_map : (ps : List Packet) → each (row_waits largest clock) ps ≡ each (waits largest clock) (map notice_of ps)
    each_map [] = refl
    each_map (p ∷ ps) = ap (λ (b : Bool). row_waits largest clock p && b) (each_map ps)

-- .. with few enough of them
pub notices_all : (q : List ℕ) → length (rows q) ≤ max_notices → {r b : Bool} → r ≡ b → r ≡ (leb (length (notices_in q)) max_notices && b)
notices_all q few {r} {b} e =
    goes_on (leb (length (notices_in q)) max_notices) b r (le-leb (length (notices_in q)) max_notices (omega (arith, length-map (rows q) notice_of))) e

-- ---- what is in service

module _ (x : Service) (early : Bool) (places notices : List ℕ) where
  abbrev busy : Bool
  busy = busy_line (λ _. early) x.clock (wire_of x places notices)

  -- a notice
  module _ (e : x.serving ≡ notice_number) where
    noticed : busy ≡ serves_notice (first_notice (notices_in notices)) x.to_go
    noticed = cond_is _ _ (eq-eqb x.serving notice_number e)

    pub no_notice : length (rows notices) ≡ 0 → false ≡ busy
    no_notice z = sym (noticed ∙ ap (λ (ns : List Notice). serves_notice (first_notice ns) x.to_go) (no_rows notices z))

    pub notice_units : 0 < length (rows notices) → {n : Packet} → n ≡ row_at notices 0 → within 1 n.len x.to_go ≡ busy
    notice_units l is =
        ap (λ (p : Packet). within 1 p.len x.to_go) is
        ∙ sym (noticed ∙ ap (λ (ns : List Notice). serves_notice (first_notice ns) x.to_go) (first_row notices l))

  -- a packet
  module _ (ne : x.serving ≡ notice_number → ⊥) where
    serving : busy ≡ serves early (first x.serving (rows places)) x.to_go x.clock
    serving = cond_is _ _ (ne_eqb x.serving notice_number ne)

    pub no_row : position (λ p. eqb p.connection x.serving) (rows places) ≡ None → false ≡ busy
    no_row z =
        sym (serving ∙ ap (λ (o : Option Packet). serves early o x.to_go x.clock) (first_none x.serving (rows places) (none_found x.serving (rows places) z)))

    pub row_served : {i : ℕ} → position (λ p. eqb p.connection x.serving) (rows places) ≡ Some i → {p : Packet} → p ≡ row_at places i
        → serves early (some p) x.to_go x.clock ≡ busy
    row_served {i} z {p} is =
        let (at, below) = one_found x.serving (rows places) i z in
        let l : i < length (rows places) = omega arith in
        let found : first x.serving (rows places) ≡ some p =
        first_place x.serving (rows places) (omega arith)
        ∙ ap (λ (j : ℕ). some (get_or (rows places) j no_packet)) (sym at)
        ∙ ap some (row_is places i l ∙ sym is) in
        sym (serving ∙ ap (λ (o : Option Packet). serves early o x.to_go x.clock) found)
