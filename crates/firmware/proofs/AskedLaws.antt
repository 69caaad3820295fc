-- What the code asks, step by step, against the questions.
use Prim.Native.Nat.{ℕ, zero, suc, ◌+◌, ◌*◌, ◌/◌, ◌≤◌, ◌<◌}
use native.Mathlib.Omega.{arith}
use mathlib.Core.Path.{◌≡◌, refl, sym, ap, ◌∙◌}
use mathlib.Core.Bool.{Bool, true, false, cond, ◌&&◌}
use mathlib.Core.Logic.{⊎_elim}
use mathlib.Core.List.{List, [], ◌∷◌, ◌++◌}
use lib.Dec.{eqb, leb}
use lib.ListN.{length, drop}
use borrow.Author.Tests.{leb-true, le-leb, lt-leb, eq-eqb, ne_eqb}
use Rattle.rules.specs.declared.Link.{Link}
use Rattle.rules.specs.declared.Connection.{Connection}
use Rattle.rules.specs.Words.{every, tabulate}
use Rattle.rules.specs.Limits.{max_levels, max_connections}
use Rattle.rules.specs.declared.Short.{Short}
use Rattle.rules.specs.Model.{no_link, no_connection, nth}
use Rattle.rules.specs.Admission.{link_within, level_within, figures_within, level_test}
use Rattle.rules.specs.SoundTest.{connection_sound}
use Rattle.rules.specs.Service.{next_eligibility}
use Rattle.rules.proofs.Sums.{same, cond_is}
use Rattle.rules.proofs.Tests.{and_true, every_true}
use Rattle.rules.proofs.Figures.{connection_facts}
use Rattle.rules.proofs.Standing.{length_tabulate, get_d_tabulate}
use Rattle.rules.proofs.LevelTest.{names_lowest}
use Rattle.fields.specs.Numbers.{number, get_fields}
use Rattle.fields.specs.Formats.{starts}
use Rattle.fields.proofs.FieldLaws.{fields_on}
use Rattle.traces.specs.declared.Record.{Record}
use Rattle.traces.specs.declared.Record.TheVariants.{Link as LinkRecord, LinkStandBy, LinkWindows, LinkFrames, Admit, AdmitStamped, AdmitShare, Close, Offer, OfferStamped, Notice, Ticks}
use Rattle.traces.specs.Kinds.{LE}
use Rattle.std.specs.Prelude.{Some, None}
use Rattle.traces.specs.Trace.{trace_layout, read_trace}
use Rattle.named.specs.Named.{connection_named}
use Rattle.connections.specs.Within.{gap_only, last_only}
use Rattle.connections.proofs.FigureLaws.{link_limits}
use Rattle.limits.proofs.ChainLaws.{fails, goes_on}
use Rattle.firmware.specs.Questions.{next_asked, link_of, link_asked, row_asked, all_rows, well_asked, short_asked}

-- ---- (a)

pub next_is : (flag last gap now : ℕ) → next_eligibility (gap_only gap) (last_only flag last) now ≡ next_asked flag last gap now
unfolding next_asked
next_is flag last gap now = refl

-- ---- the link

-- a record of another kind names none, as the code tells it apart: it is no `LK` and no `LW`
pub of_no_link : (r : Record) → ((n s silence : ℕ) (bounds : List ℕ) → r ≡ LinkRecord n s silence bounds → ⊥)
    → ((n s silence early : ℕ) (bounds windows : List ℕ) → r ≡ LinkWindows n s silence early bounds windows → ⊥)
    → no_link ≡ link_of (trace_layout r)
unfolding starts
of_no_link (LinkRecord n s silence bounds) a b = absurd (a n s silence bounds refl)
of_no_link (LinkStandBy n s silence early bounds) a b = go (eqb (length bounds) 8)
  where
    go : (t : Bool) → no_link ≡ link_of (cond t (Some (LE, n ∷ s ∷ silence ∷ early ∷ bounds)) None)
    go true = refl
    go false = refl
of_no_link (LinkWindows n s silence early bounds windows) a b = absurd (b n s silence early bounds windows refl)
of_no_link (LinkFrames frame largest silence) a b = refl
of_no_link (Admit level gap size window average) a b = refl
of_no_link (AdmitStamped level gap size allowance) a b = refl
of_no_link (AdmitShare units places) a b = refl
of_no_link (Close c) a b = refl
of_no_link (Offer c len tag) a b = refl
of_no_link (OfferStamped c len tag stamp) a b = refl
of_no_link (Notice len tag) a b = refl
of_no_link (Ticks n) a b = refl

module _ (lk : List ℕ) where
  pub no_record : read_trace lk ≡ None → no_link ≡ link_asked lk
  unfolding link_asked
  no_record e = rw e

  module _ {r : Record} {n : ℕ} (e : read_trace lk ≡ Some (r, n)) where
    pub not_whole : (n ≡ length lk → ⊥) → no_link ≡ link_asked lk
    unfolding link_asked
    not_whole m = rw (e, ne_eqb n (length lk) m)

    pub link_is : n ≡ length lk → link_of (trace_layout r) ≡ link_asked lk
    unfolding link_asked
    link_is t = rw (e, eq-eqb n (length lk) t)

-- ---- the rows

module _ (rows : List ℕ) where
  -- a row's bytes, read where they start
  pub row_is : (i : ℕ) → (bs : List ℕ) → bs ≡ drop (9 * i) rows
      → connection_named (number 1 bs 0 ∷ number 2 bs 1 ∷ number 2 bs 3 ∷ number 2 bs 5 ∷ number 2 bs 7 ∷ []) ≡ row_asked rows i
  unfolding row_asked get_fields
  row_is i bs e =
      let z : 9 * i + 0 ≡ 9 * i = omega arith in
      let ws : List ℕ = 1 ∷ 2 ∷ 2 ∷ 2 ∷ 2 ∷ [] in
      ap (λ (l : List ℕ). connection_named (get_fields ws l 0)) e
      ∙ ap connection_named (sym (fields_on ws (9 * i) rows 0))
      ∙ ap (λ (k : ℕ). connection_named (get_fields ws rows k)) z

  pub length_first : (n : ℕ) → length (tabulate n (row_asked rows)) ≡ n
  length_first n = length_tabulate n (row_asked rows)

  pub nth_first : (n i : ℕ) → i < n → nth (tabulate n (row_asked rows)) i ≡ row_asked rows i
  nth_first n i h = get_d_tabulate n (row_asked rows) no_connection i h

-- one row more
pub tabulate_snoc : {A : Type 0} (n : ℕ) (f : ℕ → A) → tabulate (suc n) f ≡ tabulate n f ++ f n ∷ []
tabulate_snoc zero f = refl
tabulate_snoc (suc n) f = ap (λ l. f 0 ∷ l) (tabulate_snoc n (λ i. f (suc i)))

-- ---- rows within their limits

abbrev pub row_ok : Link → List ℕ → ℕ → Bool
row_ok l rows i = connection_sound l (row_asked rows i)

abbrev pub not_well_asked : Short
not_well_asked = record { level = 255; units = 0 }

module _ (l : Link) (rows : List ℕ) (n : ℕ) (ok : every n (row_ok l rows) ≡ true) where
  within_ok : (i : ℕ) → i < n → (level_within l (row_asked rows i) ≡ true) × (figures_within l (row_asked rows i) ≡ true)
  within_ok i h = and_true (level_within l (row_asked rows i)) (figures_within l (row_asked rows i)) (every_true n (row_ok l rows) ok i h)

  pub figures_ok : (i : ℕ) → i < n → figures_within l (row_asked rows i) ≡ true
  figures_ok i h = (within_ok i h).1

  pub levelled : (i : ℕ) → i < n → 1 ≤ (row_asked rows i).level
  levelled i h = (connection_facts l (row_asked rows i) (within_ok i h).0 (within_ok i h).1).low_level

-- ---- the tests of the link and the rows, in the order of the code

module _ (l : Link) (rows : List ℕ) where
  pub bad_link : link_within l ≡ false → false ≡ well_asked l rows
  unfolding well_asked
  bad_link b = fails _ _ b

  module _ (good : link_within l ≡ true) where
    pub cut_row : (length rows ≡ 9 * (length rows / 9) → ⊥) → false ≡ well_asked l rows
    unfolding well_asked
    cut_row n = goes_on _ _ false good (fails _ _ (ne_eqb (length rows) (9 * (length rows / 9)) n))

    module _ (fit : length rows ≡ 9 * (length rows / 9)) where
      on : (r : Bool) → r ≡ (leb ((length rows / 9)) max_connections && every ((length rows / 9)) (row_ok l rows)) → r ≡ well_asked l rows
      unfolding well_asked
      on r h = goes_on _ _ r good (goes_on _ _ r (eq-eqb (length rows) (9 * (length rows / 9)) fit) h)

      pub many_rows : max_connections < (length rows / 9) → false ≡ well_asked l rows
      many_rows m = on false (fails _ _ (lt-leb ((length rows / 9)) max_connections m))

      pub each_row : (length rows / 9) ≤ max_connections → (ok : Bool) → ok ≡ every ((length rows / 9)) (row_ok l rows) → ok ≡ well_asked l rows
      each_row few ok e = on ok (goes_on _ _ ok (le-leb ((length rows / 9)) max_connections few) e)

pub record Asked (l : Link) (rows : List ℕ) : Type 0 where
  pub link_in : link_within l ≡ true
  pub few : (length rows / 9) ≤ max_connections
  pub rows_in : every ((length rows / 9)) (row_ok l rows) ≡ true

pub asked : (l : Link) (rows : List ℕ) → well_asked l rows ≡ true → Asked l rows
unfolding well_asked
asked l rows e =
    let a = and_true (link_within l) _ e in
    let b = and_true (eqb (length rows) (9 * (length rows / 9))) _ a.1 in
    let d = and_true (leb ((length rows / 9)) max_connections) _ b.1 in
    record { link_in = a.0; few = leb-true ((length rows / 9)) max_connections d.0; rows_in = d.1 }

-- ---- the answer

-- a level is one of the link's: no more than 8
level_le : (l : Link) (cs : List Connection) → link_within l ≡ true → (level_test l cs).level ≤ max_levels
level_le l cs e =
    ⊎_elim
    (λ z. omega (arith, z))
    (λ n. omega (arith, (names_lowest l cs n).1, (link_limits l e).levels_le))
    (same (level_test l cs).level 0)

module _ (lk rows : List ℕ) where
  pub refuses : well_asked (link_asked lk) rows ≡ false → short_asked lk rows ≡ not_well_asked
  unfolding short_asked
  refuses e = cond_is (level_test (link_asked lk) (all_rows rows)) not_well_asked e

  module _ (e : well_asked (link_asked lk) rows ≡ true) where
    pub answers : short_asked lk rows ≡ level_test (link_asked lk) (all_rows rows)
    unfolding short_asked
    answers = cond_is (level_test (link_asked lk) (all_rows rows)) not_well_asked e

    pub is_level : (short_asked lk rows).level ≤ max_levels
    is_level = omega (arith, ap (λ (t : Short). t.level) answers, level_le (link_asked lk) (all_rows rows) (asked (link_asked lk) rows e).link_in)

  -- either way a byte
  pub level_byte : (short_asked lk rows).level < 256
  level_byte = go (well_asked (link_asked lk) rows) refl
    where
      go : (b : Bool) → well_asked (link_asked lk) rows ≡ b → (short_asked lk rows).level < 256
      go true e = omega (arith, is_level e)
      go false e = omega (arith, ap (λ (t : Short). t.level) (refuses e))

  -- as the code asks: of a link that is the one asked about
  module _ (l : Link) (e : l ≡ link_asked lk) where
    pub refused : well_asked l rows ≡ false → not_well_asked ≡ short_asked lk rows
    refused f = sym (refuses (ap (λ (k : Link). well_asked k rows) (sym e) ∙ f))

    pub answered : well_asked l rows ≡ true → level_test l (all_rows rows) ≡ short_asked lk rows
    answered g = ap (λ (k : Link). level_test k (all_rows rows)) e ∙ sym (answers (ap (λ (k : Link). well_asked k rows) (sym e) ∙ g))
