-- The laws of the trace kinds: what is their own.
use Rattle.std.specs.Prelude.{Option, Some, None}
use mathlib.Core.Path.{◌≡◌, refl, ap, ◌∙◌}
use mathlib.Core.Bool.{Bool, true, false, cond}
use mathlib.Core.List.{List, [], ◌∷◌, ◌++◌}
use Prim.Native.Nat.{ℕ, ◌+◌, ◌*◌, ◌%◌, ◌<◌, ◌≤◌}
use native.Mathlib.Omega.{arith}
use lib.ListN.{length, get_or}
use Rattle.fields.specs.Numbers.{little, number, put_fields, get_fields, sum, none_lost}
use Rattle.fields.specs.Kinds.{Kind}
use Rattle.fields.proofs.Parts.{bytes}
use Rattle.traces.specs.Kinds.{levels, LK, LE, LW, LF, CN, CS, CF, CL, PK, PS, NQ, TK}
use Rattle.fields.specs.Formats.{starts, read_kind, read_kinds, laid}
use borrow.Author.Tests.{eqb-true}
use lib.Dec.{eqb}
use Rattle.traces.specs.Trace.{if_eight, trace_layout, trace_kinds, trace_table, longest_record}
use Rattle.fields.specs.Laws.{Written}
use Rattle.traces.specs.declared.Record.{Record}
use Rattle.traces.specs.declared.Record.TheVariants.{Link, LinkStandBy, LinkWindows, LinkFrames, Admit, AdmitStamped, AdmitShare, Close, Offer, OfferStamped, Notice, Ticks}
use Rattle.fields.proofs.NumberLaws.{one_byte}
use Rattle.fields.proofs.FormatLaws.{made_of, ReadsBack, Fair, AllFair, two_letters, plain_fair, kind_back, written_laid, length_laid}
use Rattle.fields.proofs.MarkLaws.{distinct, absent}
use Rattle.fields.proofs.WindowLaws.{AllWithin}
use Rattle.traces.proofs.LinkLaws.{sum_link, sum_stand_by, sum_windows, allowed_range, eight_of, sixteen_of, first_eight, last_eight, length_levels, length_both}

-- No two kinds have one mark, and none has the mark 0.
pub trace_marks : distinct trace_kinds ≡ true
unfolding distinct absent number
trace_marks = refl

-- A link of kind k that is written is read back: its mark has two letters, it allows no n past 8, and its bytes are read as of its kind.
link_told : (k : Kind Record) (n : ℕ) (numbers rest : List ℕ)
    → length k.mark ≡ 2
    → (k.allows n ≡ true → n ≤ 8)
    → read_kinds trace_kinds (bytes k (n ∷ numbers) ++ rest) ≡ read_kind k (n % 256) (bytes k (n ∷ numbers) ++ rest)
    → Written (Some (k, n ∷ numbers))
    → read_kinds trace_kinds (laid (Some (k, n ∷ numbers)) ++ rest) ≡ Some (made_of k (n ∷ numbers), length (laid (Some (k, n ∷ numbers))))
link_told k n numbers rest two few picked w =
    let e : n % 256 ≡ n = omega (arith, few w.0) in
    rw (written_laid k (n ∷ numbers) w)
    (picked ∙ kind_back k (n ∷ numbers) rest (n % 256) two w.1 (ap k.allows e ∙ w.0) (ap k.widths e))

-- A link of other than eight bounds, or windows, has no layout.
of_eight : (P : Option (Kind Record × List ℕ) → Type 0) (ds : List ℕ) (layout : Option (Kind Record × List ℕ)) → P None → (length ds ≡ 8 → P layout)
    → P (if_eight ds layout)
of_eight P ds layout none f = go (eqb (length ds) 8) refl
  where
    go : (t : Bool) → eqb (length ds) 8 ≡ t → P (cond t layout None)
    go true e = f (eqb-true (length ds) 8 e)
    go false e = none

-- What is read back of the record r, of which the layout is l.
abbrev Back : Record → List ℕ → Option (Kind Record × List ℕ) → Type 0
Back r rest l = Written l → read_kinds trace_kinds (laid l ++ rest) ≡ Some (r, length (laid l))

pub trace_back : ReadsBack trace_kinds trace_layout
unfolding read_kinds starts laid none_lost bytes put_fields little
trace_back (Link n s silence ds) rest w =
    of_eight (Back (Link n s silence ds) rest) ds (Some (LK, n ∷ s ∷ silence ∷ ds)) absurd
    (λ e v. link_told LK n (s ∷ silence ∷ ds) rest refl (λ a. (allowed_range n a).1) refl v ∙ rw (eight_of ds e)) w
trace_back (LinkStandBy n s silence early ds) rest w =
    of_eight (Back (LinkStandBy n s silence early ds) rest) ds (Some (LE, n ∷ s ∷ silence ∷ early ∷ ds)) absurd
    (λ e v. link_told LE n (s ∷ silence ∷ early ∷ ds) rest refl (λ a. (allowed_range n a).1) refl v ∙ rw (eight_of ds e)) w
trace_back (LinkWindows n s silence early ds ws) rest w =
    let both : Option (Kind Record × List ℕ) = Some (LW, n ∷ s ∷ silence ∷ early ∷ ds ++ ws) in
    of_eight (Back (LinkWindows n s silence early ds ws) rest) ds (if_eight ws both) absurd
    (λ e. of_eight (Back (LinkWindows n s silence early ds ws) rest) ws both absurd
    (λ f v. link_told LW n (s ∷ silence ∷ early ∷ ds ++ ws) rest refl (λ a. (allowed_range n a).1) refl v
    ∙ rw (first_eight ds ws e, last_eight ds ws e, eight_of ds e, eight_of ws f))) w
trace_back (LinkFrames frame largest silence) rest w = kind_back LF (frame ∷ largest ∷ silence ∷ []) rest _ refl w.1 refl refl
trace_back (Admit level gap size window average) rest w = kind_back CN (level ∷ gap ∷ size ∷ window ∷ average ∷ []) rest _ refl w.1 refl refl
trace_back (AdmitStamped level gap size allowance) rest w = kind_back CS (level ∷ gap ∷ size ∷ allowance ∷ []) rest _ refl w.1 refl refl
trace_back (AdmitShare units places) rest w = kind_back CF (units ∷ places ∷ []) rest _ refl w.1 refl refl
trace_back (Close connection) rest w = kind_back CL (connection ∷ []) rest _ refl w.1 refl refl
trace_back (Offer connection len tag) rest w = kind_back PK (connection ∷ len ∷ tag ∷ []) rest _ refl w.1 refl refl
trace_back (OfferStamped connection len tag stamp) rest w = kind_back PS (connection ∷ len ∷ tag ∷ stamp ∷ []) rest _ refl w.1 refl refl
trace_back (Notice len tag) rest w = kind_back NQ (len ∷ tag ∷ []) rest _ refl w.1 refl refl
trace_back (Ticks ticks) rest w = kind_back TK (ticks ∷ []) rest _ refl w.1 refl refl

-- What is read of a kind of links has its numbers as its layout.
link_fair : Fair trace_layout LK
unfolding get_fields
link_fair =
    record {
      letters = two_letters 0x4C 0x4B (omega arith) (omega arith);
      same_widths = λ bs a. ap LK.widths (one_byte bs 2);
      same_allowed = λ bs a. ap LK.allows (one_byte bs 2) ∙ a;
      same_layout = λ bs a. ap (λ l. Some (LK, number 1 bs 2 ∷ number 2 bs 3 ∷ number 1 bs 5 ∷ l)) (eight_of (get_fields (levels (get_or bs 2 0)) bs 6) (length_levels bs a 6));
    }

stand_by_fair : Fair trace_layout LE
unfolding get_fields
stand_by_fair =
    record {
      letters = two_letters 0x4C 0x45 (omega arith) (omega arith);
      same_widths = λ bs a. ap LE.widths (one_byte bs 2);
      same_allowed = λ bs a. ap LE.allows (one_byte bs 2) ∙ a;
      same_layout = λ bs a.
          ap (λ l. Some (LE, number 1 bs 2 ∷ number 2 bs 3 ∷ number 1 bs 5 ∷ number 1 bs 6 ∷ l)) (eight_of (get_fields (levels (get_or bs 2 0)) bs 7) (length_levels bs a 7));
    }

windows_fair : Fair trace_layout LW
unfolding get_fields
windows_fair =
    record {
      letters = two_letters 0x4C 0x57 (omega arith) (omega arith);
      same_widths = λ bs a. ap LW.widths (one_byte bs 2);
      same_allowed = λ bs a. ap LW.allows (one_byte bs 2) ∙ a;
      same_layout = λ bs a.
          ap (λ l. Some (LW, number 1 bs 2 ∷ number 2 bs 3 ∷ number 1 bs 5 ∷ number 1 bs 6 ∷ l))
          (sixteen_of (get_fields (levels (get_or bs 2 0) ++ levels (get_or bs 2 0)) bs 7) (length_both bs a 7));
    }

pub trace_fair : AllFair trace_layout trace_kinds
unfolding AllFair get_fields
trace_fair = (
  link_fair,
  (
    stand_by_fair,
    (
      windows_fair,
      (
        plain_fair LF (two_letters 0x4C 0x46 (omega arith) (omega arith)) (λ b c. refl) (λ bs a. refl) (λ bs a. refl),
        (
          plain_fair CN (two_letters 0x43 0x4E (omega arith) (omega arith)) (λ b c. refl) (λ bs a. refl) (λ bs a. refl),
          (
            plain_fair CS (two_letters 0x43 0x53 (omega arith) (omega arith)) (λ b c. refl) (λ bs a. refl) (λ bs a. refl),
            (
              plain_fair CF (two_letters 0x43 0x46 (omega arith) (omega arith)) (λ b c. refl) (λ bs a. refl) (λ bs a. refl),
              (
                plain_fair CL (two_letters 0x43 0x4C (omega arith) (omega arith)) (λ b c. refl) (λ bs a. refl) (λ bs a. refl),
                (
                  plain_fair PK (two_letters 0x50 0x4B (omega arith) (omega arith)) (λ b c. refl) (λ bs a. refl) (λ bs a. refl),
                  (
                    plain_fair PS (two_letters 0x50 0x53 (omega arith) (omega arith)) (λ b c. refl) (λ bs a. refl) (λ bs a. refl),
                    (
                      plain_fair NQ (two_letters 0x4E 0x51 (omega arith) (omega arith)) (λ b c. refl) (λ bs a. refl) (λ bs a. refl),
                      (plain_fair TK (two_letters 0x54 0x4B (omega arith) (omega arith)) (λ b c. refl) (λ bs a. refl) (λ bs a. refl), tt),
                    ),
                  ),
                ),
              ),
            ),
          ),
        ),
      ),
    ),
  ),
)

-- The bytes of a layout, where there are any, are m.
abbrev Long : ℕ → Option (Kind Record × List ℕ) → Type 0
Long m l = 0 < length (laid l) → length (laid l) ≡ m

pub trace_length : (r : Record) → 0 < length (laid (trace_layout r)) → length (laid (trace_layout r)) ≡ trace_table r
unfolding laid sum
trace_length (Link n s silence ds) h =
    of_eight (Long (6 + 2 * n)) ds (Some (LK, n ∷ s ∷ silence ∷ ds)) (λ k. absurd (omega arith)) (λ e k. length_laid LK (n ∷ s ∷ silence ∷ ds) k ∙ sum_link n) h
trace_length (LinkStandBy n s silence early ds) h =
    of_eight (Long (7 + 2 * n)) ds (Some (LE, n ∷ s ∷ silence ∷ early ∷ ds)) (λ k. absurd (omega arith))
    (λ e k. length_laid LE (n ∷ s ∷ silence ∷ early ∷ ds) k ∙ sum_stand_by n) h
trace_length (LinkWindows n s silence early ds ws) h =
    let both : Option (Kind Record × List ℕ) = Some (LW, n ∷ s ∷ silence ∷ early ∷ ds ++ ws) in
    of_eight (Long (7 + 4 * n)) ds (if_eight ws both) (λ k. absurd (omega arith))
    (λ e. of_eight (Long (7 + 4 * n)) ws both (λ k. absurd (omega arith)) (λ f k. length_laid LW (n ∷ s ∷ silence ∷ early ∷ ds ++ ws) k ∙ sum_windows n)) h
trace_length (LinkFrames frame largest silence) h = length_laid LF (frame ∷ largest ∷ silence ∷ []) h
trace_length (Admit level gap size window average) h = length_laid CN (level ∷ gap ∷ size ∷ window ∷ average ∷ []) h
trace_length (AdmitStamped level gap size allowance) h = length_laid CS (level ∷ gap ∷ size ∷ allowance ∷ []) h
trace_length (AdmitShare units places) h = length_laid CF (units ∷ places ∷ []) h
trace_length (Close connection) h = length_laid CL (connection ∷ []) h
trace_length (Offer connection len tag) h = length_laid PK (connection ∷ len ∷ tag ∷ []) h
trace_length (OfferStamped connection len tag stamp) h = length_laid PS (connection ∷ len ∷ tag ∷ stamp ∷ []) h
trace_length (Notice len tag) h = length_laid NQ (len ∷ tag ∷ []) h
trace_length (Ticks ticks) h = length_laid TK (ticks ∷ []) h

-- The longest trace record is an `LW` of eight levels.
pub trace_within : AllWithin longest_record trace_kinds
unfolding AllWithin sum
trace_within = (
  λ b a. let r = allowed_range b a in let e = sum_link b in omega arith,
  (
    λ b a. let r = allowed_range b a in let e = sum_stand_by b in omega arith,
    (
      λ b a. let r = allowed_range b a in let e = sum_windows b in omega arith,
      (
        λ b a. omega arith,
        (
          λ b a. omega arith,
          (
            λ b a. omega arith,
            (
              λ b a. omega arith,
              (
                λ b a. omega arith,
                (
                  λ b a. omega arith,
                  (
                    λ b a. omega arith,
                    (
                      λ b a. omega arith,
                      (λ b a. omega arith, tt),
                    ),
                  ),
                ),
              ),
            ),
          ),
        ),
      ),
    ),
  ),
)
