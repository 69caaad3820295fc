-- What reading a record at an offset of the trace gives: it lies in the bytes, and bytes behind the longest record change nothing.
use Prim.Native.Nat.{ℕ, ◌+◌, ◌-◌, ◌≤◌, ◌<◌}
use native.Mathlib.Omega.{arith}
use mathlib.Core.Path.{◌≡◌, refl, sym, ap, ◌∙◌}
use mathlib.Core.List.{List, [], ◌∷◌, ◌++◌}
use Rattle.std.specs.Prelude.{Some, None}
use lib.Dec.{ltb}
use lib.ListN.{length, get_or}
use borrow.Author.Tests.{lt-ltb, le-ltb, ltb-false}
use Rattle.fields.specs.Kinds.{Kind}
use Rattle.fields.specs.Formats.{starts, read_kind, read_kinds}
use Rattle.fields.proofs.NumberLaws.{cond_by}
use Rattle.fields.proofs.FormatLaws.{of_kind}
use Rattle.traces.specs.declared.Record.{Record}
use Rattle.traces.specs.Trace.{Found, trace_kinds, read_trace, longest_record}
use Rattle.traces.proofs.Laws.{trace_lawful}
use Rattle.answer_log.specs.Log.{trace_limit, ends_within, read_at, taken}

-- what is found lies in the bytes, and takes one at least
pub record LiesIn (bs : List ℕ) (f : Found) : Type 0 where
  pub fits : taken f ≤ length bs
  pub no_byte : taken f ≡ 0 → f ≡ None

nothing_lies : (bs : List ℕ) → LiesIn bs None
nothing_lies bs = record { fits = omega arith; no_byte = λ _. refl }

kind_lies : (k : Kind Record) (bs : List ℕ) (o : Found) → read_kind k (get_or bs 2 0) bs ≡ o → LiesIn bs o
kind_lies k bs None e = nothing_lies bs
kind_lies k bs (Some (r, n)) e =
    let a = of_kind k bs r n e in
    record { fits = omega (arith, a.there, a.count); no_byte = λ z. absurd (omega (arith, a.count)) }

kinds_lie : (ks : List (Kind Record)) (bs : List ℕ) → LiesIn bs (read_kinds ks bs)
unfolding read_kinds
kinds_lie [] bs = nothing_lies bs
kinds_lie (k ∷ ks) bs =
    cond_by (LiesIn bs) (starts k.mark bs) (read_kind k (get_or bs 2 0) bs) (read_kinds ks bs)
    (λ _. kind_lies k bs (read_kind k (get_or bs 2 0) bs) refl) (λ _. kinds_lie ks bs)

-- .. and ends by the limit of a trace
pub record LiesAt (at : ℕ) (bs : List ℕ) (f : Found) : Type 0 where
  pub fits : taken f ≤ length bs
  pub no_byte : taken f ≡ 0 → f ≡ None
  pub in_limit : taken f ≤ trace_limit - at

within_lies : (at : ℕ) (bs : List ℕ) (f : Found) → LiesIn bs f → LiesAt at bs (ends_within at f)
within_lies at bs None k = record { fits = omega arith; no_byte = λ _. refl; in_limit = omega arith }
within_lies at bs (Some (r, n)) k =
    cond_by (LiesAt at bs) (ltb trace_limit (at + n)) None (Some (r, n))
    (λ _. record { fits = omega arith; no_byte = λ _. refl; in_limit = omega arith })
    (λ e. let l : at + n ≤ trace_limit = ltb-false _ _ e in record { fits = k.fits; no_byte = k.no_byte; in_limit = omega arith })

pub read_lies : (at : ℕ) (bs : List ℕ) → LiesAt at bs (read_at at bs)
unfolding read_at
read_lies at bs = within_lies at bs (read_trace bs) (kinds_lie trace_kinds bs)

-- bytes behind a window that holds the longest record change nothing
pub read_onward : (at : ℕ) (w u : List ℕ) → longest_record ≤ length w → read_at at (w ++ u) ≡ read_at at w
unfolding read_at
read_onward at w u h = rw (trace_lawful.looks_no_further w u h)

-- ---- in each case that the code tells apart

pub read_nothing : (at : ℕ) (bs : List ℕ) → read_trace bs ≡ None → None ≡ read_at at bs
unfolding read_at
read_nothing at bs e = ap (ends_within at) (sym e)

module _ (at : ℕ) (bs : List ℕ) {r : Record} {n : ℕ} (e : read_trace bs ≡ Some (r, n)) where
  pub read_beyond : trace_limit < at → None ≡ read_at at bs
  unfolding read_at
  read_beyond h = sym (ap (ends_within at) e ∙ rw (lt-ltb trace_limit (at + n) (omega arith)))

  pub read_crossing : trace_limit - at < n → None ≡ read_at at bs
  unfolding read_at
  read_crossing h = sym (ap (ends_within at) e ∙ rw (lt-ltb trace_limit (at + n) (omega arith)))

  pub read_inside : at ≤ trace_limit → n ≤ trace_limit - at → Some (r, n) ≡ read_at at bs
  unfolding read_at
  read_inside h k = sym (ap (ends_within at) e ∙ rw (le-ltb trace_limit (at + n) (omega arith)))
