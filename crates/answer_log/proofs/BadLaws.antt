-- Where a trace is malformed: its log ends there, with the `ER`.
use Prim.Native.Nat.{ℕ, ◌<◌}
use mathlib.Core.Path.{◌≡◌, refl, sym, ap, ◌∙◌}
use mathlib.Core.List.{List, [], ◌∷◌, ◌++◌, append_assoc}
use mathlib.Core.Option.{Option, none, some}
use lib.ListN.{length}
use Rattle.rules.proofs.Tests.{never}
use Rattle.either_line.specs.Line.{Line, respond, fresh_line}
use Rattle.answers.specs.declared.Reply.TheVariants.{Broken}
use Rattle.answers.specs.Answers.{answer_bytes}
use Rattle.answer_log.specs.Log.{Asked, one_call, some_ticks, unread, call_log, asked_log, log}
use Rattle.answer_log.specs.Bad.{first_bad, bad_at, EndsWith}
use Rattle.answer_log.proofs.LogLaws.{asked_from, ticks_log, ticks_end, counting, asked_behind, record_by_record, none_asked}

-- ---- the log of a malformed trace ends with the `ER` of its offset

ends_behind : (xs : List ℕ) {end l : List ℕ} → EndsWith end l → EndsWith end (xs ++ l)
ends_behind xs {end} E = record { before = xs ++ E.before; all = ap (λ k. xs ++ k) E.all ∙ sym (append_assoc xs E.before end) }

asked_ends : (s : Line) (l : List (Asked × ℕ)) (b : ℕ) → first_bad l ≡ some b → EndsWith (answer_bytes (Broken b)) (asked_log s l)
asked_ends s [] b e = never cc
asked_ends s ((one_call c, at) ∷ rest) b e = ends_behind (call_log c (respond c s)) (asked_ends (respond c s).next rest b e)
asked_ends s ((some_ticks n, at) ∷ rest) b e = ends_behind (ticks_log n n s) (asked_ends (ticks_end n n s) rest b e)
asked_ends s ((unread, at) ∷ rest) b e =
    let d : at ≡ b = cc e in
    record { before = []; all = ap (λ i. answer_bytes (Broken i)) d }

pub log_ends : (trace : List ℕ) (b : ℕ) → bad_at trace ≡ some b → EndsWith (answer_bytes (Broken b)) (log trace)
unfolding bad_at log
log_ends trace b e = asked_ends fresh_line (asked_from 0 trace) b e

-- ---- record by record

bad_counting : (l : List (Asked × ℕ)) → first_bad l ≡ first_bad (counting l)
bad_counting [] = refl
bad_counting ((one_call c, at) ∷ rest) = bad_counting rest
bad_counting ((some_ticks n, at) ∷ rest) = bad_counting rest
bad_counting ((unread, at) ∷ rest) = refl

-- of bs, which starts at offset `at`
abbrev pub bad_from : ℕ → List ℕ → Option ℕ
bad_from at bs = first_bad (asked_from at bs)

pub bad_of_none : (at : ℕ) (bs : List ℕ) → length bs ≡ 0 → bad_from at bs ≡ none
bad_of_none at bs e = ap first_bad (none_asked at bs e)

pub bad_of_some : (at : ℕ) (bs : List ℕ) → 0 < length bs → bad_from at bs ≡ first_bad (asked_behind at bs)
bad_of_some at bs h = bad_counting (asked_from at bs) ∙ ap first_bad (record_by_record at bs h) ∙ sym (bad_counting (asked_behind at bs))
