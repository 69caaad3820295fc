-- A notice that is offered, whatever the discipline: its verdict, what is told, and the table of notices then. Document 02, R-1 and R-13.
use Rattle.std.specs.Prelude.{ℕ, zero, suc, ◌≡◌, Bool, Result, Ok, Err, List, [], ◌∷◌, ◌++◌, length}
use Rattle.rules.specs.declared.Notice.{Notice}
use Rattle.rules.specs.Words.{first_number}
use Rattle.tables.specs.Notices.{notices_in, written_notices}
use Rattle.causes.specs.declared.refusals.Refusal.{Refusal}
use Rattle.causes.specs.Refusals.{verdict_of}
use Rattle.causes.specs.Causes.{of_a_notice}

-- behind those that wait
abbrev pub notice_verdict : Bool → ℕ → ℕ → List Notice → ℕ → ℕ
notice_verdict unset largest clock waiting len = first_number (of_a_notice unset largest clock (length waiting) len)

-- the eligibility that is told: none where it is refused
abbrev pub told_eligibility : Result ℕ Refusal → ℕ
told_eligibility (Ok e) = e
told_eligibility (Err why) = 0

-- by the verdict: the arrival where it is 0
abbrev pub noted : ℕ → ℕ → ℕ
noted zero clock = clock
noted (suc v) clock = 0

-- .. and the table: one more behind those that wait
abbrev pub with_notice : ℕ → Notice → List ℕ → List ℕ
with_notice zero n q = written_notices (notices_in q ++ n ∷ [])
with_notice (suc v) n q = q

-- a notice of verdict v: what is told, and the table q as it is left
abbrev pub Takes : ℕ → ℕ → ℕ → ℕ → List ℕ → Result ℕ Refusal → List ℕ → Type 0
Takes v clock len tag q told left =
    (verdict_of told ≡ v) × (told_eligibility told ≡ noted v clock) × (left ≡ with_notice v (record { len = len; tag = tag; arrival = clock }) q)
