-- Document 01, "Trace and answer records": the six answer kinds; and document 02: R-1, a seventh, the answer to a notice; R-2, the level and the units
-- of `CA`; R-8, an eighth, the answer to a close.
use Rattle.std.specs.Prelude.{List, [], ◌∷◌, ℕ, Option, Some}
use Rattle.fields.specs.Kinds.{Kind}
use Rattle.answers.specs.Kinds.{LA, CA, CD, PA, NA, DP, TA, ER}
use Rattle.fields.specs.Formats.{read_kinds, laid}
use Rattle.answers.specs.declared.Reply.{Reply}
use Rattle.answers.specs.declared.Reply.TheVariants.{Linked, Admitted, Closed, Offered, Noticed, Departed, Ticked, Broken}

-- As which kind, with which numbers, an answer is written.
abbrev pub answer_layout : Reply → Option (Kind Reply × List ℕ)
answer_layout (Linked verdict) = Some (LA, verdict ∷ [])
answer_layout (Admitted verdict connection level units) = Some (CA, verdict ∷ connection ∷ level ∷ units ∷ [])
answer_layout (Closed verdict) = Some (CD, verdict ∷ [])
answer_layout (Offered verdict eligibility) = Some (PA, verdict ∷ eligibility ∷ [])
answer_layout (Noticed verdict eligibility) = Some (NA, verdict ∷ eligibility ∷ [])
answer_layout (Departed connection tag arrival eligibility finish) = Some (DP, connection ∷ tag ∷ arrival ∷ eligibility ∷ finish ∷ [])
answer_layout (Ticked verdict ticks) = Some (TA, verdict ∷ ticks ∷ [])
answer_layout (Broken offset) = Some (ER, 14 ∷ offset ∷ [])

-- The kinds of answers: the six answer kinds, the answer to a close behind the one to an admission, and the answer to a notice behind the one to an offer.
abbrev pub answer_kinds : List (Kind Reply)
answer_kinds = LA ∷ CA ∷ CD ∷ PA ∷ NA ∷ DP ∷ TA ∷ ER ∷ []

-- Reading an answer record: what is found, and how many bytes it takes; nothing where it is malformed.
abbrev pub read_answer : List ℕ → Option (Reply × ℕ)
read_answer bs = read_kinds answer_kinds bs

-- The bytes of an answer record.
abbrev pub answer_bytes : Reply → List ℕ
answer_bytes r = laid (answer_layout r)

-- The tables' column "Bytes".
abbrev pub answer_table : Reply → ℕ
answer_table (Linked verdict) = 3
answer_table (Admitted verdict connection level units) = 9
answer_table (Closed verdict) = 3
answer_table (Offered verdict eligibility) = 7
answer_table (Noticed verdict eligibility) = 7
answer_table (Departed connection tag arrival eligibility finish) = 19
answer_table (Ticked verdict ticks) = 5
answer_table (Broken offset) = 7

-- .. and the longest of them.
abbrev pub longest_answer : ℕ
longest_answer = 19
