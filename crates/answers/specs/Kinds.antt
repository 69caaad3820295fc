-- Document 01, "Trace and answer records": the answer kinds of its table, in its order; those of document 02, R-8 behind `CA` and R-1 behind `PA`;
-- and `CA` as R-2 has it. Each with the answer that its numbers make.
use Rattle.std.specs.Prelude.{[], ◌∷◌, eqb}
use Rattle.fields.specs.Kinds.{Kind, plain}
use Rattle.answers.specs.declared.Reply.{Reply}
use Rattle.answers.specs.declared.Reply.TheVariants.{Linked, Admitted, Closed, Offered, Noticed, Departed, Ticked, Broken}

-- "verdict (1)"
abbrev pub LA : Kind Reply
LA = plain (0x4C ∷ 0x41 ∷ []) (1 ∷ []) (λ x. Linked (x 0))

-- "verdict (1), connection (1)"; document 02, R-2: "one byte of level and four of units"
abbrev pub CA : Kind Reply
CA = plain (0x43 ∷ 0x41 ∷ []) (1 ∷ 1 ∷ 1 ∷ 4 ∷ []) (λ x. Admitted (x 0) (x 1) (x 2) (x 3))

-- document 02, R-8, as docs/RULES.md lays it out: "verdict (1)"
abbrev pub CD : Kind Reply
CD = plain (0x43 ∷ 0x44 ∷ []) (1 ∷ []) (λ x. Closed (x 0))

-- "verdict (1), eligibility (4)"
abbrev pub PA : Kind Reply
PA = plain (0x50 ∷ 0x41 ∷ []) (1 ∷ 4 ∷ []) (λ x. Offered (x 0) (x 1))

-- document 02, R-1, as docs/RULES.md lays it out: "verdict (1), eligibility (4)"
abbrev pub NA : Kind Reply
NA = plain (0x4E ∷ 0x41 ∷ []) (1 ∷ 4 ∷ []) (λ x. Noticed (x 0) (x 1))

-- "connection (1), tag, arrival, eligibility, finish (4 each)"
abbrev pub DP : Kind Reply
DP = plain (0x44 ∷ 0x50 ∷ []) (1 ∷ 4 ∷ 4 ∷ 4 ∷ 4 ∷ []) (λ x. Departed (x 0) (x 1) (x 2) (x 3) (x 4))

-- "verdict (1), ticks done (2)"
abbrev pub TA : Kind Reply
TA = plain (0x54 ∷ 0x41 ∷ []) (1 ∷ 2 ∷ []) (λ x. Ticked (x 0) (x 1))

-- "verdict 14 (1), offset of the bad record (4)": the number in front of the offset is 14, and nothing else
abbrev pub ER : Kind Reply
ER = record { mark = 0x45 ∷ 0x52 ∷ []; allows = λ b. eqb b 14; widths = λ b. 1 ∷ 4 ∷ []; make = λ x. Broken (x 1) }
