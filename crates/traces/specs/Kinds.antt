-- Document 01, "Trace and answer records": the trace kinds of its table, in its order; and those of document 02, R-11, R-12 and R-13 behind `LK`, R-9, R-13 and R-8
-- behind `CN`, R-9 and R-1 behind `PK`. `LK` as R-4 has it, `CN` as R-6. Each with the record that its numbers make.
use Rattle.std.specs.Prelude.{◌&&◌, List, [], ◌∷◌, ◌++◌, ℕ, ◌+◌, ◌-◌, replicate, leb}
use Rattle.fields.specs.Kinds.{Kind, plain}
use Rattle.traces.specs.declared.Record.{Record}
use Rattle.traces.specs.declared.Record.TheVariants.{Link, LinkStandBy, LinkWindows, LinkFrames, Admit, AdmitStamped, AdmitShare, Close, Offer, OfferStamped, Notice, Ticks}

-- A kind of links: "malformed means: .. an `LK` with n outside 1 to 8"; and so is an `LE`, and an `LW`
abbrev pub link_kind : List ℕ → (ℕ → List ℕ) → ((ℕ → ℕ) → Record) → Kind Record
link_kind mark widths make = record { mark = mark; allows = λ n. leb 1 n && leb n 8; widths = widths; make = make }

-- "n bounds (2 each)", or windows, of eight: "bounds past n are read as 0", and have no byte
abbrev pub levels : ℕ → List ℕ
levels n = replicate n 2 ++ replicate (8 - n) 0

-- eight numbers from the k-th on
abbrev pub eight : ℕ → (ℕ → ℕ) → List ℕ
eight k x = x k ∷ x (k + 1) ∷ x (k + 2) ∷ x (k + 3) ∷ x (k + 4) ∷ x (k + 5) ∷ x (k + 6) ∷ x (k + 7) ∷ []

-- document 02, R-4, as docs/RULES.md lays it out: "n (1), S (2), silence (1), n bounds (2 each)"
abbrev pub LK : Kind Record
LK = link_kind (0x4C ∷ 0x4B ∷ []) (λ n. 1 ∷ 2 ∷ 1 ∷ levels n) (λ x. Link (x 0) (x 1) (x 2) (eight 3 x))

-- document 02, R-11, as docs/RULES.md lays it out: "n (1), S (2), silence (1), setting (1), n bounds (2 each)"
abbrev pub LE : Kind Record
LE = link_kind (0x4C ∷ 0x45 ∷ []) (λ n. 1 ∷ 2 ∷ 1 ∷ 1 ∷ levels n) (λ x. LinkStandBy (x 0) (x 1) (x 2) (x 3) (eight 4 x))

-- document 02, R-12, as docs/RULES.md lays it out: "n (1), S (2), silence (1), setting (1), n bounds (2 each), n windows (2 each)"
abbrev pub LW : Kind Record
LW = link_kind (0x4C ∷ 0x57 ∷ []) (λ n. 1 ∷ 2 ∷ 1 ∷ 1 ∷ levels n ++ levels n) (λ x. LinkWindows (x 0) (x 1) (x 2) (x 3) (eight 4 x) (eight 12 x))

-- document 02, R-13, as docs/RULES.md lays it out: "T (2), S (2), silence (1)"
abbrev pub LF : Kind Record
LF = plain (0x4C ∷ 0x46 ∷ []) (2 ∷ 2 ∷ 1 ∷ []) (λ x. LinkFrames (x 0) (x 1) (x 2))

-- document 02, R-6, as docs/RULES.md lays it out: "level (1), gap (2), size (2), averaging window (2), average gap (2)"
abbrev pub CN : Kind Record
CN = plain (0x43 ∷ 0x4E ∷ []) (1 ∷ 2 ∷ 2 ∷ 2 ∷ 2 ∷ []) (λ x. Admit (x 0) (x 1) (x 2) (x 3) (x 4))

-- document 02, R-9, as docs/RULES.md lays it out: "level (1), gap (2), size (2), allowance (2)"
abbrev pub CS : Kind Record
CS = plain (0x43 ∷ 0x53 ∷ []) (1 ∷ 2 ∷ 2 ∷ 2 ∷ []) (λ x. AdmitStamped (x 0) (x 1) (x 2) (x 3))

-- document 02, R-13, as docs/RULES.md lays it out: "r (2), p (2)"
abbrev pub CF : Kind Record
CF = plain (0x43 ∷ 0x46 ∷ []) (2 ∷ 2 ∷ []) (λ x. AdmitShare (x 0) (x 1))

-- document 02, R-8, as docs/RULES.md lays it out: "connection (1)"
abbrev pub CL : Kind Record
CL = plain (0x43 ∷ 0x4C ∷ []) (1 ∷ []) (λ x. Close (x 0))

-- "connection (1), length (2), tag (4)"
abbrev pub PK : Kind Record
PK = plain (0x50 ∷ 0x4B ∷ []) (1 ∷ 2 ∷ 4 ∷ []) (λ x. Offer (x 0) (x 1) (x 2))

-- document 02, R-9, as docs/RULES.md lays it out: "connection (1), length (2), tag (4), stamp (4)"
abbrev pub PS : Kind Record
PS = plain (0x50 ∷ 0x53 ∷ []) (1 ∷ 2 ∷ 4 ∷ 4 ∷ []) (λ x. OfferStamped (x 0) (x 1) (x 2) (x 3))

-- document 02, R-1, as docs/RULES.md lays it out: "length (2), tag (4)"
abbrev pub NQ : Kind Record
NQ = plain (0x4E ∷ 0x51 ∷ []) (2 ∷ 4 ∷ []) (λ x. Notice (x 0) (x 1))

-- "ticks (2)"
abbrev pub TK : Kind Record
TK = plain (0x54 ∷ 0x4B ∷ []) (2 ∷ []) (λ x. Ticks (x 0))
