-- Document 01, "Trace and answer records": the four trace kinds; and document 02, R-1: a fifth, the notice; R-4: the silence of a link; R-6: the
-- window and the average gap of a connection; R-8: a sixth, the close; R-9: a seventh and an eighth, the admission of a connection by
-- stamps and the offer with a stamp; R-11: a ninth, the link with the setting of its stand-by queue; R-12: a tenth,
-- the link with windows; R-13: an eleventh and a twelfth, the link of frames and the admission with units and places.
use Rattle.std.specs.Prelude.{List, [], ◌∷◌, ◌++◌, ℕ, ◌+◌, ◌*◌, cond, eqb, length, Option, Some, None}
use Rattle.fields.specs.Kinds.{Kind}
use Rattle.fields.specs.Formats.{read_kinds}
use Rattle.traces.specs.Kinds.{LK, LE, LW, LF, CN, CS, CF, CL, PK, PS, NQ, TK}
use Rattle.traces.specs.declared.Record.{Record}
use Rattle.traces.specs.declared.Record.TheVariants.{Link, LinkStandBy, LinkWindows, LinkFrames, Admit, AdmitStamped, AdmitShare, Close, Offer, OfferStamped, Notice, Ticks}

-- A link has eight bounds, and an `LW` eight windows: with another number of either there is no layout.
abbrev pub if_eight : List ℕ → Option (Kind Record × List ℕ) → Option (Kind Record × List ℕ)
if_eight numbers layout = cond (eqb (length numbers) 8) layout None

-- As which kind, with which numbers, a record is written: a link with all its bounds and windows, of which those past n have no byte, so that "one with n out of range or a
-- bound past n not 0" is not.
abbrev pub trace_layout : Record → Option (Kind Record × List ℕ)
trace_layout (Link n s silence bounds) = if_eight bounds (Some (LK, n ∷ s ∷ silence ∷ bounds))
trace_layout (LinkStandBy n s silence early bounds) = if_eight bounds (Some (LE, n ∷ s ∷ silence ∷ early ∷ bounds))
trace_layout (LinkWindows n s silence early bounds windows) =
    if_eight bounds (if_eight windows (Some (LW, n ∷ s ∷ silence ∷ early ∷ bounds ++ windows)))
trace_layout (LinkFrames frame largest silence) = Some (LF, frame ∷ largest ∷ silence ∷ [])
trace_layout (Admit level gap size window average) = Some (CN, level ∷ gap ∷ size ∷ window ∷ average ∷ [])
trace_layout (AdmitStamped level gap size allowance) = Some (CS, level ∷ gap ∷ size ∷ allowance ∷ [])
trace_layout (AdmitShare units places) = Some (CF, units ∷ places ∷ [])
trace_layout (Close connection) = Some (CL, connection ∷ [])
trace_layout (Offer connection len tag) = Some (PK, connection ∷ len ∷ tag ∷ [])
trace_layout (OfferStamped connection len tag stamp) = Some (PS, connection ∷ len ∷ tag ∷ stamp ∷ [])
trace_layout (Notice len tag) = Some (NQ, len ∷ tag ∷ [])
trace_layout (Ticks ticks) = Some (TK, ticks ∷ [])

-- The kinds of traces: "the four trace kinds", the link with its setting, the one with windows and the one of frames behind the link, the admission by stamps, the one with
-- units and places and the close behind the admission, the offer with a stamp and the notice behind the offer.
abbrev pub trace_kinds : List (Kind Record)
trace_kinds = LK ∷ LE ∷ LW ∷ LF ∷ CN ∷ CS ∷ CF ∷ CL ∷ PK ∷ PS ∷ NQ ∷ TK ∷ []

-- What reading finds: a record, and how many bytes it takes; nothing where it is malformed.
abbrev pub Found : Type 0
Found = Option (Record × ℕ)

-- Reading a trace record.
abbrev pub read_trace : List ℕ → Found
read_trace bs = read_kinds trace_kinds bs

-- The tables' column "Bytes".
abbrev pub trace_table : Record → ℕ
trace_table (Link n s silence bounds) = 6 + 2 * n
trace_table (LinkStandBy n s silence early bounds) = 7 + 2 * n
trace_table (LinkWindows n s silence early bounds windows) = 7 + 4 * n
trace_table (LinkFrames frame largest silence) = 7
trace_table (Admit level gap size window average) = 11
trace_table (AdmitStamped level gap size allowance) = 9
trace_table (AdmitShare units places) = 6
trace_table (Close connection) = 3
trace_table (Offer connection len tag) = 9
trace_table (OfferStamped connection len tag stamp) = 13
trace_table (Notice len tag) = 8
trace_table (Ticks ticks) = 4

-- .. and the longest of them.
abbrev pub longest_record : ℕ
longest_record = 39
