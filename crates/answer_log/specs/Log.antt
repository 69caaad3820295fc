-- THE ANSWER LOG of a trace, from bytes to bytes, by the rules alone: no hub value, no table, no window. Document 01, "Trace and answer records" and
-- "One tick"; document 02, R-1, R-2, R-4, R-6, R-8, R-9, R-11, R-12 and R-13.
use Rattle.std.specs.Prelude.{ℕ, zero, suc, ◌+◌, ◌-◌, cond, List, [], ◌∷◌, ◌++◌, ltb, eqb, length, drop, Some, None}
use Rattle.std.proofs.Math.Option.{Option, none, some}
use Rattle.rules.specs.declared.Packet.{Packet}
use Rattle.either_line.specs.Line.{Line, Request, link_levels, link_frames, admit_level, admit_share, offer, notice, close, tick, Reply, respond, resting_verdict, clock_of, fresh_line}
use Rattle.traces.specs.declared.Record.{Record}
use Rattle.traces.specs.declared.Record.TheVariants.{Link as LinkRecord, LinkStandBy, LinkWindows, LinkFrames, Admit, AdmitStamped, AdmitShare, Close, Offer, OfferStamped, Notice, Ticks}
use Rattle.traces.specs.Trace.{Found, read_trace}
use Rattle.answers.specs.declared.Reply.TheVariants.{Linked, Admitted, Closed, Offered, Noticed, Departed, Ticked, Broken}
use Rattle.answers.specs.Answers.{answer_bytes}
use Rattle.named.specs.Named.{link_named, framing_named, connection_named, stamped_named, share_named}

-- "A trace of up to 16,777,216 bytes"
abbrev pub trace_limit : ℕ
trace_limit = 16_777_216

-- what was found at offset `at` of the trace: "a record that would end beyond the size limit" is malformed
abbrev pub ends_within : ℕ → Found → Found
ends_within at None = None
ends_within at (Some (r, n)) = cond (ltb trace_limit (at + n)) None (Some (r, n))

-- the record that bs starts with, where bs starts at offset `at` of the trace
unfoldable pub read_at : ℕ → List ℕ → Found
read_at at bs = ends_within at (read_trace bs)

-- the bytes that it takes: none, where it is malformed
abbrev pub taken : Found → ℕ
taken None = 0
taken (Some (r, n)) = n

-- ---- `TK`

-- "each departure written at once"; it "departs with finish t + 1", which the clock becomes
abbrev pub departure : Option Packet → ℕ → List ℕ
departure none finish = []
departure (some p) finish = answer_bytes (Departed p.connection p.tag p.arrival p.eligibility finish)

abbrev pub tick_log : Reply → List ℕ
tick_log a = departure a.departed (clock_of a.next)

-- all the asked ticks are done
abbrev pub all_done_verdict : ℕ → Line → ℕ
all_done_verdict asked s = cond (eqb asked 0) (resting_verdict s) 0

-- "`TK` runs the asked ticks one by one, each a call of its own, .. and stops at the first refused one; `TA` gives that verdict and the ticks done":
-- what is written from the line s on, where `left` of `asked` are still to run, and the line after them
unfoldable pub ticks_run : ℕ → ℕ → Line → List ℕ × Line
ticks_run asked zero s = (answer_bytes (Ticked (all_done_verdict asked s) asked), s)
ticks_run asked (suc left) s =
    cond (eqb (respond tick s).verdict 0)
    (tick_log (respond tick s) ++ (ticks_run asked left (respond tick s).next).0, (ticks_run asked left (respond tick s).next).1)
    (answer_bytes (Ticked (respond tick s).verdict (asked - suc left)), (respond tick s).next)

-- ---- a record, and a trace

-- what a record asks: a call, ticks, or nothing that can be read
pub data Asked : Type 0 where
  one_call : Request → Asked
  some_ticks : ℕ → Asked
  unread : Asked

abbrev pub asks : Record → Asked
asks (LinkRecord n m silence bounds) = one_call (link_levels (link_named (n ∷ m ∷ silence ∷ 0 ∷ bounds)))
asks (LinkStandBy n m silence early bounds) = one_call (link_levels (link_named (n ∷ m ∷ silence ∷ early ∷ bounds)))
asks (LinkWindows n m silence early bounds windows) = one_call (link_levels (link_named (n ∷ m ∷ silence ∷ early ∷ bounds ++ windows)))
asks (LinkFrames frame m silence) = one_call (link_frames (framing_named (frame ∷ m ∷ silence ∷ [])))
asks (Admit level gap size window average) = one_call (admit_level (connection_named (level ∷ gap ∷ size ∷ window ∷ average ∷ [])))
asks (AdmitStamped level gap size allowance) = one_call (admit_level (stamped_named (level ∷ gap ∷ size ∷ allowance ∷ [])))
asks (AdmitShare units places) = one_call (admit_share (share_named (units ∷ places ∷ [])))
asks (Close c) = one_call (close c)
asks (Offer c len tag) = one_call (offer c len tag none)
asks (OfferStamped c len tag stamp) = one_call (offer c len tag (some stamp))
asks (Notice len tag) = one_call (notice len tag)
asks (Ticks n) = some_ticks n

-- .. and what was read: what is malformed cannot be read
abbrev pub asks_read : Found → Asked
asks_read None = unread
asks_read (Some (r, n)) = asks r

-- what is written of the reply to a call: of a tick its departure, if there is one
abbrev pub call_log : Request → Reply → List ℕ
call_log (link_levels l) a = answer_bytes (Linked a.verdict)
call_log (link_frames l) a = answer_bytes (Linked a.verdict)
call_log (admit_level x) a = answer_bytes (Admitted a.verdict a.number a.short.level a.short.units)
call_log (admit_share x) a = answer_bytes (Admitted a.verdict a.number a.short.level a.short.units)
call_log (offer c len tag st) a = answer_bytes (Offered a.verdict a.number)
call_log (notice len tag) a = answer_bytes (Noticed a.verdict a.number)
call_log (close c) a = answer_bytes (Closed a.verdict)
call_log tick a = tick_log a

-- what the records of bs ask, which starts at offset `at` of the trace, each with its offset: at most f of them. Behind a malformed record nothing counts
unfoldable pub asked_within : ℕ → ℕ → List ℕ → List (Asked × ℕ)
asked_within zero at bs = []
asked_within (suc f) at bs =
    cond (eqb (length bs) 0) [] ((asks_read (read_at at bs), at) ∷ asked_within f (at + taken (read_at at bs)) (drop (taken (read_at at bs)) bs))

-- what is written of them from the line s on: of a malformed one `ER` with its offset, and nothing more; "an empty trace gives no output"
abbrev pub asked_log : Line → List (Asked × ℕ) → List ℕ
asked_log s [] = []
asked_log s ((one_call c, at) ∷ rest) = call_log c (respond c s) ++ asked_log (respond c s).next rest
asked_log s ((some_ticks n, at) ∷ rest) = (ticks_run n n s).0 ++ asked_log (ticks_run n n s).1 rest
asked_log s ((unread, at) ∷ rest) = answer_bytes (Broken at)

-- THE LOG of a trace: from the fresh line. Each record takes a byte at least, so there are no more records than bytes
unfoldable pub log : List ℕ → List ℕ
log trace = asked_log fresh_line (asked_within (length trace) 0 trace)
