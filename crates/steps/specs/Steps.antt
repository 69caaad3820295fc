-- One step of a replay and many, by the rules: at most one answer record a step.
use Rattle.std.specs.Prelude.{ℕ, zero, suc, ◌+◌, ◌*◌, ◌-◌, Bool, true, false, cond, not, ◌&&◌, List, [], ◌++◌, ltb, eqb, length, drop}
use Rattle.either_line.specs.Line.{Line, tick, respond, fresh_line}
use Rattle.both.specs.Quiet.{passed, quiet_ticks}
use Rattle.traces.specs.Trace.{longest_record}
use Rattle.answers.specs.declared.Reply.TheVariants.{Ticked, Broken}
use Rattle.answers.specs.Answers.{answer_bytes}
use Rattle.answer_log.specs.Log.{trace_limit, Asked, one_call, some_ticks, unread, call_log, read_at, tick_log, all_done_verdict, asks_read, taken}
use Rattle.steps.specs.declared.Phase.{Phase}
use Rattle.steps.specs.declared.Phase.TheVariants.{Reading, Ticking, Finished}
use Rattle.steps.specs.declared.Status.{Status}
use Rattle.steps.specs.declared.Status.TheVariants.{GoOn, MoreBytes, MoreRoom, NotSound, Done}

-- a place in the trace: its offset, what comes next, and the line of the rules there
pub record Point : Type 0 where
  pub at : ℕ
  pub phase : Phase
  pub line : Line

abbrev pub point : ℕ → Phase → Line → Point
point at p s = record { at = at; phase = p; line = s }

-- where every replay begins
abbrev pub beginning : Point
beginning = point 0 Reading fresh_line

-- what a step does: the place after it, the bytes of the window that it took, those that it wrote
pub record Next : Type 0 where
  pub point : Point
  pub used : ℕ
  pub bytes : List ℕ
  pub status : Status

-- nothing happens
abbrev pub still : Point → Status → Next
still p k = record { point = p; used = 0; bytes = []; status = k }

-- a step is made
abbrev pub goes : ℕ → Phase → Line → ℕ → List ℕ → Next
goes at p s used bytes = record { point = point at p s; used = used; bytes = bytes; status = GoOn }

-- a step with what a record of k bytes at offset `at` asks: a call is made and answered, a `TK` begins, a malformed record ends the log
abbrev pub asked_next : Asked → ℕ → ℕ → Line → Next
asked_next (one_call c) k at s = goes (at + k) Reading (respond c s).next k (call_log c (respond c s))
asked_next (some_ticks n) k at s = goes (at + k) (Ticking n n) s k []
asked_next unread k at s = record { point = point at Finished s; used = 0; bytes = answer_bytes (Broken at); status = Done }

-- a step where a record is to be read: the window w must hold the longest one, or be the last
unfoldable pub read_next : ℕ → Line → List ℕ → Bool → Next
read_next at s w last =
    cond (last && eqb (length w) 0) (still (point at Finished s) Done)
    (cond (not last && ltb (length w) longest_record) (still (point at Reading s) MoreBytes)
    (asked_next (asks_read (read_at at w)) (taken (read_at at w)) at s))

-- ---- a step of a `TK`

-- quiet ticks, or one tick, or the `TA`, where `left` of `asked` are still to run
unfoldable pub tick_next : ℕ → ℕ → ℕ → Line → Next
tick_next at asked left s =
    cond (eqb left 0)
    (goes at Reading s 0 (answer_bytes (Ticked (all_done_verdict asked s) asked)))
    (cond (eqb (quiet_ticks left s) 0)
    (cond (eqb (respond tick s).verdict 0)
    (goes at (Ticking asked (left - 1)) (respond tick s).next 0 (tick_log (respond tick s)))
    (goes at Reading (respond tick s).next 0 (answer_bytes (Ticked (respond tick s).verdict (asked - left)))))
    (goes at (Ticking asked (left - quiet_ticks left s)) (passed s (quiet_ticks left s)) 0 []))

abbrev pub phase_next : Phase → ℕ → Line → List ℕ → Bool → Next
phase_next Reading at s w last = read_next at s w last
phase_next (Ticking asked left) at s w last = tick_next at asked left s
phase_next Finished at s w last = still (point at Finished s) Done

-- ONE STEP on the window w, which starts at the point's offset; `last`: nothing comes behind it
unfoldable pub next : Point → List ℕ → Bool → Next
next p w last = phase_next p.phase p.at p.line w last

-- ---- many steps

-- one, and one behind it
abbrev pub joined : Next → Next → Next
joined m n = record { point = n.point; used = m.used + n.used; bytes = m.bytes ++ n.bytes; status = n.status }

-- k steps: behind one that stops, the next does nothing and stops too
unfoldable pub steps : ℕ → Point → List ℕ → Bool → Next
steps zero p w last = still p GoOn
steps (suc k) p w last = joined (steps k p w last) (next (steps k p w last).point (drop (steps k p w last).used w) last)

-- ---- what the functions inside a step say of themselves

abbrev pub is_go : Status → Bool
is_go GoOn = true
is_go MoreBytes = false
is_go MoreRoom = false
is_go NotSound = false
is_go Done = false

-- one tick, where `left` of `asked` are still to run
unfoldable pub one_tick : ℕ → ℕ → ℕ → Line → Next
one_tick at asked left s =
    cond (eqb (respond tick s).verdict 0)
    (goes at (Ticking asked (left - 1)) (respond tick s).next 0 (tick_log (respond tick s)))
    (goes at Reading (respond tick s).next 0 (answer_bytes (Ticked (respond tick s).verdict (asked - left))))

-- ---- a bound on the steps that are left

abbrev pub weight : Phase → ℕ
weight Reading = 0
weight (Ticking asked left) = suc left
weight Finished = 0

abbrev pub work : ℕ → Phase → ℕ
work at p = 65_537 * (trace_limit - at) + weight p
