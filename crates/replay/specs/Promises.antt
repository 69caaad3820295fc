-- THE STATEMENTS of the replay, apart from their proofs: each is proved in proofs/Results under the same name in small letters.
use Rattle.std.specs.Prelude.{ℕ, ◌<◌, ◌≤◌, ◌≡◌, Bool, true, cond, List, [], eqb, length, take, drop}
use Rattle.std.proofs.Math.Option.{none, some}
use Rattle.answers.specs.declared.Reply.TheVariants.{Broken}
use Rattle.answers.specs.Answers.{answer_bytes}
use Rattle.steps.specs.declared.Phase.TheVariants.{Finished}
use Rattle.steps.specs.declared.Cursor.{Cursor}
use Rattle.steps.specs.declared.Status.TheVariants.{MoreBytes, MoreRoom, NotSound, Done}
use Rattle.steps.specs.declared.Stepped.{Stepped}
use Rattle.tables.specs.Lent.{Tables}
use Rattle.answer_log.specs.Log.{log}
use Rattle.answer_log.specs.Bad.{bad_at, EndsWith}
use Rattle.traces.specs.Trace.{longest_record}
use Rattle.answers.specs.Answers.{longest_answer}
use Rattle.steps.specs.Steps.{Next}
use Rattle.steps.specs.Tie.{MakesIfSound}
use Rattle.replay.specs.Sessions.{Steps, Session}

-- what every answer says, to a call with the window w and the room o
pub record EveryAnswer (w o : List ℕ) (a : Stepped) : Type 0 where
  -- a call that answers Done leaves a finished cursor
  pub done_is_finished : a.status ≡ Done → a.cursor.phase ≡ Finished
  -- with room for one answer a call is never refused: the line is sound at any time of a session
  pub never_refused : longest_answer ≤ length o → (a.status ≡ MoreRoom → ⊥) × (a.status ≡ NotSound → ⊥)
  -- a call that asks for bytes leaves fewer than the longest record has: a window of that length can always be filled further
  pub asks_when_short : a.status ≡ MoreBytes → length (drop a.used w) < longest_record

-- what holds at any time of a session
pub record AtAnyTime (trace wrote : List ℕ) (c : Cursor) (t : Tables) (w unread : List ℕ) : Type 0 where
  -- THE THEOREM: for any bytes, in any pieces, the steps until the cursor says that it is finished write exactly the log of the trace
  pub writes_the_log : c.phase ≡ Finished → wrote ≡ log trace
  -- what was written is the beginning of the log
  pub writes_nothing_else : take (length wrote) (log trace) ≡ wrote
  -- a finished cursor: nothing of the window is left, and nothing unread, where every record of the trace is well formed; else it stands at the first malformed one
  pub tells_the_malformed : c.phase ≡ Finished → (bad_at trace ≡ cond (eqb (length w) 0) none (some c.at)) × (length w ≡ 0 → unread ≡ [])
  -- of every call that may follow
  pub answers : (k : ℕ) (last : Bool) → (last ≡ true → unread ≡ []) → (o : List ℕ) (a : Stepped) (t' : Tables) (o' : List ℕ) → Steps k c t w last o a t' o' → EveryAnswer w o a

abbrev pub EverySession : Type 0
EverySession = (trace wrote : List ℕ) (c : Cursor) (t : Tables) (w unread : List ℕ) → Session trace wrote c t w unread → AtAnyTime trace wrote c t w unread

-- the log of a trace with a malformed record ends with the `ER` of the first one's offset
abbrev pub EndsWithItsER : Type 0
EndsWithItsER = (trace : List ℕ) (offset : ℕ) → bad_at trace ≡ some offset → EndsWith (answer_bytes (Broken offset)) (log trace)

-- any two answers, tables and rooms that the contract of `step` or of `pump` allows are equal
abbrev pub OneOutcome : Type 0
OneOutcome =
    (n : Next) (c : Cursor) (t : Tables) (o : List ℕ) (a a' : Stepped) (u u' : Tables) (p p' : List ℕ)
    → MakesIfSound n c t o a u p
    → MakesIfSound n c t o a' u' p'
    → (a ≡ a') × (u ≡ u') × (p ≡ p')
