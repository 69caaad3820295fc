-- THE STATEMENTS of a program that makes turns, apart from their proofs: each is proved in proofs/Results under the same name in small letters. Its turns are such
-- as are spoken of here: of mtredovim, which writes out what the steps wrote, by the contract of `replay_all`; of the checker, which holds it against a log, by that of
-- `check_all`, whose moves make them.
use Rattle.std.specs.Prelude.{ℕ, ◌<◌, ◌≡◌, true, false, Some, List, [], ◌++◌, length, take, drop}
use Rattle.std.proofs.Math.Option.{none, some}
use Rattle.tables.specs.Lent.{Tables}
use Rattle.answer_log.specs.Log.{log}
use Rattle.answer_log.specs.Bad.{bad_at}
use Rattle.traces.specs.Trace.{longest_record}
use Rattle.steps.specs.declared.Status.TheVariants.{MoreBytes}
use Rattle.turns.specs.declared.End.TheVariants.{Whole, Malformed, ReadFailed, NotTaken}
use Rattle.turns.specs.declared.Turn.{Turn}
use Rattle.turns.specs.Turns.{EndsLog, has_failed, Turned}
use Rattle.turns.specs.Runs.{Turns}

-- what holds after any turn: `trace` is what the reads gave and what would come behind it; `wrote` what the steps wrote, and the program handed on; v the turn made last;
-- t and w the tables and the window after it
pub record AfterAnyTurn (trace wrote : List ℕ) (v : Turn) (t : Tables) (w : List ℕ) : Type 0 where
  -- THE PROGRAM: where the log is taken to its end, what was written is the log of the trace
  pub the_program_writes_the_log : EndsLog v.end → wrote ≡ log trace
  -- it says Whole of a trace whose records are all well formed, and Malformed of one whose first malformed record is where the cursor stands
  pub it_tells_the_malformed : (v.end ≡ Some Whole → bad_at trace ≡ none) × (v.end ≡ Some Malformed → bad_at trace ≡ some v.cursor.at)
  -- .. and Whole only once the input has ended
  pub whole_at_the_end : v.end ≡ Some Whole → v.last ≡ true
  -- at any time, so where a read has failed too, or not all was taken, what was written is the beginning of the log
  pub it_writes_nothing_else : take (length wrote) (log trace) ≡ wrote
  -- it ends for no other reason: not all that the steps wrote was taken, or a read failed
  pub it_ends_for_no_other_reason : (v.end ≡ Some NotTaken → v.taken ≡ false) × (v.end ≡ Some ReadFailed → has_failed v.read ≡ true)
  -- a read has room: a turn that wants bytes keeps fewer than the longest record has, so a buffer of that length is not full, and a read that gives nothing is the end of
  -- the input
  pub a_read_has_room : (o : List ℕ) (r : Turn) (t2 : Tables) (o2 w2 : List ℕ) (T : Turned v.cursor t w v.last o r t2 o2 w2)
      → T.answer.status ≡ MoreBytes → length (drop T.answer.used w) < longest_record

-- of all turns from the start: `given` is what the reads gave, `then` what would come behind it, nothing where the input has ended
abbrev pub AllTurns : Type 0
AllTurns =
    (given wrote then : List ℕ) (v : Turn) (t : Tables) (w : List ℕ) → Turns given wrote v t w → (v.last ≡ true → then ≡ [])
    → AfterAnyTurn (given ++ then) wrote v t w
