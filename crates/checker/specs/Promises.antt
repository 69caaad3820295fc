-- THE STATEMENTS of the checker, apart from their proofs: each is proved in proofs/Results under the same name in small letters. `check_all` gives `Judges`: its moves
-- are such as are spoken of here. Document 02, R-14.
use Rattle.std.specs.Prelude.{ℕ, ◌≡◌, true, ◌⊎◌, List, [], ◌++◌, Some, None, Ok}
use Rattle.std.proofs.Math.Option.{some}
use Rattle.tables.specs.Lent.{Tables}
use Rattle.answers.specs.declared.Reply.TheVariants.{Broken}
use Rattle.answers.specs.Answers.{answer_bytes}
use Rattle.answer_log.specs.Log.{log}
use Rattle.answer_log.specs.Bad.{bad_at, EndsWith}
use Rattle.turns.specs.Turns.{has_failed}
use Rattle.checker.specs.declared.Finding.{Finding}
use Rattle.checker.specs.declared.Finding.TheVariants.{Accepted, Differs, TooLong, EndsEarly, TraceFailed, LogFailed}
use Rattle.checker.specs.declared.Check.{Check}
use Rattle.checker.specs.Judgement.{Judged}
use Rattle.checker.specs.Checks.{Checks}

-- a judgement was reached: no read failed
abbrev pub Decided : Finding → Type 0
Decided f = (f ≡ Accepted) ⊎ ((f ≡ Differs) ⊎ ((f ≡ TooLong) ⊎ (f ≡ EndsEarly)))

-- where it accepts, or says that the log ends early, the log has ended
abbrev pub HasEnded : Finding → Type 0
HasEnded f = (f ≡ Accepted) ⊎ (f ≡ EndsEarly)

-- what holds of a trace and a log where the checker has come to its end, r
pub record AtItsEnd (trace found : List ℕ) (r : Check) : Type 0 where
  -- THE THEOREM: for any two byte lists, in any pieces, what the checker finds and the offset that it gives are the judgement of the log against the one that the
  -- rules give for the trace: so it accepts exactly if the log is that one
  pub the_checker_judges : (f : Finding) → r.finding ≡ Some f → Decided f → Judged f r.at found (log trace)
  -- the log of a damaged trace that it accepts ends with the `ER` of the first malformed record's offset
  pub a_damaged_trace_has_its_ER : (offset : ℕ) → bad_at trace ≡ some offset → r.finding ≡ Some Accepted → EndsWith (answer_bytes (Broken offset)) found
  -- where the log is said to have ended, a read of it told so
  pub ended_as_read : (f : Finding) → r.finding ≡ Some f → HasEnded f → r.read ≡ Some (Ok 0)
  -- the moves end for no other reason: a judgement was reached, or a read of the trace or of the log failed
  pub they_end_for_no_other_reason : (f : Finding) × (r.finding ≡ Some f)
      × (Decided f ⊎ (((f ≡ TraceFailed) × (has_failed r.turn.read ≡ true)) ⊎ ((f ≡ LogFailed) × (has_failed r.read ≡ true))))

-- of all moves from the start that no other follows: `given` is what the reads of the trace gave, `then` what would come behind it, nothing where the trace has ended;
-- `came` what the reads of the log gave, `more` what would come behind it, nothing where the log has ended
abbrev pub AllMoves : Type 0
AllMoves =
    (given then came more wrote : List ℕ) (r : Check) (t : Tables) (w e l : List ℕ) → Checks given came wrote r t w e l → (r.finding ≡ None → ⊥)
    → (r.turn.last ≡ true → then ≡ []) → ((f : Finding) → r.finding ≡ Some f → HasEnded f → more ≡ [])
    → AtItsEnd (given ++ then) (came ++ more) r
