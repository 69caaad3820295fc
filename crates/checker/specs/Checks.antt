-- WHAT THE CHECKER DOES, move by move: the replay's turns, and what they wrote held against the log as it comes. Document 02, R-14.
use Rattle.std.specs.Prelude.{ℕ, ◌+◌, ◌<◌, ◌≤◌, ◌≡◌, true, cond, ◌&&◌, ◌⊎◌, List, [], ◌++◌, ltb, eqb, length, take, drop, Option, Some, None, is_some, Result}
use Rattle.streams.specs.declared.ReadError.{ReadError}
use Rattle.state.specs.View.{zero_tables}
use Rattle.tables.specs.Lent.{Tables}
use Rattle.answers.specs.Answers.{longest_answer}
use Rattle.turns.specs.declared.End.TheVariants.{ReadFailed, NotTaken}
use Rattle.turns.specs.Turns.{given_by, has_failed, EndsLog, first_turn, Turned}
use Rattle.checker.specs.declared.Finding.{Finding}
use Rattle.checker.specs.declared.Finding.TheVariants.{Accepted, Differs, TooLong, EndsEarly, TraceFailed, LogFailed}
use Rattle.checker.specs.declared.Check.{Check}
use Rattle.checker.specs.Judgement.{common}

-- ---- the log's window

-- the window l of the log, or where that is empty what a read gave behind it, `got`: l2. A read is made exactly where l is empty; z is what it answered
pub record Fetched (l : List ℕ) (z : Option (Result ℕ ReadError)) (l2 : List ℕ) : Type 0 where
  pub where_empty : is_some z ≡ eqb (length l) 0
  pub got : List ℕ
  pub count : length got ≡ given_by z
  pub rest : l2 ≡ l ++ got

-- ---- a move

-- the bytes e are to be met, and the log's window is l: `came` is what is held against them; e2 and l2 are what is left of both. They differ where there are both; where
-- nothing came the log ends early, or could not be read
pub record Compares (c : Check) (e l : List ℕ) (r : Check) (e2 l2 : List ℕ) : Type 0 where
  pub came : List ℕ
  pub fetched : Fetched l r.read came
  pub turn : r.turn ≡ c.turn
  pub at : r.at ≡ c.at + common came e
  pub expected : e2 ≡ drop (common came e) e
  pub rest : l2 ≡ drop (common came e) came
  pub finding : r.finding ≡ cond (ltb 0 (length came)) (cond (ltb 0 (length e2) && ltb 0 (length l2)) (Some Differs) None) (Some (cond (has_failed r.read) LogFailed EndsEarly))

-- a turn of the replay on the window w of the trace, with the room o; the first bytes of o2 are what it wrote, which is then to be met
pub record StepsOn (c : Check) (t : Tables) (w o : List ℕ) (r : Check) (t2 : Tables) (w2 o2 : List ℕ) : Type 0 where
  pub turned : Turned c.turn.cursor t w c.turn.last o r.turn t2 o2 w2
  pub taken : r.turn.taken ≡ true
  pub check : r ≡ record { turn = r.turn; met = 0; wrote = turned.answer.wrote; from = c.from; to = c.to; read = None; at = c.at; finding = None }

-- all that the rules give was met: the log's window l is looked at once more. It is accepted where nothing is left of it, and could be read
pub record Closes (c : Check) (l : List ℕ) (r : Check) (l2 : List ℕ) : Type 0 where
  pub fetched : Fetched l r.read l2
  pub turn : r.turn ≡ c.turn
  pub expected : (r.met ≡ c.met) × (r.wrote ≡ c.wrote)
  pub at : r.at ≡ c.at
  pub finding : r.finding ≡ Some (cond (ltb 0 (length l2)) TooLong (cond (has_failed r.read) LogFailed Accepted))

-- the trace could not be read
abbrev pub failed : Check → Check
failed c = record { turn = c.turn; met = c.met; wrote = c.wrote; from = c.from; to = c.to; read = None; at = c.at; finding = Some TraceFailed }

-- A MOVE, with the windows w of the trace and l of the log, where the bytes e are to be met: what its reads of the trace and of the log gave, and what it wrote;
-- and all of these after it
pub data Move (c : Check) (t : Tables) (w e l : List ℕ) : List ℕ → List ℕ → List ℕ → Check → Tables → List ℕ → List ℕ → List ℕ → Type 0 where
  compares : 0 < length e → (r : Check) (e2 l2 : List ℕ) (C : Compares c e l r e2 l2)
      → Move c t w e l [] C.fetched.got [] r t w e2 l2
  steps : length e ≡ 0 → c.turn.end ≡ None → (o : List ℕ) → longest_answer ≤ length o → (r : Check) (t2 : Tables) (w2 o2 : List ℕ) (S : StepsOn c t w o r t2 w2 o2)
      → Move c t w e l S.turned.follows.got [] (take S.turned.answer.wrote o2) r t2 w2 (take S.turned.answer.wrote o2) l
  closes : length e ≡ 0 → EndsLog c.turn.end → (r : Check) (l2 : List ℕ) (C : Closes c l r l2)
      → Move c t w e l [] C.fetched.got [] r t w e l2
  fails : length e ≡ 0 → (c.turn.end ≡ Some ReadFailed) ⊎ (c.turn.end ≡ Some NotTaken) → Move c t w e l [] [] [] (failed c) t w e l

-- ---- all moves

abbrev pub first_check : Check
first_check = record { turn = first_turn; met = 0; wrote = 0; from = 0; to = 0; read = None; at = 0; finding = None }

-- The moves made so far: all that the reads of the trace and of the log gave, and all that the steps wrote; where the checker stands; the tables, the window of the
-- trace, what is to be met, and the window of the log. They begin with the fresh line, tables of zeros and empty windows; each goes on with what the one before it left
pub data Checks : List ℕ → List ℕ → List ℕ → Check → Tables → List ℕ → List ℕ → List ℕ → Type 0 where
  none : Checks [] [] [] first_check zero_tables [] [] []
  move : {given came wrote : List ℕ} {c : Check} {t : Tables} {w e l : List ℕ} → Checks given came wrote c t w e l → c.finding ≡ None
      → {given2 came2 wrote2 : List ℕ} {r : Check} {t2 : Tables} {w2 e2 l2 : List ℕ} → Move c t w e l given2 came2 wrote2 r t2 w2 e2 l2
      → Checks (given ++ given2) (came ++ came2) (wrote ++ wrote2) r t2 w2 e2 l2

-- r is where some moves ended, and no other follows
pub record Judges (r : Check) : Type 0 where
  pub trace : List ℕ
  pub found : List ℕ
  pub wrote : List ℕ
  pub tables : Tables
  pub window : List ℕ
  pub expected : List ℕ
  pub log_window : List ℕ
  pub checks : Checks trace found wrote r tables window expected log_window
  pub over : r.finding ≡ None → ⊥

-- ---- what the functions inside a move say of themselves

-- of a buffer of n bytes, and not of none, those from `from` to `to` are the window
pub record Inside (n from to : ℕ) : Type 0 where
  pub room : 0 < n
  pub order : from ≤ to
  pub inside : to ≤ n

-- where bytes are to be met and nothing came of the log: z is what a read answered
abbrev pub without_more : Option (Result ℕ ReadError) → Finding
without_more z = cond (has_failed z) LogFailed EndsEarly

-- where bytes of the log came, with so many left that are to be met, and so many of the log
abbrev pub with_more : ℕ → ℕ → Option Finding
with_more left more = cond (ltb 0 left && ltb 0 more) (Some Differs) None

-- where all that the rules give was met, with so many bytes of the log left
abbrev pub at_the_end : ℕ → Option (Result ℕ ReadError) → Finding
at_the_end more z = cond (ltb 0 more) TooLong (cond (has_failed z) LogFailed Accepted)

-- some move
pub record Advances (c : Check) (t : Tables) (w e l : List ℕ) (r : Check) (t2 : Tables) (w2 e2 l2 : List ℕ) : Type 0 where
  pub given : List ℕ
  pub came : List ℕ
  pub wrote : List ℕ
  pub move : Move c t w e l given came wrote r t2 w2 e2 l2
