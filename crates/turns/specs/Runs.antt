-- ALL TURNS of a program, one after the other from its start.
use Rattle.std.specs.Prelude.{ℕ, ◌≤◌, ◌≡◌, List, [], ◌++◌, length, take, None}
use Rattle.tables.specs.Lent.{Tables}
use Rattle.state.specs.View.{zero_tables}
use Rattle.answers.specs.Answers.{longest_answer}
use Rattle.turns.specs.declared.Turn.{Turn}
use Rattle.turns.specs.Turns.{first_turn, Turned}

-- The turns made so far: all that the reads gave, one after the other, and all that the steps wrote; the turn made last; the tables and the window after
-- it. They begin with the fresh line, tables of zeros and an empty window; each goes on with what the one before it left, and has room for an answer.
pub data Turns : List ℕ → List ℕ → Turn → Tables → List ℕ → Type 0 where
  none : Turns [] [] first_turn zero_tables []
  turn : {given wrote : List ℕ} {v : Turn} {t : Tables} {w : List ℕ} → Turns given wrote v t w → v.end ≡ None
      → (o : List ℕ) → longest_answer ≤ length o → (r : Turn) (t2 : Tables) (o2 w2 : List ℕ)
      → (T : Turned v.cursor t w v.last o r t2 o2 w2)
      → Turns (given ++ T.follows.got) (wrote ++ take T.answer.wrote o2) r t2 w2

-- r is the last of some turns, which left these tables, and no other follows
pub record Ran (r : Turn) (t : Tables) : Type 0 where
  pub given : List ℕ
  pub wrote : List ℕ
  pub window : List ℕ
  pub turns : Turns given wrote r t window
  pub over : r.end ≡ None → ⊥
