-- What a turn does: a call of `pump`, whose bytes are taken or not, and then a read or none.
use Rattle.std.specs.Prelude.{ℕ, ◌+◌, ◌-◌, ◌/◌, ◌<◌, ◌≤◌, ◌≡◌, Bool, true, false, cond, ◌⊎◌, List, ◌++◌, eqb, length, take, drop, Option, Some, None, Result, Ok, Err}
use Rattle.streams.specs.declared.ReadError.{ReadError}
use Rattle.tables.specs.Lent.{Tables}
use Rattle.steps.specs.declared.Cursor.{Cursor}
use Rattle.steps.specs.declared.Status.{Status}
use Rattle.steps.specs.declared.Status.TheVariants.{GoOn, MoreBytes, MoreRoom, NotSound, Done}
use Rattle.steps.specs.declared.Stepped.{Stepped}
use Rattle.answers.specs.Answers.{longest_answer}
use Rattle.answer_log.specs.Log.{trace_limit}
use Rattle.steps.specs.Steps.{beginning, work}
use Rattle.steps.specs.Tie.{cursor_of}
use Rattle.replay.specs.Sessions.{Steps}
use Rattle.turns.specs.declared.End.{End}
use Rattle.turns.specs.declared.End.TheVariants.{Whole, Malformed, ReadFailed, NotTaken}
use Rattle.turns.specs.declared.Turn.{Turn}

-- ---- what follows a turn

-- the log is taken to its end
abbrev pub EndsLog : Option End → Type 0
EndsLog e = (e ≡ Some Whole) ⊎ (e ≡ Some Malformed)

-- of a read: none was made; it failed; or how many bytes it gave, 0 at the end of the input
abbrev pub given_by : Option (Result ℕ ReadError) → ℕ
given_by None = 0
given_by (Some (Ok n)) = n
given_by (Some (Err e)) = 0

abbrev pub has_failed : Option (Result ℕ ReadError) → Bool
has_failed None = false
has_failed (Some (Ok n)) = false
has_failed (Some (Err e)) = true

abbrev pub is_end : Option (Result ℕ ReadError) → Bool
is_end None = false
is_end (Some (Ok n)) = eqb n 0
is_end (Some (Err e)) = false

-- what follows a read
abbrev pub heard : Option (Result ℕ ReadError) → Option End
heard z = cond (has_failed z) (Some ReadFailed) None

-- what follows a turn that does not read, where the window is used up or not: a malformed record stays in it. MoreRoom and NotSound never come:
-- `it_ends_for_no_other_reason`
abbrev pub after_steps : Bool → Status → Bool → Option End
after_steps false k emptied = Some NotTaken
after_steps true GoOn emptied = None
after_steps true MoreBytes emptied = None
after_steps true MoreRoom emptied = Some NotTaken
after_steps true NotSound emptied = Some NotTaken
after_steps true Done emptied = cond emptied (Some Whole) (Some Malformed)

-- before any turn
abbrev pub first_turn : Turn
first_turn = record { cursor = cursor_of beginning; from = 0; to = 0; last = false; taken = true; read = None; end = None }

-- ---- a turn

-- what follows a call of `pump` on the window w, which answered a, and whose bytes were all taken or not: a read or none, which gave `got`; w2 is the window then
pub record Followed (a : Stepped) (w : List ℕ) (last : Bool) (r : Turn) (w2 : List ℕ) : Type 0 where
  pub cursor : r.cursor ≡ a.cursor
  pub got : List ℕ
  pub count : length got ≡ given_by r.read
  pub rest : w2 ≡ drop a.used w ++ got
  pub where_read : r.taken ≡ true → a.status ≡ MoreBytes → (last ≡ false) × (r.last ≡ is_end r.read) × (r.end ≡ heard r.read) × (r.read ≡ None → ⊥)
  pub where_not : (r.taken ≡ true → a.status ≡ MoreBytes → ⊥)
      → (r.read ≡ None) × (r.last ≡ last) × (r.end ≡ after_steps r.taken a.status (eqb (length (drop a.used w)) 0))

-- A TURN: a call of `pump` on the window w with the room o, which gave `answer`; the first bytes of the room o2 were taken or not; what follows it
pub record Turned (c : Cursor) (t : Tables) (w : List ℕ) (last : Bool) (o : List ℕ) (r : Turn) (t2 : Tables) (o2 w2 : List ℕ) : Type 0 where
  pub answer : Stepped
  pub pumps : Steps (length o / longest_answer) c t w last o answer t2 o2
  pub follows : Followed answer w last r w2

-- ---- what the functions inside a turn say of themselves

-- whether a turn reads, where all that its steps wrote was taken or not, and they ended with a status
abbrev pub reads : Bool → Status → Bool
reads taken GoOn = false
reads taken MoreBytes = taken
reads taken MoreRoom = false
reads taken NotSound = false
reads taken Done = false

-- a turn that ends with a read behind n bytes of the window, which answered z
abbrev pub read_turn : Cursor → ℕ → Result ℕ ReadError → Turn
read_turn c n z = record { cursor = c; from = 0; to = n + given_by (Some z); last = is_end (Some z); taken = true; read = Some z; end = heard (Some z) }

-- the window of a buffer from `from` to `to`
abbrev pub window : List ℕ → ℕ → ℕ → List ℕ
window b from to = take (to - from) (drop from b)

-- a read behind the window w: `got` is what it gave, and w2 the window then
pub record Refilled (c : Cursor) (w : List ℕ) (r : Turn) (w2 : List ℕ) : Type 0 where
  pub answer : Result ℕ ReadError
  pub turn : r ≡ read_turn c (length w) answer
  pub got : List ℕ
  pub count : length got ≡ given_by r.read
  pub rest : w2 ≡ w ++ got

-- ---- the turns end

-- a bound on the turns that are left, with a buffer of n bytes of which those from `from` to `to` are the window
abbrev pub turns_left : ℕ → Cursor → ℕ → ℕ → Bool → ℕ
turns_left n c from to last = work c.at c.phase + (trace_limit + n - (c.at + (to - from))) + cond last 0 1

-- the place and the window are as they must be
pub record Right (n : ℕ) (c : Cursor) (from to : ℕ) : Type 0 where
  pub order : from ≤ to
  pub inside : to ≤ n
  pub place : c.at ≤ trace_limit

-- a turn that does not read
abbrev pub still_turn : Stepped → ℕ → ℕ → Bool → Bool → Bool → Turn
still_turn a from to last taken emptied =
    record { cursor = a.cursor; from = from + a.used; to = to; last = last; taken = taken; read = None; end = after_steps taken a.status emptied }

-- a turn that is followed by another leaves less to do
pub record Better (n : ℕ) (c : Cursor) (from to : ℕ) (last : Bool) (r : Turn) : Type 0 where
  pub right : Right n r.cursor r.from r.to
  pub less : turns_left n r.cursor r.from r.to r.last < turns_left n c from to last

-- what is left after a call of `pump` that answered a: less than before a read, and the turn itself where none follows
pub record Onward (n : ℕ) (a : Stepped) (from to : ℕ) (last taken : Bool) (r : Turn) : Type 0 where
  pub where_read : reads taken a.status ≡ true → r.end ≡ None → Better n a.cursor (from + a.used) to false r
  pub where_not : reads taken a.status ≡ false → r ≡ still_turn a from to last taken (eqb (from + a.used) to)
