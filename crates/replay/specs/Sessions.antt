-- A session: any run of the library's public functions on a trace that comes in pieces.
use Rattle.std.specs.Prelude.{ℕ, ◌≡◌, Bool, true, cond, List, [], ◌++◌, ltb, length, take, drop, Option, Some, None}
use Rattle.tables.specs.Lent.{Tables}
use Rattle.state.specs.View.{zero_tables}
use Rattle.both.specs.View.{sound_kept}
use Rattle.steps.specs.declared.Cursor.{Cursor}
use Rattle.steps.specs.declared.Status.TheVariants.{MoreRoom, NotSound}
use Rattle.steps.specs.declared.Stepped.{Stepped}
use Rattle.answers.specs.Answers.{longest_answer}
use Rattle.steps.specs.Steps.{beginning, still, steps}
use Rattle.steps.specs.Tie.{point_of, cursor_of, MakesIfSound, nothing_done}

-- the answer where no step can be made, with a room of r bytes; none where one can
unfoldable pub refusal : Cursor → Tables → ℕ → Option Stepped
refusal c t r = cond (sound_kept c.line t) (cond (ltb r longest_answer) (Some (nothing_done c MoreRoom)) None) (Some (nothing_done c NotSound))

-- what the contract of a call that makes k steps allows, of `step` with 1 and of `pump` with as many as the room surely holds: the cursor c, the tables t, the window w,
-- the room o, which must hold the longest answer; the answer a, the tables and the room then
abbrev pub Steps : ℕ → Cursor → Tables → List ℕ → Bool → List ℕ → Stepped → Tables → List ℕ → Type 0
Steps k c t w last o a t' o' =
    MakesIfSound (cond (ltb (length o) longest_answer) (still (point_of c t) MoreRoom) (steps k (point_of c t) w last)) c t o a t' o'

-- A session on a trace: what was written, the cursor, the tables, the window of bytes in hand and not yet used, and what is still unread. It starts with
-- the fresh line and tables of zeros. Bytes come in pieces of any length; calls, of any number of steps, may be made at any time, with any room, and are told `last`
-- only where nothing is unread.
pub data Session (trace : List ℕ) : List ℕ → Cursor → Tables → List ℕ → List ℕ → Type 0 where
  start : Session trace [] (cursor_of beginning) zero_tables [] trace
  more : {wrote : List ℕ} {c : Cursor} {t : Tables} {w : List ℕ} (got unread : List ℕ) → Session trace wrote c t w (got ++ unread)
      → Session trace wrote c t (w ++ got) unread
  call : {wrote : List ℕ} {c : Cursor} {t : Tables} {w unread : List ℕ} (k : ℕ) (last : Bool) → (last ≡ true → unread ≡ [])
      → (o : List ℕ) (a : Stepped) (t' : Tables) (o' : List ℕ) → Steps k c t w last o a t' o'
      → Session trace wrote c t w unread
      → Session trace (wrote ++ take a.wrote o') a.cursor t' (drop a.used w) unread
