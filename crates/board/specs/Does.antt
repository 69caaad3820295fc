-- THE CONTRACT of a call from C on any four tables: verdict 1 where they are not sound, else nothing but the rules.
use Rattle.std.specs.Prelude.{ℕ, cond, List}
use Rattle.either_line.specs.Line.{Line}
use Rattle.tables.specs.Lent.{Tables}
use Rattle.tables.specs.Calls.{DoesBy}
use Rattle.both.specs.View.{view, kept_of, written}
use Rattle.both.specs.Replied.{replied_of, refusal}
use Rattle.board.specs.Numbers.{kept_in, numbers_of, sound_lent}
use Rattle.board.specs.Calls.{Call, reply, refused_by, Spoken, spoken_of}

-- what a call tells on the line s, as the rules reply to it
abbrev pub rules_tell : Call → Line → Spoken
rules_tell k s = spoken_of k (replied_of (reply k s)) (numbers_of (kept_of (reply k s).next))

-- what is told, and the tables that are left: number 1 and nothing changed ("Verdict numbers"), or what the rules' reply says, written back
unfoldable pub tells : Call → List ℕ → Tables → Spoken
tells k line t = cond (sound_lent line t) (rules_tell k (view (kept_in line) t)) (spoken_of k (refusal (kept_in line) 1 (refused_by k)) line)

unfoldable pub leaves : Call → List ℕ → Tables → Tables
leaves k line t = cond (sound_lent line t) (written (reply k (view (kept_in line) t)).next) t

-- lent the line's table `line` and the tables `before`, the call k tells `told` and leaves the tables `after`
abbrev pub Does : Call → List ℕ → Tables → Spoken → Tables → Type 0
Does k line before told after = DoesBy tells leaves k line before told after
