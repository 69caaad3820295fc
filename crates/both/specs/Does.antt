-- THE CONTRACT of a request on any `Kept` and any tables: verdict 1 where they are not sound, else nothing but the rules.
use Rattle.std.specs.Prelude.{cond}
use Rattle.either_line.specs.Line.{Request, refused_number, respond}
use Rattle.tables.specs.Lent.{Tables}
use Rattle.tables.specs.Calls.{DoesBy}
use Rattle.both.specs.declared.Kept.{Kept}
use Rattle.both.specs.Replied.{Replied}
use Rattle.both.specs.View.{view, written, sound_kept}
use Rattle.both.specs.Replied.{replied_of, refusal}

-- what is replied to a request, and the tables that it leaves: number 1 and nothing changed ("Verdict numbers"), or what the rules' reply says, written back
unfoldable pub tells : Request → Kept → Tables → Replied
tells k h t = cond (sound_kept h t) (replied_of (respond k (view h t))) (refusal h 1 (refused_number k))

unfoldable pub leaves : Request → Kept → Tables → Tables
leaves k h t = cond (sound_kept h t) (written (respond k (view h t)).next) t

-- handed h and the tables `before`, the request k is answered by `replied` and leaves the tables `after`
abbrev pub Does : Request → Kept → Tables → Replied → Tables → Type 0
Does k h before replied after = DoesBy tells leaves k h before replied after
