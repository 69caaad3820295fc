-- THE CONTRACT of a call on any hub and any tables: verdict 1 where they are not sound, else nothing but the rules.
use Rattle.std.specs.Prelude.{cond}
use Rattle.rules.specs.Model.{Call}
use Rattle.rules.specs.Calls.{refused_number, answer}
use Rattle.tables.specs.Calls.{DoesBy}
use Rattle.state.specs.View.{Hub, Tables, view, written, sound_hub}
use Rattle.state.specs.Told.{Told, told_of, refusal}

-- what a call answers, and the tables that it leaves: number 1 and nothing changed ("Verdict numbers"), or what the rules' answer says, written back
unfoldable pub tells : Call → Hub → Tables → Told
tells k h t = cond (sound_hub h t) (told_of (answer k (view h t))) (refusal h 1 (refused_number k))

unfoldable pub leaves : Call → Hub → Tables → Tables
leaves k h t = cond (sound_hub h t) (written (answer k (view h t)).next) t

-- handed the hub h and the tables `before`, the call k answers `told` and leaves the tables `after`
abbrev pub Does : Call → Hub → Tables → Told → Tables → Type 0
Does k h before told after = DoesBy tells leaves k h before told after
