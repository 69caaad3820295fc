use mathlib.Core.Path.{ap}
use mathlib.Core.Bool.{not}
use Rattle.framed_state.proofs.DoesLaws.{refuses_unsound}
use Rattle.framed_hub.proofs.tick.Goals as goal

pub returns-then-not-is_sound : goal.returns-then-not-is_sound
returns-then-not-is_sound c = refuses_unsound _ _ _ _ c.is_sound.ensures (ap not c.if-not-is_sound.true) _ c.say.ensures
