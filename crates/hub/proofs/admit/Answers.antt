-- src/lib.rt:55:9
use mathlib.Core.Path.{sym, ◌∙◌}
use Rattle.state.proofs.DoesLaws.{refuses_unsound}
use mathlib.Core.Path.{ap}
use mathlib.Core.Bool.{not}
use Rattle.hub.proofs.admit.Goals as goal

-- src/lib.rt:56:9
pub returns-then-not-is_sound : goal.returns-then-not-is_sound
returns-then-not-is_sound c = refuses_unsound _ _ _ _ c.is_sound.ensures (ap not c.if-not-is_sound.true) _ c.say.ensures

-- src/lib.rt:58:5
pub admit_tested-requires : goal.admit_tested-requires
admit_tested-requires c = sym c.is_sound.ensures ∙ c.if-not-is_sound.false

-- src/lib.rt:52:1
pub returns : goal.returns
returns c = c.admit_tested.ensures
