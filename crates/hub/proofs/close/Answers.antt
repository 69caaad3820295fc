-- src/lib.rt:100:9
use mathlib.Core.Path.{sym, ◌∙◌}
use Rattle.state.proofs.DoesLaws.{refuses_unsound}
use mathlib.Core.Path.{ap}
use mathlib.Core.Bool.{not}
use Rattle.hub.proofs.close.Goals as goal

-- src/lib.rt:101:9
pub returns-then-not-is_sound : goal.returns-then-not-is_sound
returns-then-not-is_sound c = refuses_unsound _ _ _ _ c.is_sound.ensures (ap not c.if-not-is_sound.true) _ c.say.ensures

-- src/lib.rt:103:5
pub close_tested-requires : goal.close_tested-requires
close_tested-requires c = sym c.is_sound.ensures ∙ c.if-not-is_sound.false

-- src/lib.rt:97:1
pub returns : goal.returns
returns c = c.close_tested.ensures
