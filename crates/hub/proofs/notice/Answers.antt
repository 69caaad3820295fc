-- src/lib.rt:90:9
use mathlib.Core.Path.{sym, ◌∙◌}
use Rattle.state.proofs.DoesLaws.{refuses_unsound}
use mathlib.Core.Path.{ap}
use mathlib.Core.Bool.{not}
use Rattle.hub.proofs.notice.Goals as goal

-- src/lib.rt:91:9
pub returns-then-not-is_sound : goal.returns-then-not-is_sound
returns-then-not-is_sound c = refuses_unsound _ _ _ _ c.is_sound.ensures (ap not c.if-not-is_sound.true) _ c.say.ensures

-- src/lib.rt:93:5
pub notice_tested-requires : goal.notice_tested-requires
notice_tested-requires c = sym c.is_sound.ensures ∙ c.if-not-is_sound.false

-- src/lib.rt:80:1
pub returns : goal.returns
returns c = c.notice_tested.ensures
