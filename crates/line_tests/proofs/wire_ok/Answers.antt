use Rattle.rules.specs.SoundLine.{wire_sound}
use Rattle.line_tests.proofs.LineLaws as S
use Rattle.line_tests.proofs.wire_ok.Goals as goal

pub returns-then-notices_ok : goal.returns-then-notices_ok
unfolding wire_sound
returns-then-notices_ok c = S.both_go (S.notices_all c.args.notices.table.now c.requires c.notices_ok.ensures) c.if-notices_ok.true c.line_ok.ensures

pub returns-else-notices_ok : goal.returns-else-notices_ok
unfolding wire_sound
returns-else-notices_ok c = S.both_stop _ (S.notices_all c.args.notices.table.now c.requires c.notices_ok.ensures) c.if-notices_ok.false
