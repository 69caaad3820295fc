use Rattle.sound.proofs.PaceLaws as L
use Rattle.sound.proofs.pace.forget_some.Goals as goal

pub returns-then-n-eq0 : goal.returns-then-n-eq0
returns-then-n-eq0 c = L.forget_none c.args.table.now c.args.c c.args.n c.requires.0 c.if-n-eq0.true
