use Rattle.board.proofs.NumberLaws.{not_long, long_test}
use Rattle.tables.specs.Lent.{tables}
use Rattle.board.proofs.kept.is_sound.Goals as goal

pub returns-then-line-ne-LINE : goal.returns-then-line-ne-LINE
returns-then-line-ne-LINE c = let a = c.args in not_long a.line.now (tables a.members.now a.places.now a.notices.now) c.if-line-ne-LINE.true

pub returns : goal.returns
returns c = let a = c.args in long_test a.line.now (tables a.members.now a.places.now a.notices.now) c.if-line-ne-LINE.false _ c.read_kept.ensures _ c.is_sound.ensures
