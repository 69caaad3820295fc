use Rattle.std.proofs.Common.{rules, tests}
use Rattle.framed_state.specs.View.{tables}
use Rattle.framed_sound.proofs.PartLaws as L
use Rattle.framed_sound.proofs.in_turn.Goals as goal

pub returns-then-h-eq0 : goal.returns-then-h-eq0
returns-then-h-eq0 c = let a = c.args in λ m q. L.turn_idle a.h (tables m a.places.table.now q) c.if-h-eq0.true

pub returns-then-h-eq-NOTICE_NUMBER : goal.returns-then-h-eq-NOTICE_NUMBER
returns-then-h-eq-NOTICE_NUMBER c = let a = c.args in λ m q. L.turn_notice a.h (tables m a.places.table.now q) c.if-h-eq0.false c.if-h-eq-NOTICE_NUMBER.true

pub returns-then-is_empty : goal.returns-then-is_empty
returns-then-is_empty c = λ m q. L.turn_nobody c.args.h (tables m c.args.places.table.now q) c.if-h-eq0.false c.if-h-eq-NOTICE_NUMBER.false (search (rules, tests))

pub returns : goal.returns
returns c = λ m q. L.turn_first c.args.h (tables m c.args.places.table.now q) c.if-h-eq0.false c.if-h-eq-NOTICE_NUMBER.false (search (rules, tests)) c.at.ensures
