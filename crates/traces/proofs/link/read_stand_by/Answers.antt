-- `traces::link::read_stand_by` meets its contract: the byte behind the mark is n.
use Rattle.traces.proofs.LinkLaws.{stand_by_read}
use Rattle.traces.proofs.link.read_stand_by.Goals as goal

pub returns : goal.returns
returns c = rw (c.levelled.ensures, c.two.ensures, c.one.ensures, c.one-2.ensures, c.eight.ensures) (stand_by_read c.args.s.now c.one-levels.result c.one-levels.ensures)
