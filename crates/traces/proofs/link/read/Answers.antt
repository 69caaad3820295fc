-- `traces::link::read` meets its contract: the byte behind the mark is n.
use Rattle.traces.proofs.LinkLaws.{link_read}
use Rattle.traces.proofs.link.read.Goals as goal

pub returns : goal.returns
returns c = rw (c.levelled.ensures, c.two.ensures, c.one.ensures, c.eight.ensures) (link_read c.args.s.now c.one-levels.result c.one-levels.ensures)
