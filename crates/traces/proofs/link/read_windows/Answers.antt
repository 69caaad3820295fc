-- `traces::link::read_windows` meets its contract: the byte behind the mark is n.
use Rattle.traces.proofs.LinkLaws.{windows_read}
use Rattle.traces.proofs.link.read_windows.Goals as goal

pub returns : goal.returns
returns c = rw (c.levelled.ensures, c.two.ensures, c.one.ensures, c.one-2.ensures, c.eight.ensures, c.eight-2.ensures) (windows_read c.args.s.now c.one-levels.result c.one-levels.ensures)
