use Rattle.both.proofs.fresh_line.Goals as goal

pub returns : goal.returns
returns c = rw (c.fresh_hub.ensures, c.fresh_frames.ensures)
