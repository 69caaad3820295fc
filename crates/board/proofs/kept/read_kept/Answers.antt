use Rattle.board.proofs.kept.read_kept.Goals as goal

pub returns : goal.returns
returns c = rw (c.hub_in.ensures, c.frames_in.ensures)
