use Rattle.sound.proofs.unused_ok.Goals as goal

pub returns : goal.returns
returns c = rw (c.blank_ok.ensures, c.zero_from.ensures)
