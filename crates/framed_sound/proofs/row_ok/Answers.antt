use Rattle.framed_sound.proofs.row_ok.Goals as goal

pub returns : goal.returns
returns c = rw (c.stands-stands.ensures, c.table.ensures, c.next_start-next.ensures)
