use Rattle.sound.proofs.pace.in_pace.Goals as goal

pub last_tick-requires : goal.last_tick-requires
last_tick-requires c = c.requires

pub returns : goal.returns
returns c = rw (c.earliest_behind.ensures, c.last_tick.ensures, c.from-at.ensures)
