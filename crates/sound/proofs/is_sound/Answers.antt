use Rattle.sound.proofs.is_sound.Goals as goal

pub returns : goal.returns
returns c = rw (← c.of.ensures, ← c.of-2.ensures) c.counted_ok.ensures
