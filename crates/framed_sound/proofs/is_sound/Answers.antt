use Rattle.framed_sound.proofs.is_sound.Goals as goal

pub returns : goal.returns
returns c = rw (← c.of.ensures, ← c.of-2.ensures, ← c.of-3.ensures) c.counted_ok.ensures
