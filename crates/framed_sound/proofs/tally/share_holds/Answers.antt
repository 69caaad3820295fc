use Rattle.framed_sound.proofs.tally.share_holds.Goals as goal

pub returns : goal.returns
returns c = rw c.at-x.ensures
