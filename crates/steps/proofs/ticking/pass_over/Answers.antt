use Rattle.steps.proofs.ticking.pass_over.Goals as goal

pub returns : goal.returns
returns c t = rw (c.pass_over-later.ensures t)
