use mathlib.Core.Path.{ap, ◌∙◌}
use Rattle.both.specs.declared.Kept.{Kept}
use Rattle.board.specs.Stretch.{undeparted}
use Rattle.board.proofs.ticking.quiet.Goals as goal

pub returns : goal.returns
returns c t = c.say.ensures ∙ ap (λ (h : Kept). undeparted 0 c.args.k h) (c.pass_over-then.ensures t)
