use native.Mathlib.Omega.{arith}
use Rattle.framed_sound.proofs.PartLaws as L
use mathlib.Core.Path.{refl}
use Rattle.frames.specs.Service.{next_frame}
use borrow.Author.Rules.{rules}
use Rattle.framed_sound.proofs.next_start.Goals as goal

pub overflow_cast-result : goal.overflow_cast-result
overflow_cast-result c = omega (arith, L.frames_few c.args.frame c.args.t c.requires)

pub overflow_add-result : goal.overflow_add-result
overflow_add-result c = omega (arith, L.frames_few c.args.frame c.args.t c.requires)

pub overflow_mul-result : goal.overflow_mul-result
overflow_mul-result c = omega (arith, L.next_fits c.args.frame c.args.t c.requires (search rules) (search rules))

pub returns : goal.returns
unfolding next_frame
returns c = refl
