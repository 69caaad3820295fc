use Rattle.std.proofs.Common.{rules, tests, refl, []}
use Rattle.rules.specs.Limits.{max_connections}
use Rattle.rules.specs.SoundTest.{number_sound}
use Rattle.limits.proofs.AllLaws.{every_of_all}
use Rattle.state.specs.View.{tables, view}
use Rattle.sound.proofs.numbers_ok.Goals as goal

pub returns : goal.returns
returns c = λ p q. every_of_all (number_sound (view c.args.h (tables c.args.members.now [] []))) max_connections refl c.all.ensures.ran (λ x b r k. search (rules, tests))
