use Rattle.std.proofs.Common.{rules, tests, refl, get_or}
use Rattle.rules.specs.Limits.{max_connections}
use Rattle.limits.proofs.AllLaws.{every_of_all}
use Rattle.sound.specs.Pace.{closed_with}
use Rattle.sound.proofs.pace.each_closed_ok.Goals as goal

pub returns : goal.returns
returns c =
    let a = c.args in
    every_of_all (λ k. closed_with a.h a.members.now (get_or a.seen.now k 0) k) max_connections refl c.all.ensures.ran (λ x b q k. search (rules, tests))
