use Rattle.std.proofs.Common.{rules, tests, refl, get_or}
use Rattle.limits.proofs.AllLaws.{every_of_all}
use Rattle.framed_sound.specs.Parts.{share_with}
use Rattle.framed_sound.proofs.tally.each_holds.Goals as goal

pub returns : goal.returns
returns c =
    let a = c.args in
    rw (← c.len.ensures) (every_of_all (λ k. share_with a.shares.table.now (get_or a.seen.now k 0) (get_or a.taken.now k 0) k) c.len.result refl c.all.ensures.ran (λ x b q k. search (rules, tests)))
