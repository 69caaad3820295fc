use Rattle.std.proofs.Common.{rules, tests, refl}
use Rattle.frames.specs.Model.{nth}
use Rattle.frames.specs.Admission.{share_within}
use Rattle.limits.proofs.AllLaws.{every_of_all}
use Rattle.shares.specs.Shares.{shares_in}
use Rattle.framed_sound.proofs.each_within.Goals as goal

pub returns : goal.returns
returns c =
    let cs = shares_in c.args.shares.table.now in
    rw (← c.len.ensures) (every_of_all (λ k. share_within (nth cs k)) c.len.result refl c.all.ensures.ran (λ x b q k. search (rules, tests)))
