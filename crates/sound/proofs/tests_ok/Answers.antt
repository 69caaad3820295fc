use mathlib.Core.Path.{ap}
use lib.Dec.{eqb}
use Rattle.rules.specs.declared.Short.{Short}
use Rattle.sound.proofs.PartLaws as S
use Rattle.connections.proofs.WrittenLaws as W
use Rattle.sound.proofs.tests_ok.Goals as goal

pub used-requires : goal.used-requires
used-requires c = W.members_long c.args.members.now c.requires.0

pub standing_test-short-requires : goal.standing_test-short-requires
standing_test-short-requires c =
    let u = S.used_facts c.args.members.now c.requires.0 c.used.ensures in
    (W.members_long c.args.members.now c.requires.0, u.0, u.1, c.requires.1)

pub returns : goal.returns
returns c = ap (λ (s : Short). eqb s.level 0) c.standing_test-short.ensures
