use borrow.Author.Tests.{le-leb, lt-leb}
use Rattle.rules.specs.Limits.{clock_end}
use Rattle.rules.specs.SoundTest.{rows_sound}
use Rattle.limits.proofs.ChainLaws as C
use Rattle.connections.proofs.WrittenLaws as W
use Rattle.sound.proofs.PartLaws as S
use borrow.Author.Rules.{rules}
use mathlib.Core.Path.{ap}
use mathlib.Core.Bool.{not}
use Rattle.sound.proofs.held_ok.Goals as goal

pub returns-then-h-gt-CLOCK_END : goal.returns-then-h-gt-CLOCK_END
unfolding rows_sound
returns-then-h-gt-CLOCK_END c = λ q. C.fails _ _ (lt-leb c.args.h.clock clock_end (search rules))

pub rows_ok-requires : goal.rows_ok-requires
rows_ok-requires c = W.members_long c.args.members.now c.requires.1

pub returns-then-not-rows_ok : goal.returns-then-not-rows_ok
unfolding rows_sound
returns-then-not-rows_ok c =
    let early = le-leb c.args.h.clock clock_end (search rules) in
    λ q. C.goes_on _ _ _ early (S.stops _ c.rows_ok.ensures (ap not c.if-not-rows_ok.true))

pub paced_ok-requires : goal.paced_ok-requires
paced_ok-requires c =
    let owners = S.rows_owned c.args.members.now c.args.places.table.now c.args.h.clock (S.holds c.rows_ok.ensures (ap not c.if-not-rows_ok.false)) in
    record { held_value = c.requires.0; members_value = (W.members_rows c.args.members.now c.requires.1, owners, c.requires.2) }

pub returns : goal.returns
unfolding rows_sound
returns c =
    let early = le-leb c.args.h.clock clock_end (search rules) in
    λ q. C.goes_on _ _ _ early (S.passes_on c.rows_ok.ensures (ap not c.if-not-rows_ok.false) (c.paced_ok.ensures q))
