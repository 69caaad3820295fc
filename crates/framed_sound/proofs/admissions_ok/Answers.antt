use Rattle.frames.proofs.Figures as F
use native.Mathlib.Omega.{arith}
use mathlib.Core.Path.{ap}
use Rattle.framed_state.specs.View.{tables}
use Rattle.framed_sound.proofs.PartLaws as L
use Rattle.line_tests.proofs.LineLaws as S
use Rattle.shares.proofs.ShareLaws as H
use mathlib.Core.Bool.{not}
use Rattle.framed_sound.proofs.admissions_ok.Goals as goal

pub returns-then-not-framing_ok : goal.returns-then-not-framing_ok
returns-then-not-framing_ok c = λ p q. L.framing_fails c.args.h (tables c.args.shares.table.now p q) (S.falls c.framing_ok.ensures (ap not c.if-not-framing_ok.true))

pub returns-then-not-each_within : goal.returns-then-not-each_within
returns-then-not-each_within c = λ p q. L.shares_fail c.args.h (tables c.args.shares.table.now p q) (H.shares_few c.args.shares.table.now c.requires) (S.holds c.framing_ok.ensures (ap not c.if-not-framing_ok.false)) (S.falls c.each_within.ensures (ap not c.if-not-each_within.true))

pub overflow_sub-room : goal.overflow_sub-room
overflow_sub-room c = let k = F.framing_facts c.args.h.link (S.holds c.framing_ok.ensures (ap not c.if-not-framing_ok.false)) in omega (arith, k.largest_le)

pub returns : goal.returns
returns c = λ p q. L.admissions_read c.args.h (tables c.args.shares.table.now p q) (H.shares_few c.args.shares.table.now c.requires) (S.holds c.framing_ok.ensures (ap not c.if-not-framing_ok.false)) (S.holds c.each_within.ensures (ap not c.if-not-each_within.false)) (rw c.table.ensures at c.units_of_all-units.ensures) (rw c.table-2.ensures at c.places_of_all-places.ensures)
