use mathlib.Core.Path.{ap}
use Rattle.framed_state.specs.View.{tables}
use Rattle.frames.proofs.Figures as F
use Rattle.shares.specs.Shares.{shares_in}
use Rattle.framed_sound.proofs.PartLaws as L
use Rattle.line_tests.proofs.LineLaws as S
use Rattle.shares.proofs.ShareLaws as H
use mathlib.Core.Bool.{not}
use Rattle.framed_sound.proofs.held_ok.Goals as goal

pub returns-then-h-gt-CLOCK_END : goal.returns-then-h-gt-CLOCK_END
returns-then-h-gt-CLOCK_END c = λ q. L.clock_fails c.args.h (tables c.args.shares.table.now c.args.places.table.now q) c.if-h-gt-CLOCK_END.true

pub rows_ok-requires : goal.rows_ok-requires
rows_ok-requires c =
    let q = c.args.places.table.now in
    (c.requires.held.1, (F.framing_facts c.args.h.link (L.framing_holds c.args.h (tables c.args.shares.table.now q q) (c.requires.by_index q q))).some_frame)

pub returns-then-not-rows_ok : goal.returns-then-not-rows_ok
returns-then-not-rows_ok c = λ q. L.rows_fail c.args.h (tables c.args.shares.table.now c.args.places.table.now q) c.if-h-gt-CLOCK_END.false (S.falls c.rows_ok.ensures (ap not c.if-not-rows_ok.true))

pub returns-then-not-in_order : goal.returns-then-not-in_order
returns-then-not-in_order c = λ q. L.order_fails c.args.h (tables c.args.shares.table.now c.args.places.table.now q) c.if-h-gt-CLOCK_END.false (S.holds c.rows_ok.ensures (ap not c.if-not-rows_ok.false)) (S.falls c.in_order.ensures (ap not c.if-not-in_order.true))

pub shares_ok-requires : goal.shares_ok-requires
shares_ok-requires c =
    let q = c.args.places.table.now in
    let few = H.shares_few c.args.shares.table.now c.requires.held.1 in
    let framed = L.framing_holds c.args.h (tables c.args.shares.table.now q q) (c.requires.by_index q q) in
    (few, L.measured c.args.h.link (shares_in c.args.shares.table.now) c.args.h.clock q (S.holds c.rows_ok.ensures (ap not c.if-not-rows_ok.false)) framed few c.requires.held.0)

pub returns : goal.returns
returns c = λ q. L.rows_read c.args.h (tables c.args.shares.table.now c.args.places.table.now q) c.if-h-gt-CLOCK_END.false (S.holds c.rows_ok.ensures (ap not c.if-not-rows_ok.false)) (S.holds c.in_order.ensures (ap not c.if-not-in_order.false)) (c.shares_ok.ensures q)
