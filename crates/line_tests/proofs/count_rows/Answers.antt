use Rattle.std.proofs.Common.{length, length-append, [], ◌∷◌, arith}
use Rattle.line_tests.proofs.CountLaws as L
use Rattle.line_tests.proofs.count_rows.Goals as goal

pub raise-requires : goal.raise-requires
raise-requires c =
    let l = c.loop-i in
    L.room_here c.args.places.table.now l.i (omega arith) l.seen c.requires.0 l.invariant.counted c.at.ensures

pub loop-i-preserved : goal.loop-i-preserved
loop-i-preserved c =
    let l = c.loop-i in
    record { counted = L.counts_next length c.args.places.table.now l.i (omega arith) l.seen _ c.requires.0 l.invariant.counted _ c.at.ensures 1 (λ ps. length-append ps (_ ∷ [])) c.raise.ensures }
