use Rattle.std.proofs.Common.{arith}
use Rattle.framed_sound.proofs.PartLaws as L
use Rattle.framed_sound.proofs.in_order.Goals as goal

pub returns-then-p-low : goal.returns-then-p-low
returns-then-p-low c = let k = c.loop-i in L.order_stops c.args.places.table.now k.low k.i (omega arith) c.at-p.ensures k.invariant.falls c.if-p-low.true

pub loop-i-preserved : goal.loop-i-preserved
loop-i-preserved c = let k = c.loop-i in record { falls = L.order_passes c.args.places.table.now k.low k.i (omega arith) c.at-p.ensures k.invariant.falls c.if-p-low.false }

pub returns : goal.returns
returns c = let k = c.loop-i in L.order_done c.args.places.table.now k.low k.i (omega arith) k.invariant.falls
