use Prim.Native.Nat.{◌+◌, ◌*◌, ◌<◌}
use native.Mathlib.Omega.{arith}
use mathlib.Core.Path.{refl, ap, ◌∙◌}
use lib.ListN.{length}
use Rattle.rules.specs.Words.{total}
use Rattle.rules.proofs.Lists.{total_snoc}
use Rattle.frames.specs.Service.{newly}
use Rattle.tables.specs.Places.{rows}
use Rattle.line_tests.specs.Counts.{raised}
use Rattle.line_tests.proofs.CountLaws as K
use Rattle.framed_sound.proofs.TallyLaws as T
use Rattle.framed_sound.proofs.tally.count_units.Goals as goal

pub loop-i-init : goal.loop-i-init
loop-i-init c = record { counted = c.requires.1; low = T.low_none (total (newly c.args.h.link c.args.h.clock)) c.args.taken.now refl c.requires.1 }

pub newly-requires : goal.newly-requires
newly-requires c =
    let k = c.loop-i in
    omega (arith, T.cost_here c.args.places.table.now k.i (omega arith) c.args.h.link c.requires.0 c.at-p.ensures)

pub raise-requires : goal.raise-requires
raise-requires c =
    let k = c.loop-i in
    let l : k.i < length (rows c.args.places.table.now) = omega arith in
    let w = T.cost_here c.args.places.table.now k.i l c.args.h.link c.requires.0 c.at-p.ensures in
    let most = T.newly_most c.args.h.link c.args.h.clock c.at-p.result in
    T.raise_fits c.args.places.table.now k.i l c.args.h.link c.requires.0 c.at-p.ensures k.taken (2112 * k.i) c.newly.result k.invariant.counted.size k.invariant.low
    (omega (arith, w, c.newly.ensures, most, c.requires.0.countable.few_rows))

pub loop-i-preserved : goal.loop-i-preserved
loop-i-preserved c =
    let k = c.loop-i in
    let l : k.i < length (rows c.args.places.table.now) = omega arith in
    let p = c.at-p.result in
    let is = c.at-p.ensures in
    let n = c.newly in
    let w = T.cost_here c.args.places.table.now k.i l c.args.h.link c.requires.0 is in
    let known = K.known_here c.args.places.table.now k.i l c.requires.0.countable is in
    let costs = newly c.args.h.link c.args.h.clock in
    record {
      counted =
          K.counts_next (total costs) c.args.places.table.now k.i l k.taken _ c.requires.0.countable k.invariant.counted p is (costs p) (λ ps. total_snoc costs ps p)
          (c.raise.ensures ∙ ap (raised k.taken p.connection) n.ensures);
      low =
          T.low_is c.raise.ensures
          (T.low_more (raised k.taken p.connection n.result) (2112 * k.i + n.result) (2112 * (k.i + 1))
          (omega (arith, w, n.ensures, T.newly_most c.args.h.link c.args.h.clock p))
          (T.raised_low k.taken p.connection n.result (2112 * k.i) k.invariant.counted.size known k.invariant.low));
    }
