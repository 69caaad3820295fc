use native.Mathlib.Omega.{arith}
use mathlib.Core.Path.{◌≡◌, ◌∙◌}
use Prim.Native.Nat.{◌-◌}
use lib.ListN.{length}
use Rattle.turns.proofs.TurnLaws.{slide_len, given_fits, refill_reads, refill_better}
use Rattle.turns.proofs.refill.Goals as goal

pub heard-requires : goal.heard-requires
heard-requires g c =
    let a = c.args in
    let R = c.requires in
    let s = c.slide-n in
    let e : s.result ≡ a.to - a.from = s.ensures.0 ∙ slide_len a.from a.to (length a.buf.now) R.order R.inside in
    let r = c.read-read in
    let k = given_fits r.result r.new.room r.ensures.moved in
    omega (arith, R.inside, R.order, s.auto.buf, k, r.auto.room, c.ranges.to)

pub returns-clause-refilled : goal.returns-clause-refilled
returns-clause-refilled g c =
    let a = c.args in
    let R = c.requires in
    let s = c.slide-n in
    let e : s.result ≡ a.to - a.from = s.ensures.0 ∙ slide_len a.from a.to (length a.buf.now) R.order R.inside in
    let r = c.read-read in
    let k = given_fits r.result r.new.room r.ensures.moved in
    rw c.heard.ensures (refill_reads a.buf.now s.new.buf r.new.room a.from a.to s.result R.order R.inside e s.ensures.1 a.c r.result k)

pub returns-clause-better : goal.returns-clause-better
returns-clause-better g c =
    let a = c.args in
    let R = c.requires in
    let s = c.slide-n in
    let e : s.result ≡ a.to - a.from = s.ensures.0 ∙ slide_len a.from a.to (length a.buf.now) R.order R.inside in
    let r = c.read-read in
    let k = given_fits r.result r.new.room r.ensures.moved in
    rw c.heard.ensures (λ o. refill_better (length a.buf.now) a.c a.from a.to R s.result r.result e (omega (arith, R.inside, R.order, s.auto.buf, k, r.auto.room)) o)
