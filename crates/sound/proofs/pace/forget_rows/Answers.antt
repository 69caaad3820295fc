use Rattle.std.proofs.Common.{rules, refl, arith}
use Rattle.sound.proofs.PaceLaws as L
use Rattle.sound.proofs.pace.forget_rows.Goals as goal

pub loop-c-init : goal.loop-c-init
loop-c-init c = record { forgotten = L.forgotten_none c.args.table.now c.args.seen.now c.requires.0 }

pub forget_some-requires : goal.forget_some-requires
forget_some-requires c = (c.loop-c.invariant.forgotten.shape, search rules)

pub loop-c-preserved : goal.loop-c-preserved
loop-c-preserved c =
    let a = c.args in
    let l = c.loop-c in
    record { forgotten = L.forgotten_next a.table.now l.table _ a.seen.now l.c _ l.invariant.forgotten (search rules) refl c.forget_some.ensures }

pub returns : goal.returns
returns c =
    let l = c.loop-c in
    L.forgotten_all c.args.table.now l.table c.args.seen.now l.c (omega arith) l.invariant.forgotten
