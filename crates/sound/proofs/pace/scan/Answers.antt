use Rattle.sound.proofs.PaceLaws as L
use native.Mathlib.Omega.{arith}
use mathlib.Core.Path.{◌≡◌, refl, ◌∙◌}
use mathlib.Core.Bool.{true}
use lib.ListN.{length}
use Rattle.rules.proofs.Tests.{never}
use Rattle.tables.specs.Places.{rows}
use Rattle.sound.proofs.pace.scan.Goals as goal

pub loop-i-init : goal.loop-i-init
loop-i-init c = record { remembers = L.remembers_itself c.args.table.now c.requires.0; rest = refl }

pub pass_row-requires : goal.pass_row-requires
pass_row-requires c =
    let a = c.args in
    let l = c.loop-i in
    (l.invariant.remembers.shape, L.named_row a.table.now a.places.table.now c.requires.1 l.i (omega arith) _ c.at.ensures, L.within_same a.h.link _ _ _ l.invariant.remembers c.requires.2)

pub returns-then-not-pass_row : goal.returns-then-not-pass_row
returns-then-not-pass_row c =
    let a = c.args in
    let l = c.loop-i in
    let p = c.at in
    record { value = L.pass_stops a.h.link a.table.now a.places.table.now a.h.clock l.i (omega arith) l.table l.invariant.remembers _ p.ensures (L.named_row a.table.now a.places.table.now c.requires.1 l.i (omega arith) _ p.ensures) _ c.pass_row.ensures.value (c.if-not-pass_row.true) ∙ l.invariant.rest; remembers = λ e. never e }

pub loop-i-preserved : goal.loop-i-preserved
loop-i-preserved c =
    let a = c.args in
    let l = c.loop-i in
    let p = c.at in
    let r = c.pass_row in
    let named = L.named_row a.table.now a.places.table.now c.requires.1 l.i (omega arith) _ p.ensures in
    let passed : r.result ≡ true = c.if-not-pass_row.false in
    record {
      remembers = L.pass_next a.h.link a.table.now a.places.table.now a.h.clock l.i (omega arith) l.table _ l.invariant.remembers _ p.ensures named (r.ensures.table_after passed);
      rest = L.pass_goes a.h.link a.table.now a.places.table.now a.h.clock l.i (omega arith) l.table l.invariant.remembers _ p.ensures named _ r.ensures.value passed ∙ l.invariant.rest;
    }

pub returns : goal.returns
returns c =
    let a = c.args in
    let l = c.loop-i in
    let e : l.i ≡ length (rows a.places.table.now) = omega arith in
    record { value = L.pass_end a.h.link a.table.now a.places.table.now a.h.clock l.i e ∙ l.invariant.rest; remembers = λ _. L.remembers_all a.table.now l.table a.places.table.now l.i e l.invariant.remembers }
