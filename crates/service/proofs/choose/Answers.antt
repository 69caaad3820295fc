-- `service::choose` meets its contract. The loop's invariant: the best of the rows before i, against the choice of the rows from i on, is the
-- choice of all rows. The measure is the rows that are left.
use Rattle.tables.proofs.PlacesLaws as P
use Prim.Native.Nat.{◌+◌}
use native.Mathlib.Omega.{arith}
use mathlib.Core.Path.{refl, sym, ap, ◌∙◌}
use mathlib.Core.Option.{none}
use borrow.Author.Rules.{rules}
use Rattle.std.specs.Prelude.{Option, Some}
use Rattle.rules.specs.declared.Packet.{Packet}
use Rattle.tables.specs.Places.{row_at}
use Rattle.tables.specs.Options.{option_of}
use Rattle.service.specs.declared.Lead.{Lead}
use Rattle.tables.proofs.PlacesLaws.{rows_end}
use Rattle.service.specs.Candidates.{level_in, named}
use Rattle.service.proofs.ChoiceLaws as L
use Rattle.service.proofs.LeadLaws.{leads_none}
use Rattle.service.proofs.choose.Goals as goal

pub count-n-requires : goal.count-n-requires
count-n-requires c = P.as_table c.args.places.now c.requires.0 c.requires.1

pub passed_over-i-requires : goal.passed_over-i-requires
passed_over-i-requires c = (omega arith, omega (arith, rows_end c.args.places.now, c.count-n.ensures))

pub loop-i-init : goal.loop-i-init
loop-i-init c =
    let a = c.args in
    let r = c.passed_over-i.ensures in
    (r.1, L.pass (level_in a.members.now) a.clock a.places.now 0 c.passed_over-i.result none r.0 (omega (arith, r.1, c.count-n.ensures)) r.2 refl, leads_none a.members.now a.places.now)

pub lead_with-lead-requires : goal.lead_with-lead-requires
lead_with-lead-requires c =
    (omega (arith, rows_end c.args.places.now, c.count-n.ensures), c.loop-i.invariant.2, c.requires.2)

pub passed_over-i-requires-in-loop-i : goal.passed_over-i-requires-in-loop-i
passed_over-i-requires-in-loop-i c =
    (search rules, omega (arith, rows_end c.args.places.now, c.count-n.ensures))

pub loop-i-smaller : goal.loop-i-smaller
loop-i-smaller c = omega (arith, c.passed_over-i-in-loop-i.ensures.0, c.passed_over-i-in-loop-i.ensures.1)

pub loop-i-preserved : goal.loop-i-preserved
loop-i-preserved c =
    let a = c.args in
    let l = c.loop-i in
    let n = c.count-n.ensures in
    let r = c.lead_with-lead in
    let p = c.passed_over-i-in-loop-i.ensures in
    let w = L.walk (level_in a.members.now) a.clock a.places.now l.i (named a.places.now l.lead) (named a.places.now r.result) (row_at a.places.now l.i) (omega (arith, n)) refl r.ensures.0 l.invariant.1 in
    (p.1, L.pass (level_in a.members.now) a.clock a.places.now (l.i + 1) c.passed_over-i-in-loop-i.result (named a.places.now r.result) p.0 (omega (arith, p.1, n)) p.2 w, r.ensures.1)

pub row-requires : goal.row-requires
row-requires c = (c.loop-i.invariant.2 c.in-Some.best c.in-Some.is).inside

pub returns-in-Some : goal.returns-in-Some
returns-in-Some c =
    let a = c.args in
    let l = c.loop-i in
    ap (λ (q : Packet). Some q) c.row.ensures
    ∙ ap (λ (o : Option Lead). option_of (named a.places.now o)) (sym c.in-Some.is)
    ∙ ap option_of (L.walked (level_in a.members.now) a.clock a.places.now l.i (named a.places.now l.lead) (omega (arith, c.count-n.ensures, l.invariant.0)) l.invariant.1)

pub returns-in-None : goal.returns-in-None
returns-in-None c =
    let a = c.args in
    let l = c.loop-i in
    ap (λ (o : Option Lead). option_of (named a.places.now o)) (sym c.in-None.is)
    ∙ ap option_of (L.walked (level_in a.members.now) a.clock a.places.now l.i (named a.places.now l.lead) (omega (arith, c.count-n.ensures, l.invariant.0)) l.invariant.1)
