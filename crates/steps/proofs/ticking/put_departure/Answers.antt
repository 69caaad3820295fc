use mathlib.Core.Path.{ap, ◌∙◌}
use mathlib.Core.List.{List}
use Prim.Native.Nat.{ℕ}
use lib.ListN.{length}
use Rattle.fields.specs.Formats.{over}
use Rattle.answers.specs.declared.Reply.TheVariants.{Departed}
use Rattle.answers.proofs.WriteLaws.{length_written, room_written}
use Rattle.steps.proofs.CallLaws.{some_told}
use Rattle.steps.proofs.ticking.put_departure.Goals as goal

pub returns : goal.returns
returns c =
    let a = c.args in
    let w = c.write.ensures in
    let v = c.low in
    let f = c.clock_of in
    let p = c.in-Some.p in
    let r = Departed v.result p.tag p.arrival p.eligibility f.result in
    let e = some_told a.told p v.result f.result c.in-Some.is v.ensures f.ensures in
    (w.0 ∙ length_written r a.out.now c.requires ∙ ap (λ (l : List ℕ). length l) e, w.1 ∙ room_written r a.out.now c.requires ∙ ap (λ (l : List ℕ). over l a.out.now) e)
