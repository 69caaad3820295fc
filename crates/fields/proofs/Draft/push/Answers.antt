-- `fields::Draft::push` meets its contract: the byte goes behind those that are there.
use Rattle.std.proofs.Common.{◌∙◌, arith, rules, add-one, length-set}
use Rattle.std.proofs.Math.Seq.{take-suc-set}
use Rattle.fields.proofs.DraftLaws.{count_held, little_one, zeros_behind}
use Rattle.fields.specs.declared.TheConstants.{LONGEST}
use Rattle.fields.proofs.Draft.push.Goals as goal

pub returns : goal.returns
returns c =
    let d = c.self.inside in
    rw (add-one d.len, take-suc-set d.bytes d.len c.args.v (search rules), little_one c.args.v (search rules), ← c.self.view_is)

pub invariant_of-self : goal.invariant_of-self
invariant_of-self c =
    let d = c.self.inside in
    let i = c.self.invariant in
    let e = count_held d.len d.bytes c.args.self.now c.self.view_is (omega (arith, i.0, i.1)) in
    (omega (arith, c.requires, e), length-set d.bytes d.len c.args.v ∙ i.1, zeros_behind LONGEST d.len c.args.v d.bytes i.2)
