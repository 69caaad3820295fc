use mathlib.Core.Path.{refl, sym}
use Rattle.rules.specs.Model.{link}
use Rattle.state.specs.View.{tables}
use Rattle.calls.proofs.ActLaws as A
use Rattle.calls.proofs.link_tested.Goals as goal

pub returns-in-Err : goal.returns-in-Err
returns-in-Err c =
    let t = tables c.args.members.now c.args.places.now c.args.notices.now in
    A.refused c.args.h t c.requires (link c.args.l) c.in-Err.why _ 0 _ c.in-Err.ensures c.number.ensures refl refl c.say.ensures

pub returns : goal.returns
returns c =
    let t = tables c.args.members.now c.args.places.now c.args.notices.now in
    A.linked c.args.h t c.requires c.args.l _ _ (sym c.in_default.ensures) refl c.say-2.ensures
