use mathlib.Core.Path.{refl}
use Rattle.rules.specs.Model.{offer}
use Rattle.tables.specs.Options.{option_in}
use Rattle.state.specs.View.{tables}
use Rattle.calls.proofs.ActLaws as A
use Rattle.calls.proofs.offer_tested.Goals as goal

pub returns-in-Err : goal.returns-in-Err
returns-in-Err c =
    let t = tables c.args.members.now c.args.places.now c.args.notices.now in
    A.refused c.args.h t c.requires (offer c.args.c c.args.len c.args.tag (option_in c.args.stamp)) c.in-Err.why _ 0 _ (c.in-Err.ensures c.args.tag) c.number.ensures refl refl c.say.ensures
