use mathlib.Core.Path.{refl}
use Rattle.frames.specs.Model.{tick}
use Rattle.framed_state.specs.View.{tables}
use Rattle.framed_calls.proofs.ActLaws as A
use Rattle.framed_calls.proofs.tick_tested.Goals as goal

pub returns-in-Err : goal.returns-in-Err
returns-in-Err c =
    let t = tables c.args.shares.now c.args.places.now c.args.notices.now in
    A.refused c.args.h t c.requires tick c.in-Err.why _ 0 _ c.in-Err.ensures c.number.ensures refl refl c.say.ensures
