use Rattle.tables.specs.Lent.{tables}
use mathlib.Core.Path.{refl}
use Rattle.rules.specs.Model.{link}
use Rattle.either_line.specs.Line.{link_levels}
use Rattle.both.proofs.SoundLaws.{are_set, none_set, hub_sound}
use Rattle.both.proofs.DoesLaws.{by_told, levels_refused}
use Rattle.both.proofs.link_levels.Goals as goal

pub link_tested-told-requires : goal.link_tested-told-requires
link_tested-told-requires c =
    let t = tables c.args.members.now c.args.places.now c.args.notices.now in
    hub_sound c.args.h t c.requires (none_set c.args.h c.if-h-eq0.true)

pub returns-then-h-eq0 : goal.returns-then-h-eq0
returns-then-h-eq0 c =
    let t = tables c.args.members.now c.args.places.now c.args.notices.now in
    by_told (link_levels c.args.l) c.args.h t c.requires (none_set c.args.h c.if-h-eq0.true) (link c.args.l) refl _ _ c.link_tested-told.ensures _ c.by_levels.ensures

pub returns : goal.returns
returns c =
    let t = tables c.args.members.now c.args.places.now c.args.notices.now in
    levels_refused c.args.h t c.requires (are_set c.args.h c.if-h-eq0.false) c.args.l _ c.say.ensures
