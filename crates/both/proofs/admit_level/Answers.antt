use Rattle.tables.specs.Lent.{tables}
use mathlib.Core.Path.{refl}
use Rattle.rules.specs.Model.{admit}
use Rattle.either_line.specs.Line.{admit_level}
use Rattle.both.proofs.SoundLaws.{are_set, none_set, hub_sound}
use Rattle.both.proofs.DoesLaws.{by_told, level_refused}
use Rattle.both.proofs.admit_level.Goals as goal

pub admit_tested-told-requires : goal.admit_tested-told-requires
admit_tested-told-requires c =
    let t = tables c.args.members.now c.args.places.now c.args.notices.now in
    hub_sound c.args.h t c.requires (none_set c.args.h c.if-h-eq0.true)

pub returns-then-h-eq0 : goal.returns-then-h-eq0
returns-then-h-eq0 c =
    let t = tables c.args.members.now c.args.places.now c.args.notices.now in
    by_told (admit_level c.args.x) c.args.h t c.requires (none_set c.args.h c.if-h-eq0.true) (admit c.args.x) refl _ _ c.admit_tested-told.ensures _ c.by_levels.ensures

pub returns : goal.returns
returns c =
    let t = tables c.args.members.now c.args.places.now c.args.notices.now in
    level_refused c.args.h t c.requires (are_set c.args.h c.if-h-eq0.false) c.args.x _ c.say.ensures
