use Rattle.tables.specs.Lent.{tables}
use mathlib.Core.Path.{refl}
use Rattle.rules.specs.Model.{close as level_close}
use Rattle.either_line.specs.Line.{close}
use Rattle.both.proofs.SoundLaws.{are_set, none_set, hub_sound}
use Rattle.both.proofs.DoesLaws.{by_told, close_refused}
use Rattle.both.proofs.close.Goals as goal

pub close_tested-told-requires : goal.close_tested-told-requires
close_tested-told-requires c =
    let t = tables c.args.members.now c.args.places.now c.args.notices.now in
    hub_sound c.args.h t c.requires (none_set c.args.h c.if-h-eq0.true)

pub returns-then-h-eq0 : goal.returns-then-h-eq0
returns-then-h-eq0 c =
    let t = tables c.args.members.now c.args.places.now c.args.notices.now in
    by_told (close c.args.c) c.args.h t c.requires (none_set c.args.h c.if-h-eq0.true) (level_close c.args.c) refl _ _ c.close_tested-told.ensures _ c.by_levels.ensures

pub returns : goal.returns
returns c =
    let t = tables c.args.members.now c.args.places.now c.args.notices.now in
    close_refused c.args.h t c.requires (are_set c.args.h c.if-h-eq0.false) c.args.c _ c.say.ensures
