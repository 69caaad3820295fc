use Rattle.state.specs.View.{tables_formed}
use Rattle.sound.proofs.PartLaws as S
use mathlib.Core.Path.{ap}
use mathlib.Core.Bool.{not}
use Rattle.sound.proofs.tables_formed.Goals as goal

pub returns-then-not-places_formed : goal.returns-then-not-places_formed
unfolding tables_formed
returns-then-not-places_formed c = S.stops _ c.places_formed.ensures (ap not c.if-not-places_formed.true)

pub returns-then-not-members_formed : goal.returns-then-not-members_formed
unfolding tables_formed
returns-then-not-members_formed c =
    S.passes_on c.places_formed.ensures (ap not c.if-not-places_formed.false)
    (S.stops _ c.members_formed.ensures (ap not c.if-not-members_formed.true))

pub returns : goal.returns
unfolding tables_formed
returns c =
    S.passes_on c.places_formed.ensures (ap not c.if-not-places_formed.false)
    (S.passes_on c.members_formed.ensures (ap not c.if-not-members_formed.false) c.notices_formed.ensures)
