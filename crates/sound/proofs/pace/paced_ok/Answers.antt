use Rattle.sound.proofs.PaceLaws as L
use Rattle.sound.proofs.PartLaws as S
use Rattle.line_tests.proofs.CountLaws as K
use Rattle.rules.proofs.Figures as F
use native.Mathlib.Omega.{arith}
use mathlib.Core.Path.{refl, ◌∙◌}
use lib.ListN.{length}
use Rattle.state.specs.View.{tables}
use Rattle.sound.proofs.pace.paced_ok.Goals as goal

pub count_rows-requires : goal.count_rows-requires
count_rows-requires c =
    (record { few_rows = c.requires.held_value; known = L.named c.args.members.now c.args.places.table.now c.requires.members_value.1 }, K.counts_none length refl)

pub queues_ok-requires : goal.queues_ok-requires
queues_ok-requires c = record { seen_value = c.count_rows.ensures; members_value = c.requires.members_value }

pub each_closed_ok-requires : goal.each_closed_ok-requires
each_closed_ok-requires c =
    (c.requires.members_value.0, c.count_rows.ensures.size, omega (arith, F.charge_le c.args.h.link c.requires.members_value.2.link_in))

pub returns-then-queues_ok : goal.returns-then-queues_ok
returns-then-queues_ok c =
    λ q.
    S.both_go (c.queues_ok.ensures q) c.if-queues_ok.true
    (c.each_closed_ok.ensures ∙ L.closed_all c.args.h (tables c.args.members.now c.args.places.table.now q) c.requires.members_value.1 _ c.count_rows.ensures)

pub returns-else-queues_ok : goal.returns-else-queues_ok
returns-else-queues_ok c = λ q. S.both_stop _ (c.queues_ok.ensures q) c.if-queues_ok.false
