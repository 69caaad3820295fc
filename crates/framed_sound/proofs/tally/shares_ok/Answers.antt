use mathlib.Core.Path.{refl, ◌∙◌}
use lib.ListN.{length}
use Rattle.rules.specs.Words.{total}
use Rattle.frames.specs.Service.{newly}
use Rattle.framed_state.specs.View.{tables}
use Rattle.line_tests.proofs.CountLaws as K
use Rattle.framed_sound.proofs.TallyLaws as T
use Rattle.framed_sound.proofs.tally.shares_ok.Goals as goal

pub count_rows-requires : goal.count_rows-requires
count_rows-requires c = (c.requires.1.countable, K.counts_none length refl)

pub count_units-requires : goal.count_units-requires
count_units-requires c = (c.requires.1, K.counts_none (total (newly c.args.h.link c.args.h.clock)) refl)

pub returns : goal.returns
returns c =
    λ q.
    c.each_holds.ensures
    ∙ T.shares_read c.args.h (tables c.args.shares.table.now c.args.places.table.now q) _ _ c.requires.0 c.count_rows.ensures c.count_units.ensures
