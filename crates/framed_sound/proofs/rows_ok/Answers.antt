use Rattle.std.proofs.Common.{rules, tests, refl}
use Rattle.frames.specs.SoundTest.{row_sound}
use Rattle.shares.specs.Shares.{shares_in}
use Rattle.tables.proofs.AllRows.{each_of_all}
use Rattle.framed_sound.proofs.rows_ok.Goals as goal

pub returns : goal.returns
returns c =
    let a = c.args in
    each_of_all (row_sound a.h.link (shares_in a.shares.table.now) a.h.clock) a.places.table.now c.len.ensures refl c.all.ensures.ran (λ x b q k. search (rules, tests))
