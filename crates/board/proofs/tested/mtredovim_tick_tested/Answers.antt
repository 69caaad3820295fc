use Rattle.tables.specs.Lent.{tables}
use Rattle.board.proofs.NumberLaws.{sound_long}
use Rattle.board.proofs.DoesLaws.{kept_sound, does}
use mathlib.Core.Path.{refl}
use Rattle.board.proofs.tested.mtredovim_tick_tested.Goals as goal

pub read_kept-requires : goal.read_kept-requires
read_kept-requires c =
    let a = c.args in
    let t = tables a.members.now a.places.now a.notices.now in
    sound_long a.line.now t c.requires

pub tick-told-requires : goal.tick-told-requires
tick-told-requires c =
    let a = c.args in
    let t = tables a.members.now a.places.now a.notices.now in
    kept_sound a.line.now t c.requires _ c.read_kept.ensures

pub put_kept-requires : goal.put_kept-requires
put_kept-requires c =
    let a = c.args in
    let t = tables a.members.now a.places.now a.notices.now in
    sound_long a.line.now t c.requires

pub returns : goal.returns
returns c =
    let a = c.args in
    let t = tables a.members.now a.places.now a.notices.now in
    let h = c.read_kept in
    let w = c.tick-told in
    does _ a.line.now t c.requires _ refl _ h.ensures w.result _ w.ensures _ _ _ refl c.departure_of.ensures c.put_kept.ensures
