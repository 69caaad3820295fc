use Rattle.tables.specs.Lent.{tables}
use mathlib.Core.Path.{refl, sym, ap}
use mathlib.Core.Logic.{inl}
use Rattle.rules.specs.declared.Link.{Link}
use Rattle.either_line.specs.Line.{link_levels}
use Rattle.board.proofs.NumberLaws.{sound_long}
use Rattle.board.proofs.DoesLaws.{kept_sound, does}
use Rattle.board.proofs.tested.mtredovim_link_tested.Goals as goal

pub read_kept-requires : goal.read_kept-requires
read_kept-requires c =
    let a = c.args in
    let t = tables a.members.now a.places.now a.notices.now in
    sound_long a.line.now t c.requires

pub link_levels-told-requires : goal.link_levels-told-requires
link_levels-told-requires c =
    let a = c.args in
    let t = tables a.members.now a.places.now a.notices.now in
    kept_sound a.line.now t c.requires _ c.read_kept.ensures

pub put_kept-requires : goal.put_kept-requires
put_kept-requires c =
    let a = c.args in
    let t = tables a.members.now a.places.now a.notices.now in
    sound_long a.line.now t c.requires

pub returns : goal.returns
returns c =
    let a = c.args in
    let t = tables a.members.now a.places.now a.notices.now in
    let g = c.link_of-l in
    let h = c.read_kept in
    let w = c.link_levels-told in
    does _ a.line.now t c.requires (link_levels g.result) (ap (λ (x : Link). inl (link_levels x)) (sym g.ensures)) _ h.ensures w.result _ w.ensures _ _ _ refl refl c.put_kept.ensures
