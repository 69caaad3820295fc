use Rattle.tables.specs.Lent.{tables}
use mathlib.Core.Path.{sym, ◌∙◌}
use Rattle.board.proofs.DoesLaws.{refuses}
use Rattle.board.proofs.mtredovim_close.Goals as goal

pub returns-then-not-is_sound : goal.returns-then-not-is_sound
returns-then-not-is_sound c =
    let a = c.args in
    let t = tables a.members.now a.places.now a.notices.now in
    let s = c.is_sound in
    refuses _ a.line.now t s.result s.ensures (c.if-not-is_sound.true)

pub mtredovim_close_tested-requires : goal.mtredovim_close_tested-requires
mtredovim_close_tested-requires c = sym c.is_sound.ensures ∙ c.if-not-is_sound.false

pub returns : goal.returns
returns c = c.mtredovim_close_tested.ensures
