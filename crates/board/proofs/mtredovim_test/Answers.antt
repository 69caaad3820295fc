use mathlib.Core.Path.{sym, ◌∙◌}
use Rattle.board.proofs.mtredovim_test.Goals as goal

pub returns-then-is_sound : goal.returns-then-is_sound
returns-then-is_sound c = rw (sym c.is_sound.ensures ∙ c.if-is_sound.true)

pub returns : goal.returns
returns c = rw (sym c.is_sound.ensures ∙ c.if-is_sound.false)
