use Rattle.steps.specs.Tie.{lent}
use mathlib.Core.Path.{sym, ◌∙◌}
use Rattle.replay.proofs.Standing.{not_sound, no_room, not_refused}
use Rattle.replay.proofs.refused.Goals as goal

pub returns-then-not-is_sound : goal.returns-then-not-is_sound
returns-then-not-is_sound c =
    let a = c.args in
    not_sound a.c (lent a.t.now) a.room (sym c.is_sound.ensures ∙ c.if-not-is_sound.true)

pub returns-then-room-lt-LONGEST_ANSWER : goal.returns-then-room-lt-LONGEST_ANSWER
returns-then-room-lt-LONGEST_ANSWER c =
    let a = c.args in
    no_room a.c (lent a.t.now) a.room (sym c.is_sound.ensures ∙ c.if-not-is_sound.false) c.if-room-lt-LONGEST_ANSWER.true

pub returns-else-room-lt-LONGEST_ANSWER : goal.returns-else-room-lt-LONGEST_ANSWER
returns-else-room-lt-LONGEST_ANSWER c =
    let a = c.args in
    not_refused a.c (lent a.t.now) a.room (sym c.is_sound.ensures ∙ c.if-not-is_sound.false) c.if-room-lt-LONGEST_ANSWER.false
