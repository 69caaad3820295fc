-- The worked examples, computed by the checker.
use mathlib.Core.Path.{refl}
use Rattle.rules.specs.Words.{upto}
use Rattle.rules.specs.SoundLine.{wire_sound}
use Rattle.frames.specs.Admission.{cost, framing_within, share_within, stands, frame_sum}
use Rattle.frames.specs.Service.{next_frame, newly}
use Rattle.frames.specs.SoundTest.{nothing_used, admissions_sound, rows_sound, in_turn_sound, sound}
use Rattle.frames.specs.Calls.{verdicts}
use Rattle.frames.specs.Examples.{seen, WorkedExamples, HalfRoundedUpCanGet12, MoreThanHalfCanBeToldApart}

pub worked_examples : WorkedExamples
unfolding upto wire_sound cost framing_within share_within stands frame_sum next_frame newly nothing_used admissions_sound rows_sound in_turn_sound sound verdicts seen
worked_examples = refl

pub half_rounded_up_can_get_12 : HalfRoundedUpCanGet12
unfolding upto wire_sound cost framing_within share_within stands frame_sum next_frame newly nothing_used admissions_sound rows_sound in_turn_sound sound verdicts
half_rounded_up_can_get_12 = refl

pub more_than_half_can_be_told_apart : MoreThanHalfCanBeToldApart
unfolding upto wire_sound cost framing_within share_within stands frame_sum next_frame newly nothing_used admissions_sound rows_sound in_turn_sound sound verdicts
more_than_half_can_be_told_apart = (refl, refl)
