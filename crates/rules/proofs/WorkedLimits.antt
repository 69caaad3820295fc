-- The table of limits and ties, computed by the checker.
use mathlib.Core.Path.{◌≡◌, refl, ap, ◌∙◌, subst}
use mathlib.Core.Bool.{true, false, not}
use mathlib.Core.List.{[], ◌∷◌}
use Rattle.rules.specs.Words.{upto}
use Rattle.rules.specs.Model.{Link, Answer, link, no_link, fresh}
use Rattle.rules.specs.Admission.{link_within, level_within, burst, stamped, figures_within, owned, stands, average_count, count, reservation, stand_by_on, goes_early, ahead, cost, windowed, windows_within, window, conditions, charge_time, level_sum, excess, level_test}
use Rattle.rules.specs.Service.{earliest, next_eligibility, untimely, remember}
use Rattle.rules.specs.SoundState.{settles, Sound}
use Rattle.rules.specs.SoundTest.{latest_by_gap, latest, latest_early, nothing_used, admissions_sound, rows_sound, notices_sound, line_sound, sound}
use Rattle.rules.specs.Calls.{heard, too_far}
use Rattle.rules.specs.WorkedLimits.{bare, charged, all_charged, free_0, holds_none, holds_one, holds_two, idle, many, reserved_2040, stamps_none, stamps_one, stamps_four, three, waits, wire, wire_a, AsWorked, link_limits, admission_limits, service_limits, close_limits, stamp_limits, not_sound, causes, ties, WorkedLimits, sent_at, stands_at, two_stand, goes_at, stamp_goes_at, three_early, stand_by_limits}
use Rattle.rules.proofs.Sums.{cond_is}
use Rattle.rules.proofs.SoundKept.{kept}
use Rattle.rules.proofs.SoundExact.{exact}
use Rattle.rules.proofs.Quick.{quick_is, quick_settle, fresh_sound, quick_outcome, quick_outcomes, refused_outcomes}

-- ---- whether the states are sound

on_fresh : sound fresh ≡ true
on_fresh = (exact fresh).1 fresh_sound

-- a link within its limits and nothing else: what a link leaves
on_link : (l : Link) → link_within l ≡ true → sound (bare l) ≡ true
on_link l e =
    (exact (bare l)).1
    (subst (λ (a : Answer). Sound a.next)
    (quick_is (link l) fresh on_fresh ∙ ap (quick_settle (link l) fresh) (cond_is 4 0 (ap not e)))
    (kept (link l) fresh fresh_sound))

on_a : sound (bare wire_a) ≡ true
unfolding link_within windowed windows_within cost
on_a = on_link wire_a refl

with_199 : sound (many 199) ≡ true
unfolding upto link_within level_within burst stamped figures_within owned average_count count reservation stand_by_on goes_early ahead cost windowed windows_within window conditions charge_time level_sum excess level_test earliest remember settles latest_by_gap latest latest_early nothing_used admissions_sound rows_sound notices_sound line_sound sound
with_199 = refl

with_200 : sound (many 200) ≡ true
unfolding upto link_within level_within burst stamped figures_within owned average_count count reservation stand_by_on goes_early ahead cost windowed windows_within window conditions charge_time level_sum excess level_test earliest remember settles latest_by_gap latest latest_early nothing_used admissions_sound rows_sound notices_sound line_sound sound
with_200 = refl

with_2040 : sound reserved_2040 ≡ true
unfolding upto link_within level_within burst stamped figures_within owned average_count count reservation stand_by_on goes_early ahead cost windowed windows_within window conditions charge_time level_sum excess level_test earliest remember settles latest_by_gap latest latest_early nothing_used admissions_sound rows_sound notices_sound line_sound sound
with_2040 = refl

none_7 : sound (holds_none 7) ≡ true
unfolding upto link_within level_within burst stamped figures_within owned average_count count reservation stand_by_on goes_early ahead cost windowed windows_within window conditions charge_time level_sum excess level_test earliest remember settles latest_by_gap latest latest_early nothing_used admissions_sound rows_sound notices_sound line_sound sound
none_7 = refl

one_7 : sound (holds_one 7) ≡ true
unfolding upto link_within level_within burst stamped figures_within owned average_count count reservation stand_by_on goes_early ahead cost windowed windows_within window conditions charge_time level_sum excess level_test earliest remember settles latest_by_gap latest latest_early nothing_used admissions_sound rows_sound notices_sound line_sound sound
one_7 = refl

two_7 : sound (holds_two 7) ≡ true
unfolding upto link_within level_within burst stamped figures_within owned average_count count reservation stand_by_on goes_early ahead cost windowed windows_within window conditions charge_time level_sum excess level_test earliest remember settles latest_by_gap latest latest_early nothing_used admissions_sound rows_sound notices_sound line_sound sound
two_7 = refl

waits_0 : sound (waits 7 0) ≡ true
unfolding upto link_within level_within burst stamped figures_within owned average_count count reservation stand_by_on goes_early ahead cost windowed windows_within window conditions charge_time level_sum excess level_test earliest remember settles latest_by_gap latest latest_early nothing_used admissions_sound rows_sound notices_sound line_sound sound
waits_0 = refl

waits_63 : sound (waits 7 63) ≡ true
unfolding upto link_within level_within burst stamped figures_within owned average_count count reservation stand_by_on goes_early ahead cost windowed windows_within window conditions charge_time level_sum excess level_test earliest remember settles latest_by_gap latest latest_early nothing_used admissions_sound rows_sound notices_sound line_sound sound
waits_63 = refl

waits_64 : sound (waits 7 64) ≡ true
unfolding upto link_within level_within burst stamped figures_within owned average_count count reservation stand_by_on goes_early ahead cost windowed windows_within window conditions charge_time level_sum excess level_test earliest remember settles latest_by_gap latest latest_early nothing_used admissions_sound rows_sound notices_sound line_sound sound
waits_64 = refl

none_before_end : sound (holds_none 3_999_999_999) ≡ true
unfolding upto link_within level_within burst stamped figures_within owned average_count count reservation stand_by_on goes_early ahead cost windowed windows_within window conditions charge_time level_sum excess level_test earliest remember settles latest_by_gap latest latest_early nothing_used admissions_sound rows_sound notices_sound line_sound sound
none_before_end = refl

none_at_end : sound (holds_none 4_000_000_000) ≡ true
unfolding upto link_within level_within burst stamped figures_within owned average_count count reservation stand_by_on goes_early ahead cost windowed windows_within window conditions charge_time level_sum excess level_test earliest remember settles latest_by_gap latest latest_early nothing_used admissions_sound rows_sound notices_sound line_sound sound
none_at_end = refl

a_at_end : sound (idle 4_000_000_000 wire_a [] [] [] []) ≡ true
unfolding upto link_within level_within burst stamped figures_within owned average_count count reservation stand_by_on goes_early ahead cost windowed windows_within window conditions charge_time level_sum excess level_test earliest remember settles latest_by_gap latest latest_early nothing_used admissions_sound rows_sound notices_sound line_sound sound
a_at_end = refl

still_charged : sound (charged 26) ≡ true
unfolding upto link_within level_within burst stamped figures_within owned average_count count reservation stand_by_on goes_early ahead cost windowed windows_within window conditions charge_time level_sum excess level_test earliest remember settles latest_by_gap latest latest_early nothing_used admissions_sound rows_sound notices_sound line_sound sound
still_charged = refl

numbers_charged : sound (all_charged 306) ≡ true
unfolding upto link_within level_within burst stamped figures_within owned average_count count reservation stand_by_on goes_early ahead cost windowed windows_within window conditions charge_time level_sum excess level_test earliest remember settles latest_by_gap latest latest_early nothing_used admissions_sound rows_sound notices_sound line_sound sound
numbers_charged = refl

with_free_0 : sound free_0 ≡ true
unfolding upto link_within level_within burst stamped figures_within owned average_count count reservation stand_by_on goes_early ahead cost windowed windows_within window conditions charge_time level_sum excess level_test earliest remember settles latest_by_gap latest latest_early nothing_used admissions_sound rows_sound notices_sound line_sound sound
with_free_0 = refl

stamps_none_7 : sound (stamps_none 7) ≡ true
unfolding upto link_within level_within burst stamped figures_within owned average_count count reservation stand_by_on goes_early ahead cost windowed windows_within window conditions charge_time level_sum excess level_test earliest remember settles latest_by_gap latest latest_early nothing_used admissions_sound rows_sound notices_sound line_sound sound
stamps_none_7 = refl

stamps_one_7 : sound (stamps_one 7 7) ≡ true
unfolding upto link_within level_within burst stamped figures_within owned average_count count reservation stand_by_on goes_early ahead cost windowed windows_within window conditions charge_time level_sum excess level_test earliest remember settles latest_by_gap latest latest_early nothing_used admissions_sound rows_sound notices_sound line_sound sound
stamps_one_7 = refl

stamps_far_7 : sound (stamps_one 7 13) ≡ true
unfolding upto link_within level_within burst stamped figures_within owned average_count count reservation stand_by_on goes_early ahead cost windowed windows_within window conditions charge_time level_sum excess level_test earliest remember settles latest_by_gap latest latest_early nothing_used admissions_sound rows_sound notices_sound line_sound sound
stamps_far_7 = refl

stamps_four_17 : sound (stamps_four 7) ≡ true
unfolding upto link_within level_within burst stamped figures_within owned average_count count reservation stand_by_on goes_early ahead cost windowed windows_within window conditions charge_time level_sum excess level_test earliest remember settles latest_by_gap latest latest_early nothing_used admissions_sound rows_sound notices_sound line_sound sound
stamps_four_17 = refl

stamps_none_at_end : sound (stamps_none 4_000_000_000) ≡ true
unfolding upto link_within level_within burst stamped figures_within owned average_count count reservation stand_by_on goes_early ahead cost windowed windows_within window conditions charge_time level_sum excess level_test earliest remember settles latest_by_gap latest latest_early nothing_used admissions_sound rows_sound notices_sound line_sound sound
stamps_none_at_end = refl

not_zero : sound (idle 1 no_link [] [] [] []) ≡ false
unfolding upto link_within level_within burst stamped figures_within owned average_count count reservation stand_by_on goes_early ahead cost windowed windows_within window conditions charge_time level_sum excess level_test earliest remember settles latest_by_gap latest latest_early nothing_used admissions_sound rows_sound notices_sound line_sound sound
not_zero = refl

none_beyond_end : sound (holds_none 4_000_000_001) ≡ false
unfolding upto link_within level_within burst stamped figures_within owned average_count count reservation stand_by_on goes_early ahead cost windowed windows_within window conditions charge_time level_sum excess level_test earliest remember settles latest_by_gap latest latest_early nothing_used admissions_sound rows_sound notices_sound line_sound sound
none_beyond_end = refl

over : sound (charged 27) ≡ false
unfolding upto link_within level_within burst stamped figures_within owned average_count count reservation stand_by_on goes_early ahead cost windowed windows_within window conditions charge_time level_sum excess level_test earliest remember settles latest_by_gap latest latest_early nothing_used admissions_sound rows_sound notices_sound line_sound sound
over = refl

stamp_far : sound (stamps_one 7 14) ≡ false
unfolding upto link_within level_within burst stamped figures_within owned average_count count reservation stand_by_on goes_early ahead cost windowed windows_within window conditions charge_time level_sum excess level_test earliest remember settles latest_by_gap latest latest_early nothing_used admissions_sound rows_sound notices_sound line_sound sound
stamp_far = refl

two_at_end : sound (holds_two 4_000_000_000) ≡ true
unfolding upto link_within level_within burst stamped figures_within owned average_count count reservation stand_by_on goes_early ahead cost windowed windows_within window conditions charge_time level_sum excess level_test earliest remember settles latest_by_gap latest latest_early nothing_used admissions_sound rows_sound notices_sound line_sound sound
two_at_end = refl

waits_0_at_end : sound (waits 4_000_000_000 0) ≡ true
unfolding upto link_within level_within burst stamped figures_within owned average_count count reservation stand_by_on goes_early ahead cost windowed windows_within window conditions charge_time level_sum excess level_test earliest remember settles latest_by_gap latest latest_early nothing_used admissions_sound rows_sound notices_sound line_sound sound
waits_0_at_end = refl

waits_64_at_end : sound (waits 4_000_000_000 64) ≡ true
unfolding upto link_within level_within burst stamped figures_within owned average_count count reservation stand_by_on goes_early ahead cost windowed windows_within window conditions charge_time level_sum excess level_test earliest remember settles latest_by_gap latest latest_early nothing_used admissions_sound rows_sound notices_sound line_sound sound
waits_64_at_end = refl

three_1 : sound (three (10 ∷ 10 ∷ 10 ∷ []) (0 ∷ 2 ∷ 1 ∷ []) []) ≡ true
unfolding upto link_within level_within burst stamped figures_within owned average_count count reservation stand_by_on goes_early ahead cost windowed windows_within window conditions charge_time level_sum excess level_test earliest remember settles latest_by_gap latest latest_early nothing_used admissions_sound rows_sound notices_sound line_sound sound
three_1 = refl

three_2 : sound (three (3 ∷ 10 ∷ 5 ∷ []) (0 ∷ 1 ∷ 2 ∷ []) []) ≡ true
unfolding upto link_within level_within burst stamped figures_within owned average_count count reservation stand_by_on goes_early ahead cost windowed windows_within window conditions charge_time level_sum excess level_test earliest remember settles latest_by_gap latest latest_early nothing_used admissions_sound rows_sound notices_sound line_sound sound
three_2 = refl

three_3 : sound (three (10 ∷ 11 ∷ 11 ∷ []) (1 ∷ 2 ∷ 0 ∷ []) []) ≡ true
unfolding upto link_within level_within burst stamped figures_within owned average_count count reservation stand_by_on goes_early ahead cost windowed windows_within window conditions charge_time level_sum excess level_test earliest remember settles latest_by_gap latest latest_early nothing_used admissions_sound rows_sound notices_sound line_sound sound
three_3 = refl

three_4 : sound (three (12 ∷ 12 ∷ 12 ∷ []) (0 ∷ 1 ∷ 2 ∷ []) (9 ∷ 8 ∷ 7 ∷ [])) ≡ true
unfolding upto link_within level_within burst stamped figures_within owned average_count count reservation stand_by_on goes_early ahead cost windowed windows_within window conditions charge_time level_sum excess level_test earliest remember settles latest_by_gap latest latest_early nothing_used admissions_sound rows_sound notices_sound line_sound sound
three_4 = refl

-- ---- the rows

sent_12 : sound (sent_at 12 17) ≡ true
unfolding upto link_within level_within burst stamped figures_within owned average_count count reservation stand_by_on goes_early ahead cost windowed windows_within window conditions charge_time level_sum excess level_test earliest remember settles latest_by_gap latest latest_early nothing_used admissions_sound rows_sound notices_sound line_sound sound
sent_12 = refl

sent_11 : sound (sent_at 11 17) ≡ true
unfolding upto link_within level_within burst stamped figures_within owned average_count count reservation stand_by_on goes_early ahead cost windowed windows_within window conditions charge_time level_sum excess level_test earliest remember settles latest_by_gap latest latest_early nothing_used admissions_sound rows_sound notices_sound line_sound sound
sent_11 = refl

sent_7 : sound (sent_at 7 17) ≡ true
unfolding upto link_within level_within burst stamped figures_within owned average_count count reservation stand_by_on goes_early ahead cost windowed windows_within window conditions charge_time level_sum excess level_test earliest remember settles latest_by_gap latest latest_early nothing_used admissions_sound rows_sound notices_sound line_sound sound
sent_7 = refl

stands_17 : sound (stands_at 1 7 17) ≡ true
unfolding upto link_within level_within burst stamped figures_within owned average_count count reservation stand_by_on goes_early ahead cost windowed windows_within window conditions charge_time level_sum excess level_test earliest remember settles latest_by_gap latest latest_early nothing_used admissions_sound rows_sound notices_sound line_sound sound
stands_17 = refl

two_16 : sound (two_stand 7 11 16) ≡ true
unfolding upto link_within level_within burst stamped figures_within owned average_count count reservation stand_by_on goes_early ahead cost windowed windows_within window conditions charge_time level_sum excess level_test earliest remember settles latest_by_gap latest latest_early nothing_used admissions_sound rows_sound notices_sound line_sound sound
two_16 = refl

two_7_17 : sound (two_stand 7 7 17) ≡ true
unfolding upto link_within level_within burst stamped figures_within owned average_count count reservation stand_by_on goes_early ahead cost windowed windows_within window conditions charge_time level_sum excess level_test earliest remember settles latest_by_gap latest latest_early nothing_used admissions_sound rows_sound notices_sound line_sound sound
two_7_17 = refl

goes_17 : sound (goes_at 1 7 17) ≡ true
unfolding upto link_within level_within burst stamped figures_within owned average_count count reservation stand_by_on goes_early ahead cost windowed windows_within window conditions charge_time level_sum excess level_test earliest remember settles latest_by_gap latest latest_early nothing_used admissions_sound rows_sound notices_sound line_sound sound
goes_17 = refl

sent_at_end : sound (sent_at 4_000_000_000 4_000_000_010) ≡ true
unfolding upto link_within level_within burst stamped figures_within owned average_count count reservation stand_by_on goes_early ahead cost windowed windows_within window conditions charge_time level_sum excess level_test earliest remember settles latest_by_gap latest latest_early nothing_used admissions_sound rows_sound notices_sound line_sound sound
sent_at_end = refl

early_1 : sound (three_early (12 ∷ 10 ∷ 13 ∷ []) (0 ∷ 1 ∷ 2 ∷ []) []) ≡ true
unfolding upto link_within level_within burst stamped figures_within owned average_count count reservation stand_by_on goes_early ahead cost windowed windows_within window conditions charge_time level_sum excess level_test earliest remember settles latest_by_gap latest latest_early nothing_used admissions_sound rows_sound notices_sound line_sound sound
early_1 = refl

early_2 : sound (three_early (13 ∷ 13 ∷ 13 ∷ []) (0 ∷ 2 ∷ 1 ∷ []) (9 ∷ [])) ≡ true
unfolding upto link_within level_within burst stamped figures_within owned average_count count reservation stand_by_on goes_early ahead cost windowed windows_within window conditions charge_time level_sum excess level_test earliest remember settles latest_by_gap latest latest_early nothing_used admissions_sound rows_sound notices_sound line_sound sound
early_2 = refl

sent_18 : sound (sent_at 7 18) ≡ false
unfolding upto link_within level_within burst stamped figures_within owned average_count count reservation stand_by_on goes_early ahead cost windowed windows_within window conditions charge_time level_sum excess level_test earliest remember settles latest_by_gap latest latest_early nothing_used admissions_sound rows_sound notices_sound line_sound sound
sent_18 = refl

stands_18 : sound (stands_at 1 7 18) ≡ false
unfolding upto link_within level_within burst stamped figures_within owned average_count count reservation stand_by_on goes_early ahead cost windowed windows_within window conditions charge_time level_sum excess level_test earliest remember settles latest_by_gap latest latest_early nothing_used admissions_sound rows_sound notices_sound line_sound sound
stands_18 = refl

two_17 : sound (two_stand 7 11 17) ≡ false
unfolding upto link_within level_within burst stamped figures_within owned average_count count reservation stand_by_on goes_early ahead cost windowed windows_within window conditions charge_time level_sum excess level_test earliest remember settles latest_by_gap latest latest_early nothing_used admissions_sound rows_sound notices_sound line_sound sound
two_17 = refl

off_13 : sound (stands_at 0 7 13) ≡ false
unfolding upto link_within level_within burst stamped figures_within owned average_count count reservation stand_by_on goes_early ahead cost windowed windows_within window conditions charge_time level_sum excess level_test earliest remember settles latest_by_gap latest latest_early nothing_used admissions_sound rows_sound notices_sound line_sound sound
off_13 = refl

off_8 : sound (goes_at 0 7 8) ≡ false
unfolding upto link_within level_within burst stamped figures_within owned average_count count reservation stand_by_on goes_early ahead cost windowed windows_within window conditions charge_time level_sum excess level_test earliest remember settles latest_by_gap latest latest_early nothing_used admissions_sound rows_sound notices_sound line_sound sound
off_8 = refl

stamp_8 : sound (stamp_goes_at 7 8) ≡ false
unfolding upto link_within level_within burst stamped figures_within owned average_count count reservation stand_by_on goes_early ahead cost windowed windows_within window conditions charge_time level_sum excess level_test earliest remember settles latest_by_gap latest latest_early nothing_used admissions_sound rows_sound notices_sound line_sound sound
stamp_8 = refl

-- facts of one row each, in order
infixr 35 ◌&◌
◌&◌ : {A B : Type 0} → A → B → A × B
a & b = (a, b)

link_limits_worked : AsWorked link_limits
unfolding upto link_within level_within burst stamped figures_within owned stands average_count count reservation stand_by_on goes_early ahead cost windowed windows_within window conditions charge_time level_sum excess level_test earliest next_eligibility untimely remember heard too_far quick_outcome
link_limits_worked =
    quick_outcomes link_limits
    (on_fresh & on_fresh & on_fresh & on_fresh & on_fresh & on_fresh & on_fresh & on_fresh & on_fresh & on_fresh & on_fresh & on_fresh & on_fresh &
    on_fresh & on_fresh & on_fresh & on_fresh & tt)
    ∙ refl

admission_limits_worked : AsWorked admission_limits
unfolding upto link_within level_within burst stamped figures_within owned stands average_count count reservation stand_by_on goes_early ahead cost windowed windows_within window conditions charge_time level_sum excess level_test earliest next_eligibility untimely remember heard too_far quick_outcome
admission_limits_worked =
    quick_outcomes admission_limits
    (on_a & on_a & on_a & on_a & on_a & on_a & on_a & on_a & on_a & on_a & on_a & on_a & on_a & on_link (wire 1 1 0 (33 ∷ [])) refl &
    on_link (wire 1 1 0 (33 ∷ [])) refl & on_a & on_a & with_199 & with_200 & on_link (wire 1 4 0 (8 ∷ [])) refl &
    on_link (wire 1 4 0 (7 ∷ [])) refl & on_link (wire 1 4 2 (12 ∷ [])) refl & on_link (wire 1 4 2 (11 ∷ [])) refl & with_2040 & with_2040 & tt)
    ∙ refl

service_limits_worked : AsWorked service_limits
unfolding upto link_within level_within burst stamped figures_within owned stands average_count count reservation stand_by_on goes_early ahead cost windowed windows_within window conditions charge_time level_sum excess level_test earliest next_eligibility untimely remember heard too_far quick_outcome
service_limits_worked =
    quick_outcomes service_limits
    (none_7 & none_7 & none_7 & none_7 & none_7 & one_7 & two_7 & waits_0 & waits_0 & waits_0 & waits_0 & waits_63 & waits_64 & none_before_end &
    none_before_end & none_before_end & none_at_end & none_at_end & none_at_end & a_at_end & tt)
    ∙ refl

close_limits_worked : AsWorked close_limits
unfolding upto link_within level_within burst stamped figures_within owned stands average_count count reservation stand_by_on goes_early ahead cost windowed windows_within window conditions charge_time level_sum excess level_test earliest next_eligibility untimely remember heard too_far quick_outcome
close_limits_worked =
    quick_outcomes close_limits
    (none_7 & none_7 & none_7 & one_7 & none_at_end & still_charged & still_charged & still_charged & still_charged & numbers_charged & with_free_0 & tt)
    ∙ refl

stamp_limits_worked : AsWorked stamp_limits
unfolding upto link_within level_within burst stamped figures_within owned stands average_count count reservation stand_by_on goes_early ahead cost windowed windows_within window conditions charge_time level_sum excess level_test earliest next_eligibility untimely remember heard too_far quick_outcome
stamp_limits_worked =
    quick_outcomes stamp_limits
    (on_a & on_a & on_a & on_a & stamps_none_7 & none_7 & stamps_none_7 & stamps_none_7 & stamps_none_7 & stamps_none_7 & stamps_one_7 & stamps_one_7 &
    stamps_far_7 & tt)
    ∙ refl

stand_by_limits_worked : AsWorked stand_by_limits
unfolding upto link_within level_within burst stamped figures_within owned stands average_count count reservation stand_by_on goes_early ahead cost windowed windows_within window conditions charge_time level_sum excess level_test earliest next_eligibility untimely remember heard too_far quick_outcome
stand_by_limits_worked =
    quick_outcomes stand_by_limits
    (on_fresh & on_fresh & sent_12 & sent_11 & sent_7 & stands_17 & two_16 & two_7_17 & goes_17 & two_16 & sent_at_end & early_1 & early_2 & tt)
    ∙ refl

not_sound_worked : AsWorked not_sound
not_sound_worked =
    refused_outcomes not_sound
    ((not_zero, refl) & (not_zero, refl) & (not_zero, refl) & (not_zero, refl) & (not_zero, refl) & (not_zero, refl) & (none_beyond_end, refl) &
    (over, refl) & (stamp_far, refl) & (sent_18, refl) & (stands_18, refl) & (two_17, refl) & (off_13, refl) & (off_8, refl) & (stamp_8, refl) & tt)
    ∙ refl

causes_worked : AsWorked causes
unfolding upto link_within level_within burst stamped figures_within owned stands average_count count reservation stand_by_on goes_early ahead cost windowed windows_within window conditions charge_time level_sum excess level_test earliest next_eligibility untimely remember heard too_far quick_outcome
causes_worked =
    quick_outcomes causes
    (on_fresh & on_fresh & on_fresh & on_fresh & on_fresh & on_a & on_a & on_a & with_200 & with_200 & with_2040 & two_7 & two_7 & two_at_end &
    stamps_none_7 & stamps_four_17 & stamps_none_at_end & waits_0_at_end & waits_64_at_end & tt)
    ∙ refl

ties_worked : AsWorked ties
unfolding upto link_within level_within burst stamped figures_within owned stands average_count count reservation stand_by_on goes_early ahead cost windowed windows_within window conditions charge_time level_sum excess level_test earliest next_eligibility untimely remember heard too_far quick_outcome
ties_worked =
    quick_outcomes ties
    (three_1 & three_2 & three_3 & three_4 & tt)
    ∙ refl

pub worked_limits : WorkedLimits
worked_limits = (link_limits_worked, admission_limits_worked, service_limits_worked, close_limits_worked, stamp_limits_worked, stand_by_limits_worked, not_sound_worked, causes_worked, ties_worked)
