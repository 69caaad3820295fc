-- The worked examples, computed by the checker.
use Prim.Native.Nat.{ℕ, ◌+◌}
use native.Mathlib.Omega.{arith}
use mathlib.Core.Path.{◌≡◌, refl, sym, ap, ◌∙◌, subst}
use mathlib.Core.Bool.{true, false}
use mathlib.Core.Logic.{inl}
use mathlib.Core.List.{List, [], ◌∷◌, map, ◌++◌}
use mathlib.Core.Option.{none, some}
use lib.ListN.{replicate}
use Rattle.rules.specs.Words.{upto}
use Rattle.rules.specs.Model.{Connection, State, offer, tick, figures}
use Rattle.rules.specs.Admission.{link_within, level_within, burst, stamped, figures_within, owned, stands, average_count, count, reservation, stand_by_on, goes_early, ahead, cost, windowed, windows_within, window, conditions, charge_time, level_sum, excess, level_test}
use Rattle.rules.specs.Service.{earliest, next_eligibility, untimely, remember, Spaced}
use Rattle.rules.specs.SoundState.{settles, Sound}
use Rattle.rules.specs.SoundTest.{latest_by_gap, latest, latest_early, nothing_used, admissions_sound, rows_sound, notices_sound, line_sound, sound}
use Rattle.rules.specs.Calls.{heard, too_far, verdicts, answer}
use Rattle.rules.specs.Runs.{Departure, History, nothing_yet, run, own_departures, bound_of, Exchange, exchanges, asked_of}
use Rattle.rules.specs.TwoHubs.{Carries}
use Rattle.rules.specs.Examples.{gap_broken_calls, longer_bound, table, silences, averages, closings, stamps, ALongerBoundCanFailToo, ABrokenGapCanBeToldApart, WorkedExamples, WorkedSilences, WorkedAverages, WorkedClosings, WorkedStamps, stamps_broken_calls, BrokenStampsCanBeToldApart, hub_1, hub_2, ARowOfTwo, before_early, freed_early, behind_early, too_early, FreedTooEarlyIsLate, LeftMustBeEligible, said_of_stamp, early_departures, WorkedStandBy, sent_twice, turned_off, Verdict1ByTheSetting, early_hub_1, early_hub_2, EarlyBeforeItsStamp}
use Rattle.rules.proofs.Figures.{never_off}
use Rattle.rules.proofs.SoundExact.{exact}
use Rattle.rules.proofs.Quick.{quick_from, quick_run, fresh_sound, quick_seen, quick_all, quick_exchanges, quick_departures, quick_now}

pub worked_examples : WorkedExamples
unfolding upto link_within level_within burst stamped figures_within owned stands average_count count reservation stand_by_on goes_early ahead cost windowed windows_within window conditions charge_time level_sum excess level_test earliest next_eligibility untimely remember heard too_far quick_seen
worked_examples = quick_all table ∙ refl

pub a_longer_bound_can_fail_too : ALongerBoundCanFailToo
unfolding upto link_within level_within burst stamped figures_within owned stands average_count count reservation stand_by_on goes_early ahead cost windowed windows_within window conditions charge_time level_sum excess level_test earliest next_eligibility untimely remember heard too_far quick_seen
a_longer_bound_can_fail_too = quick_all longer_bound ∙ refl

pub worked_silences : WorkedSilences
unfolding upto link_within level_within burst stamped figures_within owned stands average_count count reservation stand_by_on goes_early ahead cost windowed windows_within window conditions charge_time level_sum excess level_test earliest next_eligibility untimely remember heard too_far quick_seen
worked_silences = quick_all silences ∙ refl

pub worked_averages : WorkedAverages
unfolding upto link_within level_within burst stamped figures_within owned stands average_count count reservation stand_by_on goes_early ahead cost windowed windows_within window conditions charge_time level_sum excess level_test earliest next_eligibility untimely remember heard too_far quick_seen
worked_averages = quick_all averages ∙ refl

pub worked_closings : WorkedClosings
unfolding upto link_within level_within burst stamped figures_within owned stands average_count count reservation stand_by_on goes_early ahead cost windowed windows_within window conditions charge_time level_sum excess level_test earliest next_eligibility untimely remember heard too_far quick_seen
worked_closings = quick_all closings ∙ refl

-- the state in which number 0 is freed too early is sound, so the quick answers are the answers
early_sound : Sound (freed_early (run before_early)).now
unfolding upto link_within level_within burst stamped figures_within owned stands average_count count reservation stand_by_on goes_early ahead cost windowed windows_within window conditions charge_time level_sum excess level_test earliest next_eligibility untimely remember heard too_far settles latest_by_gap latest latest_early nothing_used admissions_sound rows_sound notices_sound line_sound sound
early_sound = (exact (freed_early (run before_early)).now).0 (ap (λ (h : History). sound (freed_early h).now) (quick_run before_early nothing_yet fresh_sound) ∙ refl)

too_early_is : too_early ≡ quick_from (freed_early (quick_from nothing_yet before_early)) behind_early
too_early_is =
    quick_run behind_early (freed_early (run before_early)) early_sound
    ∙ ap (λ (h : History). quick_from (freed_early h) behind_early) (quick_run before_early nothing_yet fresh_sound)

pub freed_too_early_is_late : FreedTooEarlyIsLate
unfolding upto link_within level_within burst stamped figures_within owned stands average_count count reservation stand_by_on goes_early ahead cost windowed windows_within window conditions charge_time level_sum excess level_test earliest next_eligibility untimely remember heard too_far
freed_too_early_is_late = (
  ap (λ (h : History). map (λ (d : Departure). d.finish) h.departed) (quick_run before_early nothing_yet fresh_sound) ∙ refl,
  ap (λ (h : History). h.now.clock) too_early_is ∙ refl,
  ap (λ (h : History). h.now.held) too_early_is ∙ refl,
  ap (λ (h : History). map (λ (d : Departure). d.finish) h.departed) (quick_run (before_early ++ behind_early) nothing_yet fresh_sound) ∙ refl,
)

pub left_must_be_eligible : LeftMustBeEligible
unfolding burst stamped owned stands average_count count reservation stand_by_on goes_early earliest next_eligibility remember heard too_far Spaced
left_must_be_eligible = ((omega arith, refl, omega arith, (λ _. refl, tt)), refl, λ h. omega (arith, h.3.0 (omega arith)))

pub worked_stamps : WorkedStamps
unfolding upto link_within level_within burst stamped figures_within owned stands average_count count reservation stand_by_on goes_early ahead cost windowed windows_within window conditions charge_time level_sum excess level_test earliest next_eligibility untimely remember heard too_far quick_seen
worked_stamps = quick_all stamps ∙ refl

pub a_broken_gap_can_be_told_apart : ABrokenGapCanBeToldApart
unfolding upto link_within level_within burst stamped figures_within owned stands average_count count reservation stand_by_on goes_early ahead cost windowed windows_within window conditions charge_time level_sum excess level_test earliest next_eligibility untimely remember heard too_far
a_broken_gap_can_be_told_apart = (quick_exchanges 0 (gap_broken_calls []) ∙ refl, quick_exchanges 0 (gap_broken_calls (offer 1 4 71 none ∷ [])) ∙ refl)

pub broken_stamps_can_be_told_apart : BrokenStampsCanBeToldApart
unfolding upto link_within level_within burst stamped figures_within owned stands average_count count reservation stand_by_on goes_early ahead cost windowed windows_within window conditions charge_time level_sum excess level_test earliest next_eligibility untimely remember heard too_far
broken_stamps_can_be_told_apart = (quick_exchanges 0 (stamps_broken_calls []) ∙ refl, quick_exchanges 0 (stamps_broken_calls (offer 1 2 71 none ∷ [])) ∙ refl)

figures_1 : figures (run hub_1).now 0 ≡ record { level = 1; gap = 4; size = 1; window = 0; average = 0; kind = 0; allowance = 0 }
unfolding upto link_within level_within burst stamped figures_within owned stands average_count count reservation stand_by_on goes_early ahead cost windowed windows_within window conditions charge_time level_sum excess level_test earliest next_eligibility untimely remember heard too_far
figures_1 = ap (λ (s : State). figures s 0) (quick_now hub_1) ∙ refl

figures_2 : figures (run hub_2).now 0 ≡ record { level = 1; gap = 4; size = 1; window = 0; average = 0; kind = 1; allowance = 5 }
unfolding upto link_within level_within burst stamped figures_within owned stands average_count count reservation stand_by_on goes_early ahead cost windowed windows_within window conditions charge_time level_sum excess level_test earliest next_eligibility untimely remember heard too_far
figures_2 = ap (λ (s : State). figures s 0) (quick_now hub_2) ∙ refl

bound_1 : bound_of (run hub_1).now 0 ≡ 4
unfolding upto link_within level_within burst stamped figures_within owned stands average_count count reservation stand_by_on goes_early ahead cost windowed windows_within window conditions charge_time level_sum excess level_test earliest next_eligibility untimely remember heard too_far
bound_1 = ap (λ (s : State). bound_of s 0) (quick_now hub_1) ∙ refl

left_1 : own_departures 0 hub_1 ≡ record { what = record { connection = 0; len = 1; tag = 71; arrival = 0; eligibility = 0 }; finish = 1 } ∷ []
unfolding upto link_within level_within burst stamped figures_within owned stands average_count count reservation stand_by_on goes_early ahead cost windowed windows_within window conditions charge_time level_sum excess level_test earliest next_eligibility untimely remember heard too_far
left_1 = quick_departures 0 hub_1 ∙ refl

told_2 : exchanges 0 hub_2 ≡ record { asked = record { at = 2; len = 1; tag = 71; stamp = some 0 }; verdict = 0; eligibility = 5 } ∷ []
unfolding upto link_within level_within burst stamped figures_within owned stands average_count count reservation stand_by_on goes_early ahead cost windowed windows_within window conditions charge_time level_sum excess level_test earliest next_eligibility untimely remember heard too_far
told_2 = quick_exchanges 0 hub_2 ∙ refl

second : stamped (record { level = 1; gap = 4; size = 1; window = 0; average = 0; kind = 1; allowance = 5 }) ≡ true
unfolding stamped
second = refl

off_1 : stand_by_on (quick_from nothing_yet hub_1).now.link ≡ false
unfolding upto link_within level_within burst stamped figures_within owned stands average_count count reservation stand_by_on goes_early ahead cost windowed windows_within window conditions charge_time level_sum excess level_test earliest next_eligibility untimely remember heard too_far
off_1 = refl

pub a_row_of_two : ARowOfTwo
a_row_of_two = (
  record {
    never_early = never_off (run hub_1).now.link (figures (run hub_1).now 0) (ap (λ (s : State). stand_by_on s.link) (quick_now hub_1) ∙ off_1);
    second_kind = ap stamped figures_2 ∙ second;
    same_gap = ap (λ (x : Connection). x.gap) figures_2 ∙ sym (ap (λ (x : Connection). x.gap) figures_1);
    same_size = ap (λ (x : Connection). x.size) figures_2 ∙ sym (ap (λ (x : Connection). x.size) figures_1);
    allowance = ap (λ (x : Connection). x.allowance) figures_2 ∙ sym (ap (λ (n : ℕ). n + 1) bound_1);
  },
  subst (λ (ds : List Departure). Carries 1 ds (asked_of 0 hub_2)) (sym left_1)
      (subst (λ (es : List Exchange). Carries 1 (record { what = record { connection = 0; len = 1; tag = 71; arrival = 0; eligibility = 0 }; finish = 1 } ∷ []) (map (λ (e : Exchange). e.asked) es)) (sym told_2)
      (inl (record { after_finish = omega arith; within_delay = omega arith; same_len = refl; same_tag = refl; stamp = refl }, tt))),
  ap (map (λ (e : Exchange). e.eligibility)) told_2,
)

pub worked_stand_by : WorkedStandBy
unfolding upto link_within level_within burst stamped figures_within owned stands average_count count reservation stand_by_on goes_early ahead cost windowed windows_within window conditions charge_time level_sum excess level_test earliest next_eligibility untimely remember heard too_far quick_seen
worked_stand_by = quick_all early_departures ∙ refl

pub verdict_1_by_the_setting : Verdict1ByTheSetting
unfolding upto link_within level_within burst stamped figures_within owned stands average_count count reservation stand_by_on goes_early ahead cost windowed windows_within window conditions charge_time level_sum excess level_test earliest next_eligibility untimely remember heard too_far settles latest_by_gap latest latest_early nothing_used admissions_sound rows_sound notices_sound line_sound sound verdicts
verdict_1_by_the_setting =
    ap (λ (s : State). map (λ (r : State). (answer tick r).verdict) (s ∷ turned_off s ∷ [])) (quick_now (sent_twice 1 ++ replicate 4 tick)) ∙ refl

abbrev early_left : List Departure
early_left =
    record { what = record { connection = 0; len = 1; tag = 71; arrival = 0; eligibility = 0 }; finish = 1 }
    ∷ record { what = record { connection = 0; len = 1; tag = 72; arrival = 1; eligibility = 4 }; finish = 2 } ∷ []

left_early : own_departures 0 early_hub_1 ≡ early_left
unfolding upto link_within level_within burst stamped figures_within owned stands average_count count reservation stand_by_on goes_early ahead cost windowed windows_within window conditions charge_time level_sum excess level_test earliest next_eligibility untimely remember heard too_far
left_early = quick_departures 0 early_hub_1 ∙ refl

told_early : exchanges 0 early_hub_2 ≡ said_of_stamp 2 71 0 0 5 ∷ said_of_stamp 3 72 4 17 0 ∷ []
unfolding upto link_within level_within burst stamped figures_within owned stands average_count count reservation stand_by_on goes_early ahead cost windowed windows_within window conditions charge_time level_sum excess level_test earliest next_eligibility untimely remember heard too_far
told_early = quick_exchanges 0 early_hub_2 ∙ refl

pub early_before_its_stamp : EarlyBeforeItsStamp
early_before_its_stamp = (
  subst (λ (ds : List Departure). Carries 1 ds (asked_of 0 early_hub_2)) (sym left_early)
      (subst (λ (es : List Exchange). Carries 1 early_left (map (λ (e : Exchange). e.asked) es)) (sym told_early)
      (inl (
        record { after_finish = omega arith; within_delay = omega arith; same_len = refl; same_tag = refl; stamp = refl },
        inl (record { after_finish = omega arith; within_delay = omega arith; same_len = refl; same_tag = refl; stamp = refl }, tt),
      ))),
  ap (map (λ (e : Exchange). e.verdict)) told_early,
)
