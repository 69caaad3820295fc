-- The worked examples of the finer test, computed by the checker.
use mathlib.Core.Path.{refl, ◌∙◌}
use Rattle.rules.specs.Words.{upto}
use Rattle.rules.specs.Admission.{link_within, level_within, burst, stamped, figures_within, owned, stands, average_count, count, reservation, stand_by_on, goes_early, ahead, cost, windowed, windows_within, window, conditions, charge_time, level_sum, excess, level_test}
use Rattle.rules.specs.Service.{earliest, next_eligibility, untimely, remember, expired, cleared}
use Rattle.rules.specs.Calls.{heard, too_far}
use Rattle.rules.specs.WorkedWindows.{window_limits, finer, WorkedWindows, WorkedExcesses, window_charges, WorkedWindowCharges, shorter_view_holds, AShorterViewBreaksThePromise, betas_hold, NoWBreaksThePromise, largest_left_out_holds, NoLargestBreaksThePromise, AChargeOfDBreaksThePromise}
use Rattle.rules.proofs.Quick.{quick_seen, quick_all}

pub worked_windows : WorkedWindows
unfolding upto link_within level_within burst stamped figures_within owned stands average_count count reservation stand_by_on goes_early ahead cost windowed windows_within window conditions charge_time level_sum excess level_test earliest next_eligibility untimely remember heard too_far quick_seen
worked_windows = (quick_all window_limits ∙ refl, quick_all finer ∙ refl)

pub worked_excesses : WorkedExcesses
unfolding upto burst average_count count cost windowed window conditions level_sum excess level_test
worked_excesses = (refl, refl, refl, refl, refl)

pub worked_window_charges : WorkedWindowCharges
unfolding upto link_within level_within burst stamped figures_within owned stands average_count count reservation stand_by_on goes_early ahead cost windowed windows_within window conditions charge_time level_sum excess level_test earliest next_eligibility untimely remember heard too_far quick_seen
worked_window_charges = quick_all window_charges ∙ refl

pub a_shorter_view_breaks_the_promise : AShorterViewBreaksThePromise
unfolding upto link_within level_within burst stamped figures_within owned stands average_count count reservation stand_by_on goes_early ahead cost windowed windows_within window conditions charge_time level_sum excess level_test earliest next_eligibility untimely remember heard too_far expired cleared shorter_view_holds
a_shorter_view_breaks_the_promise = (refl, refl, refl)

pub no_w_breaks_the_promise : NoWBreaksThePromise
unfolding upto link_within level_within burst stamped figures_within owned stands average_count count reservation stand_by_on goes_early ahead cost windowed windows_within window conditions charge_time level_sum excess level_test earliest next_eligibility untimely remember heard too_far expired cleared betas_hold
no_w_breaks_the_promise = (refl, refl, refl)

pub no_largest_breaks_the_promise : NoLargestBreaksThePromise
unfolding upto link_within level_within burst stamped figures_within owned stands average_count count reservation stand_by_on goes_early ahead cost windowed windows_within window conditions charge_time level_sum excess level_test earliest next_eligibility untimely remember heard too_far expired cleared largest_left_out_holds
no_largest_breaks_the_promise = (refl, refl, refl)

pub a_charge_of_d_breaks_the_promise : AChargeOfDBreaksThePromise
unfolding upto link_within level_within burst stamped figures_within owned stands average_count count reservation stand_by_on goes_early ahead cost windowed windows_within window conditions charge_time level_sum excess level_test earliest next_eligibility untimely remember heard too_far expired cleared
a_charge_of_d_breaks_the_promise = (refl, refl, refl)
