-- WHAT IS AS IT WAS: where a link, a connection or a state does not use what a request of document 02 brought, the rules are those from before it. Statements apart from their proofs: each is proved
-- in proofs/Results under the same name in small letters.
use Rattle.std.specs.Prelude.{ℕ, zero, suc, ◌+◌, ◌*◌, ◌-◌, ◌≤◌, ◌≡◌, Bool, false, cond, ◌&&◌, ◌↔◌, List, leb, length}
use Rattle.std.proofs.Math.Option.{Option, none, some}
use Rattle.rules.specs.Words.{within, upto, sum, first_number, All}
use Rattle.rules.specs.Limits.{max_levels, max_largest, max_allowance}
use Rattle.rules.specs.Model.{Link, Connection, Past, State, Call, offer, Short, no_short, no_windows, nth, figures}
use Rattle.rules.specs.Admission.{rising, cost, link_within, average_within, figures_within, stands, windowed, windows_within, bound, largest_bound, charge_time, count, reservation, stand_by_on, ahead, conditions, limit_at, level_sum, level_test, rounded_up}
use Rattle.rules.specs.Service.{next_eligibility, Spaced, chosen, early_at, stand_by, begins, wire, ticked}
use Rattle.rules.specs.SoundState.{Queue, Sound}
use Rattle.rules.specs.SoundLine.{PacketOn}
use Rattle.rules.specs.SoundTest.{latest_by_gap, latest}
use Rattle.rules.specs.Calls.{heard, answer}
use Rattle.rules.specs.WithoutAverage.{Plain, base_figures_within, base_count, base_eligibility, BaseSpaced, BaseQueue, MemoryKept}
use Rattle.rules.specs.WithoutStandBy.{only_link_within, only_start, OnlyQueue, OnlyInService, only_verdicts}
use Rattle.rules.specs.WithoutWindows.{bounds_link_within, bounds_sum, bounds_test}

-- ---- the silence (document 02, R-4): where a link asks for none, what a packet costs, the link's limits and the level test are document 01's own, and no
-- silence runs. First its formulas, each written out once

-- "Link, connections, places": 1 to 8 levels, S from 1 to its limit, bounds that rise strictly, the first at least S; the stand-by queue is off or on (document 02,
-- R-11), and windows are as R-12 says
abbrev pub base_within : Link → Bool
base_within l =
    within 1 max_levels l.levels
    && (within 1 max_largest l.largest && (leb l.early 1 && (rising l.largest l.levels l.bounds && windows_within l)))

-- "The level test": over all connections of levels 1 to m, d divided by X, rounded up, times size; add S
abbrev pub base_sum : Link → List Connection → ℕ → ℕ
base_sum l cs m = sum (length cs) (λ c. upto (nth cs c).level m (count (nth cs c) (bound l m) * (nth cs c).size)) + l.largest

-- .. the sum must be at most d: of the k levels from m on the lowest where it is not, and by how many units
abbrev pub base_short : Link → List Connection → ℕ → ℕ → Short
base_short l cs m zero = no_short
base_short l cs m (suc k) =
    cond (leb (base_sum l cs m) (bound l m)) (base_short l cs (suc m) k) (record { level = m; units = base_sum l cs m - bound l m })

-- a packet takes the line for its length; the link's limits are these, and, without windows, the level test, its sums, its level and its units
pub record AsInTheBase (l : Link) : Type 0 where
  pub cost_is : (len : ℕ) → cost l len ≡ len
  pub limits_are : link_within l ≡ base_within l
  pub sum_is : windowed l ≡ false → (cs : List Connection) (m : ℕ) → level_sum l cs m 0 ≡ base_sum l cs m
  pub test_is : windowed l ≡ false → (cs : List Connection) → level_test l cs ≡ base_short l cs 1 l.levels

-- in a sound state no silence is still to run, nor after any call on it; and a tick of any state leaves no longer one than it found
pub record NoSilenceRuns (s : State) : Type 0 where
  pub now : Sound s → s.silent ≡ 0
  pub after_a_call : (k : Call) → Sound s → (answer k s).next.silent ≡ 0
  pub after_a_tick : (ticked s).next.silent ≤ s.silent

abbrev pub WithoutSilence : Type 0
WithoutSilence = ((l : Link) → l.silence ≡ 0 → AsInTheBase l) × ((s : State) → s.link.silence ≡ 0 → NoSilenceRuns s)

-- ---- average rates (document 02, R-6)

-- a connection without an average has document 01's limits, count, eligibility and spacing, and its rows in a sound state, where the stand-by
-- queue is off, are as document 01 says, beside what is asked of the memory
abbrev pub WithoutAverage : Type 0
WithoutAverage =
    (c : Connection) → Plain c
    → ((l : Link) → figures_within l c ≡ base_figures_within l c)
    × ((w : ℕ) → count c w ≡ base_count c w)
    × ((h : Past) (now : ℕ) → next_eligibility c h now ≡ base_eligibility c h now)
    × ((es : List ℕ) → Spaced c es ↔ BaseSpaced c es)
    × ((t : ℕ) (h : Past) (es : List ℕ) → Queue c none t h es ↔ (BaseQueue c t h es × MemoryKept c t h es))

-- ---- a second hub behind the first (document 02, R-9)

-- a connection of the first kind is as it was: its limits, its reservation, how late its rows may be in a sound state, and who hears an offer without a
-- stamp. Its count, its spacing and its next eligibility do not look at the kind
abbrev pub FirstKind : Type 0
FirstKind =
    (c : Connection) → c.kind ≡ 0 → c.allowance ≡ 0
    → ((l : Link) → figures_within l c ≡ (base_figures_within l c && average_within c))
    × ((l : Link) → reservation l c ≡ count c (bound l c.level))
    × ((t : ℕ) (h : Past) → latest c t h ≡ latest_by_gap c t h)
    × ((s : State) (n : ℕ) → figures s n ≡ c → (heard s n none ≡ stands s n) × ((stamp : ℕ) → heard s n (some stamp) ≡ false))

-- a connection of the second kind
abbrev pub Second : Connection → Type 0
Second c = (c.kind ≡ 1) × (c.window ≡ 0) × (c.average ≡ 0)

-- its limits are document 01's and that of the allowance; its count, window / X rounded up; its reservation, (a + d) / X rounded up; its spacing; and its rows in a sound state: at most the allowance
-- beyond the clock, beside what is asked of the memory, which says that all rise by X. So it is whether the stand-by queue is on or off (document 02, R-11)
abbrev pub SecondKind : Type 0
SecondKind =
    (c : Connection) → Second c
    → ((l : Link) → figures_within l c ≡ (base_figures_within l c && leb c.allowance max_allowance))
    × ((w : ℕ) → count c w ≡ base_count c w)
    × ((l : Link) → reservation l c ≡ rounded_up (c.allowance + bound l c.level) c.gap)
    × ((es : List ℕ) → Spaced c es ↔ BaseSpaced c es)
    × ((l : Link) (t : ℕ) (h : Past) (es : List ℕ) → Queue c (ahead l c) t h es ↔ (MemoryKept c t h es × All (λ e. e ≤ t + c.allowance) es))

-- ---- the stand-by queue (document 02, R-11)

-- where it is off all is as it was: what an idle line takes, what a sound state asks of a connection's rows and of the packet in service, and the verdict of an offer
pub record AsWithoutStandBy (s : State) : Type 0 where
  pub line_is : (u q : ℕ) → begins (chosen s) (stand_by s) (wire s) u q ≡ only_start s u q
  pub rows_are : (c : Connection) (t : ℕ) (h : Past) (es : List ℕ) → Queue c (ahead s.link c) t h es ↔ OnlyQueue c t h es
  pub service_is : PacketOn (early_at s) s.clock (wire s) ↔ OnlyInService s.held s.serving s.to_go s.clock
  pub verdict_is : (c len tag : ℕ) (st : Option ℕ) → (answer (offer c len tag st) s).verdict ≡ first_number (only_verdicts c len st s)

-- .. and a link that does not ask for it is off, with the limits that it had
abbrev pub WithoutStandBy : Type 0
WithoutStandBy =
    ((l : Link) → l.early ≡ 0 → (stand_by_on l ≡ false) × (link_within l ≡ only_link_within l))
    × ((s : State) → stand_by_on s.link ≡ false → AsWithoutStandBy s)

-- ---- the finer test (document 02, R-12)

-- on a link without windows all is as it was: a level has one condition, document 01's sum is at most d; the test says what it said, and R-8's charge is the one
-- that it was
pub record AsWithoutWindows (l : Link) : Type 0 where
  pub one_condition : (m : ℕ) → conditions l m ≡ 1
  pub sum_is : (cs : List Connection) (m : ℕ) → level_sum l cs m 0 ≡ bounds_sum l cs m
  pub limit_is : (m : ℕ) → limit_at l m 0 ≡ bound l m
  pub test_is : (cs : List Connection) → level_test l cs ≡ bounds_test l cs
  pub charge_is : charge_time l ≡ largest_bound l

-- .. and one whose windows are all 0 has none, with the limits that it had
abbrev pub WithoutWindows : Type 0
WithoutWindows =
    ((l : Link) → l.windows ≡ no_windows → (windowed l ≡ false) × (link_within l ≡ bounds_link_within l))
    × ((l : Link) → windowed l ≡ false → AsWithoutWindows l)
