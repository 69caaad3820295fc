-- Who may come in: the limits, the window count, the reservation and the level test.
-- Document 01, "Link, connections, places" and "The level test"; document 02, R-2, R-4, R-6, R-8, R-9, R-11 and R-12.
use Rattle.std.specs.Prelude.{ℕ, zero, suc, ◌+◌, ◌*◌, ◌-◌, ◌/◌, ◌%◌, ◌≤◌, ◌<◌, min, max, Bool, true, false, cond, not, ◌&&◌, ◌||◌, List, [], ◌∷◌, leb, ltb, eqb, length, get_or, set}
use Rattle.std.proofs.Math.Option.{Option, none, some}
use Rattle.rules.specs.Words.{within, upto, sum}
use Rattle.rules.specs.Limits.{max_levels, max_largest, max_silence, max_bound, max_level_window, max_gap, max_window, max_allowance, max_remembered}
use Rattle.rules.specs.Model.{Link, Connection, State, Short, no_short, nth, closed_at}

-- ---- "Link, connections, places"

-- bounds that rise strictly from `low` on, n of them, none above its limit; past the n-th each is 0
abbrev pub rising : ℕ → ℕ → List ℕ → Bool
rising low zero [] = true
rising low zero (d ∷ ds) = eqb d 0 && rising low zero ds
rising low (suc n) [] = false
rising low (suc n) (d ∷ ds) = leb low d && (leb d max_bound && rising (suc d) n ds)

-- what a packet of a length takes of the line, in ticks: one unit goes in one tick, and then the silence follows (document 02, R-4)
unfoldable pub cost : Link → ℕ → ℕ
cost l len = len + l.silence

-- a link has windows, one for each level (document 02, R-12). As none is below its bound, the first is not 0 then; without windows each is 0
unfoldable pub windowed : Link → Bool
windowed l = ltb 0 (get_or l.windows 0 0)

-- n windows, "d at most w, w at most 32,768"; past the n-th each is 0
abbrev pub windows_from : ℕ → List ℕ → List ℕ → Bool
windows_from zero ds [] = true
windows_from zero ds (w ∷ ws) = eqb w 0 && windows_from zero ds ws
windows_from (suc n) ds [] = false
windows_from (suc n) [] (w ∷ ws) = false
windows_from (suc n) (d ∷ ds) (w ∷ ws) = leb d w && (leb w max_level_window && windows_from n ds ws)

-- one for each level, or none
unfoldable pub windows_within : Link → Bool
windows_within l = windows_from (cond (windowed l) l.levels 0) l.bounds l.windows

-- Link: 1 to 8 levels, S from 1 to its limit, a silence up to its own, the stand-by queue 0 or 1, off or on (document 02, R-11), the first bound at least S plus
-- the silence; and its windows, if it has them
unfoldable pub link_within : Link → Bool
link_within l =
    within 1 max_levels l.levels
    && (within 1 max_largest l.largest
    && (leb l.silence max_silence && (leb l.early 1 && (rising (cost l l.largest) l.levels l.bounds && windows_within l))))

-- Connection: level 1 to n
unfoldable pub level_within : Link → Connection → Bool
level_within l c = within 1 l.levels c.level

-- n, the packets that an averaging window I may hold: I divided by the average gap (document 02, R-6); 0 where a connection has no average
unfoldable pub burst : Connection → ℕ
burst c = c.window / c.average

-- no average: I and the average gap are 0. Else I up to its limit, the average gap at least X and a divisor of I, n from 1 to 16
abbrev pub average_within : Connection → Bool
average_within c =
    (eqb c.window 0 && eqb c.average 0)
    || (leb c.window max_window && (leb c.gap c.average && (eqb (c.window % c.average) 0 && within 1 max_remembered (burst c))))

-- a connection of the second kind, by stamps: each of its offers brings one (document 02, R-9). The first kind is regulated by its gap
unfoldable pub stamped : Connection → Bool
stamped c = eqb c.kind 1

-- the first kind has no allowance, and an average or none; the second has an allowance a up to its limit, and no average (document 02, R-9)
abbrev pub kind_within : Connection → Bool
kind_within c =
    (eqb c.kind 0 && (eqb c.allowance 0 && average_within c))
    || (eqb c.kind 1 && (leb c.allowance max_allowance && (eqb c.window 0 && eqb c.average 0)))

-- .. gap X from 1 to its limit, size from 1 to S, and what its kind asks
unfoldable pub figures_within : Link → Connection → Bool
figures_within l c = within 1 max_gap c.gap && (within 1 l.largest c.size && kind_within c)

-- whether number c has an owner, one that stands or one that is closed and still charged; a free number has no level
unfoldable pub owned : List Connection → ℕ → Bool
owned cs c = not (eqb (nth cs c).level 0)

-- it stands: it has an owner that is not closed (document 02, R-8)
unfoldable pub stands : State → ℕ → Bool
stands s c = owned s.connections c && not (closed_at s c)

-- "the lowest free number is given next"; where none is free, the number behind the last
abbrev pub free_number : List Connection → ℕ
free_number [] = 0
free_number (x ∷ cs) = cond (eqb x.level 0) 0 (suc (free_number cs))

-- the connections with a newcomer at that number
abbrev pub joining : List Connection → Connection → List Connection
joining cs x = set cs (free_number cs) x

-- the delay bound d of level m
abbrev pub bound : Link → ℕ → ℕ
bound l zero = 0
bound l (suc m) = get_or l.bounds m 0

-- its window w; d on a link without windows (document 02, R-12)
abbrev pub own_window : Link → ℕ → ℕ
own_window l zero = 0
own_window l (suc m) = get_or l.windows m 0

unfoldable pub window : Link → ℕ → ℕ
window l m = cond (windowed l) (own_window l m) (bound l m)

-- the largest bound: the last one
abbrev pub largest_bound : Link → ℕ
largest_bound l = bound l l.levels

-- the largest window: any one may be it
abbrev pub largest_of : List ℕ → ℕ
largest_of [] = 0
largest_of (w ∷ ws) = max w (largest_of ws)

-- how long a closed connection is charged past its last eligibility (document 02, R-8): the largest d; on a link with windows "the largest d plus the largest w" (R-12)
unfoldable pub charge_time : Link → ℕ
charge_time l = cond (windowed l) (largest_bound l + largest_of l.windows) (largest_bound l)

-- w divided by x, rounded up
abbrev pub rounded_up : ℕ → ℕ → ℕ
rounded_up w x = (w + (x - 1)) / x

-- what the average allows within w ticks: n for each whole window I, and for the rest the smaller of n and the rest divided by X, rounded up
unfoldable pub average_count : Connection → ℕ → ℕ
average_count c w = w / c.window * burst c + min (burst c) (rounded_up (w % c.window) c.gap)

-- how many packets of a connection may be eligible within w ticks: w divided by X, rounded up, or what the average allows where that is less
unfoldable pub count : Connection → ℕ → ℕ
count c w = cond (eqb (burst c) 0) (rounded_up w c.gap) (min (rounded_up w c.gap) (average_count c w))

-- Reservation: the count within d of the connection's level, in packets; of the second kind within a + d, as a packet may come a ticks before it is
-- eligible (document 02, R-9). The first kind has no allowance: a is 0
unfoldable pub reservation : Link → Connection → ℕ
reservation l c = count c (c.allowance + bound l c.level)

-- all reservations together
abbrev pub reserved : Link → List Connection → ℕ
reserved l cs = sum (length cs) (λ c. reservation l (nth cs c))

-- ---- the stand-by queue (document 02, R-11)

-- it is on
unfoldable pub stand_by_on : Link → Bool
stand_by_on l = eqb l.early 1

-- a connection's packets may go before they are eligible: it is on, and the connection is regulated by its gap
unfoldable pub goes_early : Link → Connection → Bool
goes_early l c = stand_by_on l && not (stamped c)

-- how far past the present tick an eligibility may lie while it is on, in ticks: reservation times X
abbrev pub distance : Link → Connection → ℕ
distance l c = reservation l c * c.gap

-- .. of a connection whose packets may go early; of another this does not limit it
unfoldable pub ahead : Link → Connection → Option ℕ
ahead l c = cond (goes_early l c) (some (distance l c)) none

-- ---- "The level test"

-- b over all connections of levels 1 to m, added up: the count within a window times size, each packet with its silence. The window by the connection's level
abbrev pub load_by : Link → List Connection → ℕ → (ℕ → ℕ) → ℕ
load_by l cs m w = sum (length cs) (λ c. upto (nth cs c).level m (count (nth cs c) (w (nth cs c).level) * cost l (nth cs c).size))

-- .. within one window for all of them
abbrev pub load : Link → List Connection → ℕ → ℕ → ℕ
load l cs m w = load_by l cs m (λ _. w)

-- the conditions of level m, in their order (document 02, R-12; source document 001, equation 6): number 0 is the w condition, number β + 1 that of β, "for every β
-- from 0 to w - 1". A link without windows has but number 0, with d for w: document 01's test
unfoldable pub conditions : Link → ℕ → ℕ
conditions l m = cond (windowed l) (suc (window l m)) 1

-- the window in which a connection of level v is counted: w at every level; for β it is β + 1 at level m, and "the smaller of d + β and w" at the more urgent ones
abbrev pub span : Link → ℕ → ℕ → ℕ → ℕ
span l m zero v = window l m
span l m (suc β) v = cond (eqb v m) (suc β) (min (bound l m + β) (window l m))

-- what the sum may reach: w, for β d + β
abbrev pub limit_at : Link → ℕ → ℕ → ℕ
limit_at l m zero = window l m
limit_at l m (suc β) = bound l m + β

-- the sum, with S added, which costs the line as any packet does
unfoldable pub level_sum : Link → List Connection → ℕ → ℕ → ℕ
level_sum l cs m i = load_by l cs m (span l m i) + cost l l.largest

-- every condition of level m holds
abbrev pub LevelHolds : Link → List Connection → ℕ → Type 0
LevelHolds l cs m = (i : ℕ) → i < conditions l m → level_sum l cs m i ≤ limit_at l m i

-- its first excess, among the n conditions from number i on: the units by which the first that fails is over; 0 where none does
abbrev pub excess_from : Link → List Connection → ℕ → ℕ → ℕ → ℕ
excess_from l cs m i zero = 0
excess_from l cs m i (suc n) =
    cond (leb (level_sum l cs m i) (limit_at l m i)) (excess_from l cs m (suc i) n) (level_sum l cs m i - limit_at l m i)

unfoldable pub excess : Link → List Connection → ℕ → ℕ
excess l cs m = excess_from l cs m 0 (conditions l m)

-- "the first failing level and its first excess, the w condition first, then β upward" (document 02, R-2 and R-12): the k levels from m on
abbrev pub short_from : Link → List Connection → ℕ → ℕ → Short
short_from l cs m zero = no_short
short_from l cs m (suc k) = cond (eqb (excess l cs m) 0) (short_from l cs (suc m) k) (record { level = m; units = excess l cs m })

-- every level 1 to n
unfoldable pub level_test : Link → List Connection → Short
level_test l cs = short_from l cs 1 l.levels

-- the test holds
abbrev pub passes : Link → List Connection → Bool
passes l cs = eqb (level_test l cs).level 0
