-- The level test in few steps, as code can afford it (document 02, R-12). It need not be believed: `QuickTestIsExact` (Promises)
-- says that it is the level test.
use Rattle.std.specs.Prelude.{ℕ, zero, suc, ◌+◌, ◌-◌, Bool, true, cond, ◌&&◌, List, leb, eqb}
use Rattle.rules.specs.Model.{Link, Connection, Short, no_short}
use Rattle.rules.specs.Admission.{bound, window, level_sum, excess_from}

-- whether the condition of each β below n holds, from the last one down. The sums rise with β: where the sum of β is at most d + β, so is that of each γ up to β, and
-- it is at most d + γ for each γ from sum - d on; those below are left. Each step takes one off the fuel and at least one off n
abbrev pub descend : Link → List Connection → ℕ → ℕ → ℕ → Bool
descend l cs m zero n = true
descend l cs m (suc fuel) zero = true
descend l cs m (suc fuel) (suc β) = leb (level_sum l cs m (suc β)) (bound l m + β) && descend l cs m fuel (level_sum l cs m (suc β) - bound l m)

-- level m holds: the w condition, and those of β below w - d, as no other decides
unfoldable pub quick_holds : Link → List Connection → ℕ → Bool
quick_holds l cs m = leb (level_sum l cs m 0) (window l m) && descend l cs m (window l m - bound l m) (window l m - bound l m)

-- its first excess: 0 where it holds, else by the conditions upward; the code finds the first that fails by halving (`first_over` in proofs/Finer)
unfoldable pub quick_excess : Link → List Connection → ℕ → ℕ
quick_excess l cs m = cond (quick_holds l cs m) 0 (excess_from l cs m 0 (suc (window l m - bound l m)))

-- the first failing level and its first excess: the k levels from m on
abbrev pub quick_from : Link → List Connection → ℕ → ℕ → Short
quick_from l cs m zero = no_short
quick_from l cs m (suc k) = let u = quick_excess l cs m in cond (eqb u 0) (quick_from l cs (suc m) k) (record { level = m; units = u })

unfoldable pub quick_test : Link → List Connection → Short
quick_test l cs = quick_from l cs 1 l.levels
