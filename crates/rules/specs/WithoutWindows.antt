-- What document 02, R-12, amends, as it is on a link without windows: `WithoutWindows` (Before) and `WindowsAtTheBounds` (Promises) hold it against the rules.
use Rattle.std.specs.Prelude.{ℕ, zero, suc, ◌+◌, ◌-◌, Bool, cond, not, ◌&&◌, List, [], ◌∷◌, leb, ltb, eqb}
use Rattle.rules.specs.Words.{within}
use Rattle.rules.specs.Limits.{max_levels, max_largest, max_silence, max_connections, max_reserved}
use Rattle.rules.specs.Model.{Link, Connection, State, Short, no_short}
use Rattle.rules.specs.Admission.{rising, cost, level_within, figures_within, free_number, joining, bound, reserved, load}
use Rattle.rules.specs.SoundTest.{sound}

-- ---- the limits of a link

abbrev pub bounds_link_within : Link → Bool
bounds_link_within l =
    within 1 max_levels l.levels
    && (within 1 max_largest l.largest && (leb l.silence max_silence && (leb l.early 1 && rising (cost l l.largest) l.levels l.bounds)))

-- ---- "The level test": the sum of level m within d, with S added, is at most d

unfoldable pub bounds_sum : Link → List Connection → ℕ → ℕ
bounds_sum l cs m = load l cs m (bound l m) + cost l l.largest

-- the lowest level whose sum is above its bound, and by how many units (document 02, R-2): the k levels from m on
abbrev pub bounds_from : Link → List Connection → ℕ → ℕ → Short
bounds_from l cs m zero = no_short
bounds_from l cs m (suc k) =
    cond (leb (bounds_sum l cs m) (bound l m)) (bounds_from l cs (suc m) k) (record { level = m; units = bounds_sum l cs m - bound l m })

unfoldable pub bounds_test : Link → List Connection → Short
bounds_test l cs = bounds_from l cs 1 l.levels

-- ---- the verdicts of an admission

abbrev pub bounds_verdicts : Connection → State → List (ℕ × Bool)
bounds_verdicts x s =
    (1, not (sound s))
    ∷ (2, eqb s.link.levels 0)
    ∷ (5, not (level_within s.link x))
    ∷ (6, not (figures_within s.link x))
    ∷ (7, leb max_connections (free_number s.connections))
    ∷ (8, not (eqb (bounds_test s.link (joining s.connections x)).level 0))
    ∷ (9, ltb max_reserved (reserved s.link (joining s.connections x))) ∷ []
