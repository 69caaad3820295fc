-- What the sums over connections rely on: every figure within its limits, so that nothing is lost in 64 bits; and what they add up to.
use Rattle.std.specs.Prelude.{ℕ, zero, suc, ◌+◌, ◌*◌, ◌<◌, ◌≤◌, min, ◌≡◌, true, false, cond, List, [], ◌∷◌, eqb, get_or}
use Rattle.rules.specs.declared.Link.{Link}
use Rattle.rules.specs.declared.Connection.{Connection}
use Rattle.rules.specs.Limits.{max_largest, max_silence, max_bound, max_connections}
use Rattle.rules.specs.Model.{Past, no_connection, nth}
use Rattle.rules.specs.Words.{upto}
use Rattle.rules.specs.Admission.{link_within, figures_within, owned, bound, count, cost, load, load_by, span, level_sum}

-- the link is within its limits; each number has an owner whose figures are, or is free, and then blank
pub record Within (l : Link) (cs : List Connection) : Type 0 where
  pub link_in : link_within l ≡ true
  pub figures_in : (c : ℕ) → owned cs c ≡ true → figures_within l (nth cs c) ≡ true
  pub blank_in : (c : ℕ) → owned cs c ≡ false → nth cs c ≡ no_connection

-- what a connection adds to a sum of level m, counted within w, and the most that this can be
abbrev pub share_of : Link → ℕ → ℕ → Connection → ℕ
share_of l m w x = upto x.level m (count x w * cost l x.size)

abbrev pub most_share : ℕ
most_share = max_bound * (max_largest + max_silence)

-- of a link's bounds that of level m
abbrev pub bound_in : List ℕ → ℕ → ℕ
bound_in ds zero = 0
bound_in ds (suc m) = get_or ds m 0

-- the sums of all levels, side by side, level 1 at place 0: the share of a connection in that at place k
abbrev pub share_at : Link → Connection → ℕ → ℕ
share_at l x k = share_of l (suc k) (bound l (suc k)) x

-- .. sums to which from place `low` on the shares of a connection were added
abbrev pub Added : Link → ℕ → Connection → List ℕ → List ℕ → Type 0
Added l low x before after = (k : ℕ) → low ≤ k → k < l.levels → (get_or after k 0 ≡ get_or before k 0 + share_at l x k) × (share_at l x k ≤ most_share)

-- .. and those over all connections
abbrev pub Loads : Link → ℕ → List Connection → List ℕ → Type 0
Loads l low cs sums = (k : ℕ) → low ≤ k → k < l.levels → (get_or sums k 0 ≡ load l cs (suc k) (bound l (suc k))) × (get_or sums k 0 ≤ max_connections * most_share)

-- what a connection adds to the sum of condition i of level m
abbrev pub share_in : Link → ℕ → ℕ → Connection → ℕ
share_in l m i x = share_of l m (span l m i x.level) x

-- the sums of the connections js are those of cs with the share of a newcomer x, in every condition
abbrev pub SumsWith : Link → List Connection → Connection → List Connection → Type 0
SumsWith l cs x js = (m i : ℕ) → m ≤ l.levels → level_sum l js m i ≡ load_by l cs m (span l m i) + share_in l m i x + cost l l.largest

-- what holds of any connections whose sums are these
abbrev pub Whichever : Link → List Connection → Connection → (List Connection → Type 0) → Type 0
Whichever l cs x P = (js : List Connection) → SumsWith l cs x js → P js

-- the windows in which a condition counts: that of the level itself, with the window w, that of the levels before it, with the bound d
abbrev pub own_span : ℕ → ℕ → ℕ
own_span w zero = w
own_span w (suc β) = suc β

abbrev pub before_span : ℕ → ℕ → ℕ → ℕ
before_span d w zero = w
before_span d w (suc β) = min (d + β) w

-- a window for the connections of level m, and one for the others
abbrev pub seen : ℕ → ℕ → ℕ → ℕ → ℕ
seen m own before v = cond (eqb v m) own before

-- a connection of which only the gap counts, as for an eligibility, and what is remembered where at most the last one is: nothing where the flag is 0
abbrev pub gap_only : ℕ → Connection
gap_only gap = record { level = 0; gap = gap; size = 0; window = 0; average = 0; kind = 0; allowance = 0 }

abbrev pub last_only : ℕ → ℕ → Past
last_only flag last = cond (eqb flag 0) [] (last ∷ [])
