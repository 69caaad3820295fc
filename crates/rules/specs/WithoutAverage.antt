-- Document 01's own words for one connection, which `WithoutAverage` (Before) holds against the rules, and the spacing of document 02, R-6, said of any two packets, for
-- `SpacingSays` (Promises).
use Rattle.std.specs.Prelude.{ℕ, zero, suc, ◌+◌, ◌-◌, ◌/◌, ◌≤◌, ◌<◌, max, ◌≡◌, Bool, ◌&&◌, List, [], ◌∷◌, length, drop}
use Rattle.rules.specs.Words.{within, upto, All, Pairs}
use Rattle.rules.specs.Limits.{max_gap, max_remembered}
use Rattle.rules.specs.Model.{Link, Connection, Past}
use Rattle.rules.specs.Service.{remember_all, Spaced}
use Rattle.rules.specs.SoundState.{in_order, departed_of}

-- a connection of the first kind without an average
abbrev pub Plain : Connection → Type 0
Plain c = (c.window ≡ 0) × (c.average ≡ 0) × (c.kind ≡ 0) × (c.allowance ≡ 0)

-- ---- the spacing of any two

-- any two that are n or more apart are x ticks apart; nothing where n is 0
abbrev pub Apart : ℕ → ℕ → List ℕ → Type 0
Apart zero x es = Unit {0}
Apart (suc k) x [] = Unit {0}
Apart (suc k) x (e ∷ es) = All (λ f. e + x ≤ f) (drop k es) × Apart (suc k) x es

-- how many of these are among the w ticks from b on
abbrev pub in_ticks : ℕ → ℕ → List ℕ → ℕ
in_ticks b w [] = 0
in_ticks b w (e ∷ es) = upto b e (upto (suc e) (b + w) 1) + in_ticks b w es

-- ---- document 01, "Link, connections, places"

abbrev pub base_figures_within : Link → Connection → Bool
base_figures_within l c = within 1 max_gap c.gap && within 1 l.largest c.size

abbrev pub base_count : Connection → ℕ → ℕ
base_count c w = (w + (c.gap - 1)) / c.gap

-- ---- "Eligibility"

abbrev pub base_eligibility : Connection → Past → ℕ → ℕ
base_eligibility c [] now = now
base_eligibility c (last ∷ h) now = max now (last + c.gap)

abbrev pub BaseSpaced : Connection → List ℕ → Type 0
BaseSpaced c es = Pairs (λ a b. a + c.gap ≤ b) es

-- ---- "A sound state": the rows of one connection, by their eligibilities in row order. X its gap, t the clock

abbrev pub last_of : Past → ℕ
last_of [] = 0
last_of (e ∷ h) = e

-- the last row's is `last`
abbrev pub EndsAt : ℕ → List ℕ → Type 0
EndsAt last [] = Unit {0}
EndsAt last (e ∷ []) = e ≡ last
EndsAt last (e ∷ f ∷ es) = EndsAt last (f ∷ es)

-- the first beyond the clock is at most X beyond it
abbrev pub FirstNear : ℕ → ℕ → List ℕ → Type 0
FirstNear X t [] = Unit {0}
FirstNear X t (e ∷ es) = (t < e → e ≤ t + X) × (e ≤ t → FirstNear X t es)

-- after a: each exactly X after the one before
abbrev pub InSteps : ℕ → ℕ → List ℕ → Type 0
InSteps X a [] = Unit {0}
InSteps X a (e ∷ es) = (e ≡ a + X) × InSteps X e es

-- each later than the first beyond the clock exactly X after the one before
abbrev pub LaterExact : ℕ → ℕ → List ℕ → Type 0
LaterExact X t [] = Unit {0}
LaterExact X t (e ∷ es) = (t < e → InSteps X e es) × (e ≤ t → LaterExact X t es)

pub record BaseQueue (c : Connection) (t : ℕ) (h : Past) (es : List ℕ) : Type 0 where
  pub rise : BaseSpaced c es
  pub last_row : EndsAt (last_of h) es
  pub first_beyond : FirstNear c.gap t es
  pub later_beyond : LaterExact c.gap t es
  pub none_beyond : All (λ e. e ≤ t) es → last_of h ≤ t
  pub none_accepted : h ≡ [] → es ≡ []

-- what document 02, R-6, asks beside it: at most 16 are remembered, the newest of them those of the last rows; what has left was eligible; and all keep the spacing
pub record MemoryKept (c : Connection) (t : ℕ) (h : Past) (es : List ℕ) : Type 0 where
  pub few : length h ≤ max_remembered
  pub last_rows : remember_all (departed_of h es) es ≡ h
  pub rise : Spaced c (in_order (departed_of h es) es)
  pub left_eligible : All (λ e. e ≤ t) (departed_of h es)
