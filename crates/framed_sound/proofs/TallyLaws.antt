-- Laws of the pass over the rows that counts, for each connection, the units that it has used.
use Prim.Native.Nat.{ℕ, ◌+◌, ◌≤◌, ◌<◌}
use native.Mathlib.Omega.{arith}
use mathlib.Core.Path.{◌≡◌, sym, ap, ◌∙◌, subst}
use mathlib.Core.Logic.{◌⊎◌, inl, inr}
use mathlib.Core.List.{List, []}
use lib.ListN.{length, get_or}
use lib.Seq.{get_or-set_same, get_or-set_other}
use Rattle.rules.specs.declared.Packet.{Packet}
use Rattle.rules.specs.Limits.{max_connections, max_largest, beyond_32_bits}
use Rattle.rules.specs.Words.{every, total}
use Rattle.rules.specs.Service.{of}
use Rattle.rules.proofs.Sums.{same, split}
use Rattle.frames.specs.declared.Framing.{Framing}
use Rattle.frames.specs.Service.{newly}
use Rattle.frames.specs.SoundTest.{share_sound}
use Rattle.frames.proofs.Figures.{newly_yes, newly_no}
use Rattle.limits.proofs.EveryLaws.{every_same}
use Rattle.tables.specs.Places.{rows, row_at}
use Rattle.shares.specs.Shares.{shares_in}
use Rattle.line_tests.specs.Counts.{Counts, raised}
use Rattle.line_tests.proofs.CountLaws.{known_here}
use Rattle.framed_state.specs.View.{Frames, Tables, view}
use Rattle.framed_sound.specs.Parts.{Measured, share_with}

-- a list of numbers of which none is above `most`
abbrev pub Low : List ℕ → ℕ → Type 0
Low seen most = (c : ℕ) → c < max_connections → get_or seen c 0 ≤ most

pub raised_low : (seen : List ℕ) (k n m : ℕ) → length seen ≡ max_connections → k < max_connections → Low seen m → Low (raised seen k n) (m + n)
raised_low seen k n m e l h c b = go (same k c)
  where
    go : (k ≡ c) ⊎ (k ≡ c → ⊥) → get_or (raised seen k n) c 0 ≤ m + n
    go (inl i) = omega (arith, h k l, ap (λ (j : ℕ). get_or (raised seen k n) j 0) (sym i), get_or-set_same seen k (get_or seen k 0 + n) 0 (omega arith))
    go (inr i) = omega (arith, h c b, get_or-set_other seen k c (get_or seen k 0 + n) 0 (λ j. i (sym j)))

pub low_more : (seen : List ℕ) (m n : ℕ) → m ≤ n → Low seen m → Low seen n
low_more seen m n l h c b = omega (arith, h c b)

pub low_is : {seen after : List ℕ} {m : ℕ} → after ≡ seen → Low seen m → Low after m
low_is {seen} {after} {m} e h = subst (λ (xs : List ℕ). Low xs m) (sym e) h

-- a packet counts at most its length and the silence
pub newly_most : (l : Framing) (t : ℕ) (p : Packet) → newly l t p ≤ p.len + l.silence
newly_most l t p = go (split p.eligibility t)
  where
    go : (p.eligibility ≤ t) ⊎ (t < p.eligibility) → newly l t p ≤ p.len + l.silence
    go (inl h) = omega (arith, newly_no l t p h)
    go (inr h) = omega (arith, newly_yes l t p h)

-- row i: its cost, and its number in a list of the units so far
module _ (places : List ℕ) (i : ℕ) (h : i < length (rows places)) (l : Framing) (K : Measured l places) {p : Packet} (e : p ≡ row_at places i) where
  pub cost_here : p.len + l.silence ≤ 2112
  cost_here = omega (arith, subst (λ (q : Packet). q.len ≤ max_largest) (sym e) (K.sized i h), K.short_silence)

  pub raise_fits : (taken : List ℕ) (m n : ℕ) → length taken ≡ max_connections → Low taken m → m + n < beyond_32_bits
      → (p.connection < length taken) × (get_or taken p.connection 0 + n < beyond_32_bits)
  raise_fits taken m n s low b = let k = known_here places i h K.countable e in (omega (arith, k), omega (arith, low p.connection k))

pub low_none : (f : List Packet → ℕ) (taken : List ℕ) → f [] ≡ 0 → Counts f taken [] → Low taken 0
low_none f taken z T c b = omega (arith, T.counts c b, z)

-- what was counted decides
pub shares_read : (h : Frames) (t : Tables) (seen taken : List ℕ) → length (shares_in t.members) ≤ max_connections
    → Counts length seen (rows t.places) → Counts (total (newly h.link h.clock)) taken (rows t.places)
    → every (length (shares_in t.members)) (λ c. share_with t.members (get_or seen c 0) (get_or taken c 0) c) ≡ every (length (shares_in t.members)) (share_sound (view h t))
shares_read h t seen taken few T U =
    every_same (length (shares_in t.members)) (λ c. share_with t.members (get_or seen c 0) (get_or taken c 0) c) (share_sound (view h t))
    (λ c l. ap (λ (n : ℕ). share_with t.members n (get_or taken c 0) c) (T.counts c (omega arith)) ∙ ap (λ (m : ℕ). share_with t.members (length (of c (rows t.places))) m c) (U.counts c (omega arith)))
