-- The laws of the spacing rule and of the next eligibility; nothing else opens `Spaced`, `next_eligibility`, `earliest`.
use Prim.Native.Nat.{ℕ, zero, suc, ◌+◌, ◌≤◌, ◌<◌, max}
use native.Mathlib.Omega.{arith}
use mathlib.Core.Path.{◌≡◌, refl, ap, ◌∙◌}
use mathlib.Core.Logic.{◌⊎◌, inl, inr, ◌↔◌}
use mathlib.Core.List.{List, [], ◌∷◌, ◌++◌, reverse_aux}
use mathlib.Core.Option.{Option, none, some}
use lib.ListN.{drop, get_elem?}
use Rattle.rules.specs.Limits.{max_remembered}
use Rattle.rules.specs.Model.{Connection, Past}
use Rattle.rules.specs.Admission.{burst}
use Rattle.rules.specs.Service.{nth_before, ticks_after, earliest, next_eligibility, SpacedBehind, Spaced}
use Rattle.rules.specs.SoundState.{in_order}
use Rattle.rules.proofs.Lists.{All, Pairs, all_map, pairs_map, pairs_init, all_every}
use Rattle.rules.proofs.Memory.{memory, Agrees, agrees_all, Forgets, forgets_at, Had}

-- ---- the earliest tick that the rules allow

module _ (c : Connection) (h : List ℕ) where
  pub earliest_is : earliest c h ≡ max (ticks_after c.gap (nth_before 1 h)) (ticks_after c.window (nth_before (burst c) h))
  unfolding earliest
  earliest_is = refl

  -- a gap after the packet before
  pub earliest_gap : (e f : ℕ) → earliest c (e ∷ h) ≤ f → e + c.gap ≤ f
  unfolding earliest
  earliest_gap e f l = omega arith

  -- a window after the n-th before
  pub earliest_window : (a f : ℕ) → nth_before (burst c) h ≡ some a → earliest c h ≤ f → a + c.window ≤ f
  earliest_window a f e l = omega (arith, earliest_is, ap (ticks_after c.window) e)

-- behind fewer, no later
module _ (P : ℕ → Type 0) (c : Connection) (m k : List ℕ) (F : Forgets P m k) where
  pub ticks_fewer : (x n : ℕ) → ticks_after x (nth_before n k) ≤ ticks_after x (nth_before n m)
  ticks_fewer x zero = omega arith
  ticks_fewer x (suc i) = go (forgets_at P m k F i)
    where
      go : (get_elem? k i ≡ get_elem? m i) ⊎ ((get_elem? k i ≡ none) × Had P (get_elem? m i)) → ticks_after x (get_elem? k i) ≤ ticks_after x (get_elem? m i)
      go (inl e) = omega (arith, ap (ticks_after x) e)
      go (inr e) = omega (arith, ap (ticks_after x) e.0)

  pub earliest_fewer : earliest c k ≤ earliest c m
  earliest_fewer = omega (arith, earliest_is c k, earliest_is c m, ticks_fewer c.gap 1, ticks_fewer c.window (burst c))

-- ---- what is remembered is enough to tell

module _ (c : Connection) (few : burst c ≤ max_remembered) (m : List ℕ) (k : Past) (A : Agrees m k) where
  pub same_before : (n : ℕ) → n ≤ max_remembered → nth_before n k ≡ nth_before n m
  same_before zero l = refl
  same_before (suc i) l = A i l

  pub earliest_same : earliest c k ≡ earliest c m
  unfolding earliest
  earliest_same =
      ap (λ (o : Option ℕ). max (ticks_after c.gap o) (ticks_after c.window (nth_before (burst c) k))) (same_before 1 (omega arith))
      ∙ ap (λ (o : Option ℕ). max (ticks_after c.gap (nth_before 1 m)) (ticks_after c.window o)) (same_before (burst c) few)

-- ---- the next eligibility

pub next_is : (c : Connection) (h : Past) (now : ℕ) → next_eligibility c h now ≡ max now (earliest c h)
unfolding next_eligibility
next_is c h now = refl

-- never before the arrival
pub not_before : (c : Connection) (h : Past) (now : ℕ) → now ≤ next_eligibility c h now
not_before c h now = omega (arith, next_is c h now)

-- ---- one more, and one less

module _ (c : Connection) where
  behind_snoc : (h es : List ℕ) (f : ℕ) → SpacedBehind c h es → earliest c (reverse_aux es h) ≤ f → SpacedBehind c h (es ++ f ∷ [])
  behind_snoc h [] f s l = (l, tt)
  behind_snoc h (e ∷ es) f s l = (s.0, behind_snoc (e ∷ h) es f s.1 l)

  behind_last : (h es : List ℕ) (f : ℕ) → SpacedBehind c h (es ++ f ∷ []) → earliest c (reverse_aux es h) ≤ f
  behind_last h [] f s = s.0
  behind_last h (e ∷ es) f s = behind_last (e ∷ h) es f s.1

  behind_front : (h xs ys : List ℕ) → SpacedBehind c h (xs ++ ys) → SpacedBehind c h xs
  behind_front h [] ys s = tt
  behind_front h (x ∷ xs) ys s = (s.0, behind_front (x ∷ h) xs ys s.1)

  pub behind_fewer : (P : ℕ → Type 0) (m k es : List ℕ) → Forgets P m k → SpacedBehind c m es → SpacedBehind c k es
  behind_fewer P m k [] F s = tt
  behind_fewer P m k (e ∷ es) F s = (omega (arith, earliest_fewer P c m k F, s.0), behind_fewer P (e ∷ m) (e ∷ k) es (refl, F) s.1)

  -- every one behind e is a gap after it
  pub behind_gap : (e : ℕ) (h es : List ℕ) → SpacedBehind c (e ∷ h) es → All (λ f. e + c.gap ≤ f) es
  behind_gap e h [] s = tt
  behind_gap e h (f ∷ es) s =
      let k = earliest_gap c h e f s.0 in
      (k, all_map (λ a l. omega arith) es (behind_gap f (e ∷ h) es s.1))

  behind_pairs : (h es : List ℕ) → SpacedBehind c h es → Pairs (λ a b. a + c.gap ≤ b) es
  behind_pairs h [] s = tt
  behind_pairs h (e ∷ es) s = (behind_gap e h es s.1, behind_pairs (e ∷ h) es s.1)

  -- .. and every one that stands n or more behind it, a window after it
  far_behind : (e k j m : ℕ) (h es : List ℕ) → burst c ≡ suc k → j + m ≡ k → get_elem? h j ≡ some e → SpacedBehind c h es → All (λ f. e + c.window ≤ f) (drop m es)
  far_behind e k j zero h [] b i g s = tt
  far_behind e k j (suc m) h [] b i g s = tt
  far_behind e k j zero h (f ∷ es) b i g s =
      let l = earliest_window c h e f (ap (λ (n : ℕ). nth_before n h) b ∙ ap (get_elem? h) same ∙ g) s.0 in
      (l, all_map (λ a q. omega arith) es (behind_gap f h es s.1))
    where
      same : k ≡ j
      same = omega arith
  far_behind e k j (suc m) h (f ∷ es) b i g s = far_behind e k (suc j) m (f ∷ h) es b (omega arith) g s.1

  -- each is a window before every one that stands k + 1 or more behind it
  abbrev pub Windows : ℕ → List ℕ → Type 0
  Windows k [] = Unit {0}
  Windows k (e ∷ es) = All (λ f. e + c.window ≤ f) (drop k es) × Windows k es

  behind_windows : (k : ℕ) (h es : List ℕ) → burst c ≡ suc k → SpacedBehind c h es → Windows k es
  behind_windows k h [] b s = tt
  behind_windows k h (e ∷ es) b s = (far_behind e k 0 k (e ∷ h) es b (omega arith) refl s.1, behind_windows k (e ∷ h) es b s.1)

  -- ---- the spacing

  pub spaced_nil : Spaced c []
  unfolding Spaced
  spaced_nil = tt

  -- any two are a gap apart
  pub spaced_pairs : (es : List ℕ) → Spaced c es → Pairs (λ a b. a + c.gap ≤ b) es
  unfolding Spaced
  spaced_pairs es s = behind_pairs [] es s

  -- any two that are n apart are a window apart
  pub spaced_windows : (k : ℕ) (es : List ℕ) → burst c ≡ suc k → Spaced c es → Windows k es
  unfolding Spaced
  spaced_windows k es b s = behind_windows k [] es b s

  pub spaced_rises : 1 ≤ c.gap → (es : List ℕ) → Spaced c es → Pairs (λ a b. a < b) es
  spaced_rises g es s = pairs_map (λ _. Unit {0}) (λ a b _ k. omega arith) es (all_every (λ _. tt) es) (spaced_pairs es s)

  pub spaced_front : (xs ys : List ℕ) → Spaced c (xs ++ ys) → Spaced c xs
  unfolding Spaced
  spaced_front xs ys s = behind_front [] xs ys s

  -- all before the last are earlier than it
  pub spaced_before : 1 ≤ c.gap → (es : List ℕ) (u : ℕ) → Spaced c (es ++ u ∷ []) → All (λ e. e < u) es
  spaced_before g es u s = all_map (λ e k. omega arith) es (pairs_init (λ a b. a + c.gap ≤ b) es u (spaced_pairs (es ++ u ∷ []) s)).1

  module _ (few : burst c ≤ max_remembered) where
    of_memory : (es : List ℕ) → earliest c (memory es) ≡ earliest c (reverse_aux es [])
    of_memory es = earliest_same c few (reverse_aux es []) (memory es) (agrees_all es [] [] (λ i l. refl))

    -- the spacing is kept
    pub snoc_spaced : (es : List ℕ) (f : ℕ) → Spaced c es → earliest c (memory es) ≤ f → Spaced c (es ++ f ∷ [])
    unfolding Spaced
    snoc_spaced es f s l = behind_snoc [] es f s (omega (arith, of_memory es))

    pub next_spaced : (es : List ℕ) (now : ℕ) → Spaced c es → Spaced c (es ++ next_eligibility c (memory es) now ∷ [])
    unfolding Spaced
    next_spaced es now s = behind_snoc [] es (next_eligibility c (memory es) now) s (omega (arith, next_is c (memory es) now, of_memory es))

    -- a packet that keeps the spacing by itself is eligible on arrival
    pub next_is_now : (es : List ℕ) (now : ℕ) → Spaced c (es ++ now ∷ []) → next_eligibility c (memory es) now ≡ now
    unfolding Spaced
    next_is_now es now s = omega (arith, next_is c (memory es) now, of_memory es, behind_last [] es now s)

  -- ---- newest first

  abbrev pub Back : List ℕ → Type 0
  Back [] = Unit {0}
  Back (e ∷ h) = (earliest c h ≤ e) × Back h

  spaced_to : (h es : List ℕ) → SpacedBehind c [] (in_order h es) → Back h × SpacedBehind c h es
  spaced_to [] es s = (tt, s)
  spaced_to (e ∷ h) es s = let k = spaced_to h (e ∷ es) s in ((k.1.0, k.0), k.1.1)

  spaced_from : (h es : List ℕ) → Back h → SpacedBehind c h es → SpacedBehind c [] (in_order h es)
  spaced_from [] es b s = s
  spaced_from (e ∷ h) es b s = spaced_from h (e ∷ es) b.1 (b.0, s)

  pub spaced_in_order : (h es : List ℕ) → Spaced c (in_order h es) ↔ (Back h × SpacedBehind c h es)
  unfolding Spaced
  spaced_in_order h es = (spaced_to h es, λ k. spaced_from h es k.0 k.1)

  pub spaced_of_behind : (h es : List ℕ) → SpacedBehind c h es → Spaced c es
  unfolding Spaced
  spaced_of_behind h es s = behind_fewer (λ _. Unit {0}) h [] es (all_every (λ _. tt) h) s

  pub spaced_made : (es : List ℕ) → SpacedBehind c [] es → Spaced c es
  unfolding Spaced
  spaced_made es s = s
