-- A connection without an average is as it was before document 02, R-6; and the spacing is what it says of any two.
use Prim.Native.Nat.{ℕ, zero, suc, ◌+◌, ◌≤◌, ◌<◌, max}
use native.Mathlib.Omega.{arith}
use mathlib.Core.Path.{◌≡◌, refl, sym, ap, ◌∙◌, subst}
use mathlib.Core.Bool.{Bool, true, false, ◌&&◌}
use mathlib.Core.Logic.{◌⊎◌, inl, inr, ◌↔◌}
use mathlib.Core.List.{List, [], ◌∷◌}
use mathlib.Core.Option.{Option, none, some}
use lib.ListN.{drop, get_elem?}
use borrow.Author.Tests.{ne_eqb, eq-eqb}
use Rattle.rules.specs.Words.{within}
use Rattle.rules.specs.Limits.{max_gap, max_remembered}
use Rattle.rules.specs.Model.{Link, Connection, Past}
use Rattle.rules.specs.Admission.{burst, stamped, figures_within, count}
use Rattle.rules.specs.Service.{nth_before, ticks_after, earliest, next_eligibility, remember, remember_all, SpacedBehind, Spaced}
use Rattle.rules.specs.SoundState.{departed_of, NearBy, Beyond, Queue}
use Rattle.rules.specs.SoundTest.{latest}
use Rattle.rules.specs.WithoutAverage.{Plain, Apart, in_ticks, base_figures_within, base_count, base_eligibility, BaseSpaced, last_of, EndsAt, FirstNear, InSteps, LaterExact, BaseQueue, MemoryKept}
use Rattle.rules.proofs.Lists.{All, Pairs, all_map, all_sub, all_every, Sub, nil, skip, keep}
use Rattle.rules.proofs.Sums.{split, cond_is}
use Rattle.rules.proofs.Memory.{all_remember}
use Rattle.rules.proofs.Spacing.{earliest_is, next_is, Windows, spaced_pairs, spaced_windows, spaced_in_order, spaced_of_behind, spaced_made}
use Rattle.rules.proofs.Count.{hits, count_plain}
use Rattle.rules.proofs.Figures.{burst_none}
use Rattle.rules.proofs.Queue.{Chain, latest_unknown, queue_chain}

-- ---- the spacing of any two

module _ (c : Connection) where
  windows_apart : (k : ℕ) (es : List ℕ) → Windows c k es → Apart (suc k) c.window es
  windows_apart k [] h = tt
  windows_apart k (e ∷ es) h = (h.0, windows_apart k es h.1)

  spaced_apart : (es : List ℕ) → Spaced c es → (n : ℕ) → burst c ≡ n → Apart n c.window es
  spaced_apart es s zero e = tt
  spaced_apart es s (suc k) e = windows_apart k es (spaced_windows c k es e s)

  -- those in h hold back those in es as the average asks
  abbrev Ahead : ℕ → List ℕ → List ℕ → Type 0
  Ahead zero h es = Unit {0}
  Ahead (suc k) h es = (i m a : ℕ) → i + m ≡ k → get_elem? h i ≡ some a → All (λ f. a + c.window ≤ f) (drop m es)

  ahead_on : (n e : ℕ) (h es : List ℕ) → Ahead n h (e ∷ es) → Apart n c.window (e ∷ es) → Ahead n (e ∷ h) es
  ahead_on zero e h es f p = tt
  ahead_on (suc k) e h es f p = at
    where
      at : (i m a : ℕ) → i + m ≡ k → get_elem? (e ∷ h) i ≡ some a → All (λ b. a + c.window ≤ b) (drop m es)
      at zero m a i g =
          let q : e ≡ a = cc g in
          let r : k ≡ m = omega arith in
          subst (λ (j : ℕ). All (λ b. a + c.window ≤ b) (drop j es)) r (subst (λ (d : ℕ). All (λ b. d + c.window ≤ b) (drop k es)) q p.0)
      at (suc j) m a i g = f j (suc m) a (omega arith) g

  ahead_first : (n e : ℕ) (h es : List ℕ) → Ahead n h (e ∷ es) → ticks_after c.window (nth_before n h) ≤ e
  ahead_first zero e h es f = omega arith
  ahead_first (suc k) e h es f = go (get_elem? h k) refl
    where
      go : (o : Option ℕ) → get_elem? h k ≡ o → ticks_after c.window o ≤ e
      go none i = omega arith
      go (some a) i = (f k 0 a (omega arith) i).0

  apart_tail : (n e : ℕ) (es : List ℕ) → Apart n c.window (e ∷ es) → Apart n c.window es
  apart_tail zero e es p = tt
  apart_tail (suc k) e es p = p.1

  made_behind : (h es : List ℕ) → All (λ f. ticks_after c.gap (nth_before 1 h) ≤ f) es → Ahead (burst c) h es → BaseSpaced c es → Apart (burst c) c.window es → SpacedBehind c h es
  made_behind h [] g f p a = tt
  made_behind h (e ∷ es) g f p a = (
    omega (arith, earliest_is c h, g.0, ahead_first (burst c) e h es f),
    made_behind (e ∷ h) es p.0 (ahead_on (burst c) e h es f a) p.1 (apart_tail (burst c) e es a),
  )

  ahead_none : (n : ℕ) (es : List ℕ) → Ahead n [] es
  ahead_none zero es = tt
  ahead_none (suc k) es = λ i m a p q. let z : ◌≡◌ {A = ℕ} 0 1 = cc q in absurd (omega arith)

  pub says : (es : List ℕ) → Spaced c es ↔ (BaseSpaced c es × Apart (burst c) c.window es)
  says es = (
    λ s. (spaced_pairs c es s, spaced_apart es s (burst c) refl),
    λ k. spaced_made c es (made_behind [] es (all_every (λ f. omega arith) es) (ahead_none (burst c) es) k.0 k.1),
  )

-- ---- a part of spaced eligibilities, in order, is spaced

sub_tail : {A : Type 0} (x : A) (xs : List A) {ys : List A} → Sub (x ∷ xs) ys → Sub xs ys
sub_tail x xs (skip y s) = skip y (sub_tail x xs s)
sub_tail x xs (keep y s) = skip y s

sub_less : {A : Type 0} (k : ℕ) (xs : List A) {ys : List A} → Sub (drop k xs) ys → Sub (drop (suc k) xs) ys
sub_less zero [] s = s
sub_less zero (x ∷ xs) s = sub_tail x xs s
sub_less (suc k) [] s = s
sub_less (suc k) (x ∷ xs) s = sub_less k xs s

sub_drop : {A : Type 0} (k : ℕ) {xs ys : List A} → Sub xs ys → Sub (drop k xs) (drop k ys)
sub_drop zero s = s
sub_drop (suc k) nil = nil
sub_drop (suc k) (skip {xs = xs} {ys = ys} y s) = sub_less k xs (sub_drop k s)
sub_drop (suc k) (keep x s) = sub_drop k s

pairs_sub : {A : Type 0} (R : A → A → Type 0) {xs ys : List A} → Sub xs ys → Pairs R ys → Pairs R xs
pairs_sub R nil h = tt
pairs_sub R (skip y s) h = pairs_sub R s h.1
pairs_sub R (keep x s) h = (all_sub (R x) s h.0, pairs_sub R s h.1)

apart_sub : (n x : ℕ) {es fs : List ℕ} → Sub es fs → Apart n x fs → Apart n x es
apart_sub zero x s h = tt
apart_sub (suc k) x nil h = tt
apart_sub (suc k) x (skip y s) h = apart_sub (suc k) x s h.1
apart_sub (suc k) x (keep e s) h = (all_sub (λ f. e + x ≤ f) (sub_drop k s) h.0, apart_sub (suc k) x s h.1)

pub spaced_sub : (c : Connection) {es fs : List ℕ} → Sub es fs → Spaced c fs → Spaced c es
spaced_sub c {es} {fs} s h =
    let k = (says c fs).0 h in
    (says c es).1 (pairs_sub (λ a b. a + c.gap ≤ b) s k.0, apart_sub (burst c) c.window s k.1)

pub hits_are : (b w : ℕ) (es : List ℕ) → in_ticks b w es ≡ hits b w es
hits_are b w [] = refl
hits_are b w (e ∷ es) = omega (arith, hits_are b w es)

-- ---- without an average

module _ (c : Connection) (P : Plain c) where
  none_at_once : burst c ≡ 0
  none_at_once = burst_none c P.0

  earliest_plain : (h : List ℕ) → earliest c h ≡ ticks_after c.gap (nth_before 1 h)
  earliest_plain h = omega (arith, earliest_is c h, ap (λ (n : ℕ). ticks_after c.window (nth_before n h)) none_at_once)

  first_kind : stamped c ≡ false
  unfolding stamped
  first_kind = ne_eqb c.kind 1 (λ e. omega (arith, P.2))

  latest_plain : (t : ℕ) (h : Past) → latest c t h ≡ max (t + c.gap) (ticks_after c.gap (nth_before 1 h))
  latest_plain t h =
      omega (
        arith,
        latest_unknown c t h first_kind (ap (λ (n : ℕ). nth_before n h) none_at_once),
        cond_is c.gap c.window (eq-eqb (burst c) 0 none_at_once),
      )

  plain_next : (h : Past) (now : ℕ) → next_eligibility c h now ≡ base_eligibility c h now
  plain_next [] now = omega (arith, next_is c [] now, earliest_plain [])
  plain_next (e ∷ h) now = omega (arith, next_is c (e ∷ h) now, earliest_plain (e ∷ h))

  plain_spaced : (es : List ℕ) → Spaced c es ↔ BaseSpaced c es
  plain_spaced es = (λ s. spaced_pairs c es s, λ p. (says c es).1 (p, subst (λ (n : ℕ). Apart n c.window es) (sym none_at_once) tt))

  plain_count : (w : ℕ) → count c w ≡ base_count c w
  plain_count w = count_plain c w none_at_once

  plain_figures : (l : Link) → figures_within l c ≡ base_figures_within l c
  unfolding figures_within
  plain_figures l = rw (eq-eqb c.window 0 P.0, eq-eqb c.average 0 P.1, eq-eqb c.kind 0 P.2, eq-eqb c.allowance 0 P.3) (go (within 1 max_gap c.gap) (within 1 l.largest c.size))
    where
      go : (a b : Bool) → (a && (b && true)) ≡ (a && b)
      go true true = refl
      go true false = refl
      go false b = refl

  -- ---- the queue

  module _ (t : ℕ) where
    steps : (m : Past) (a : ℕ) (es : List ℕ) → t < a → Chain c none t (remember m a) es → InSteps c.gap a es
    unfolding remember
    steps m a [] l k = tt
    steps m a (e ∷ es) l k =
        let i : e ≡ a + c.gap = omega (arith, k.0.0, k.0.1, earliest_plain (remember m a), latest_plain t (remember m a)) in
        (i, steps (remember m a) e es (omega arith) k.1)

    near : (m : Past) (es : List ℕ) → All (λ e. e ≤ t) m → Chain c none t m es → FirstNear c.gap t es × LaterExact c.gap t es
    near m [] a k = (tt, tt)
    near m (e ∷ es) a k =
        let rest : e ≤ t → FirstNear c.gap t es × LaterExact c.gap t es = λ l. near (remember m e) es (all_remember (λ e. e ≤ t) m e a l) k.1 in
        ((λ l. omega (arith, k.0.1, latest_plain t m, first m a), λ l. (rest l).0), (λ l. steps m e es l k.1, λ l. (rest l).1))
      where
        first : (m : Past) → All (λ e. e ≤ t) m → ticks_after c.gap (nth_before 1 m) ≤ t + c.gap
        first [] a = omega arith
        first (b ∷ m) a = omega (arith, a.0)

    -- and back: what document 01 says of the rows beyond the clock is what the rules ask
    plain_near : (m : List ℕ) (e : ℕ) → e ≤ max (t + c.gap) (ticks_after c.gap (nth_before 1 m)) → t < e → NearBy c t m e (stamped c) (nth_before (burst c) m)
    plain_near m e l k =
        subst (λ (b : Bool). NearBy c t m e b (nth_before (burst c) m)) (sym first_kind)
        (subst (NearBy c t m e false) (sym (ap (λ (n : ℕ). nth_before n m) none_at_once)) (omega (arith, cond_is c.gap c.window (eq-eqb (burst c) 0 none_at_once))))

    steps_beyond : (m : List ℕ) (a : ℕ) (es : List ℕ) → InSteps c.gap a es → Beyond c none t (a ∷ m) es
    steps_beyond m a [] k = tt
    steps_beyond m a (e ∷ es) k = (plain_near (a ∷ m) e (omega (arith, k.0)), steps_beyond (a ∷ m) e es k.1)

    beyond_of : (m es : List ℕ) → FirstNear c.gap t es → LaterExact c.gap t es → Beyond c none t m es
    beyond_of m [] n x = tt
    beyond_of m (e ∷ es) n x = go (split e t) (λ l. beyond_of (e ∷ m) es (n.1 l) (x.1 l))
      where
        go : (e ≤ t) ⊎ (t < e) → (e ≤ t → Beyond c none t (e ∷ m) es) → Beyond c none t m (e ∷ es)
        go (inl l) f = (λ k. absurd (omega arith), f l)
        go (inr l) f = (plain_near m e (omega (arith, n.0 l)), steps_beyond m e es (x.0 l))

    queue_plain : (h : Past) (es : List ℕ) → BaseQueue c t h es → MemoryKept c t h es → Queue c none t h es
    queue_plain h es q k = record {
      few = k.few;
      last_rows = k.last_rows;
      rise = k.rise;
      left_eligible = all_map (λ x l. omega arith) (departed_of h es) k.left_eligible;
      beyond = beyond_of (departed_of h es) es q.first_beyond q.later_beyond;
    }

    -- what has left was eligible: the stand-by queue is off
    in_reach : (h : Past) (es : List ℕ) → Queue c none t h es → All (λ e. e ≤ t) (departed_of h es)
    in_reach h es q = all_map (λ x l. omega arith) (departed_of h es) q.left_eligible

    memory_of : (h : Past) (es : List ℕ) → Queue c none t h es → MemoryKept c t h es
    memory_of h es q = record { few = q.few; last_rows = q.last_rows; rise = q.rise; left_eligible = in_reach h es q }

    ends : (m : Past) (e : ℕ) (es : List ℕ) → EndsAt (last_of (remember_all m (e ∷ es))) (e ∷ es)
    unfolding remember
    ends m e [] = refl
    ends m e (f ∷ es) = ends (remember m e) f es

    ends_all : (P : ℕ → Type 0) (last e : ℕ) (es : List ℕ) → EndsAt last (e ∷ es) → All P (e ∷ es) → P last
    ends_all P last e [] i a = subst P i a.0
    ends_all P last e (f ∷ es) i a = ends_all P last f es i a.1

    ends_not : (m : Past) (e : ℕ) (es : List ℕ) → remember_all m (e ∷ es) ≡ [] → ⊥
    unfolding remember
    ends_not m e [] i = let z : ◌≡◌ {A = ℕ} 0 1 = cc i in omega arith
    ends_not m e (f ∷ es) i = ends_not (remember m e) f es i

    plain_queue : (h : Past) (es : List ℕ) → Queue c none t h es → BaseQueue c t h es
    plain_queue h es q =
        let few : burst c ≤ max_remembered = omega (arith, none_at_once) in
        let k = near (departed_of h es) es (in_reach h es q) (queue_chain c few none t h es q) in
        record {
          rise = spaced_pairs c es (spaced_of_behind c (departed_of h es) es ((spaced_in_order c (departed_of h es) es).0 q.rise).1);
          last_row = last_row es q.last_rows;
          first_beyond = k.0;
          later_beyond = k.1;
          none_beyond = none_beyond h es q.last_rows (in_reach h es q);
          none_accepted = λ i. none_accepted es (q.last_rows ∙ i);
        }
      where
        last_row : (es : List ℕ) → remember_all (departed_of h es) es ≡ h → EndsAt (last_of h) es
        last_row [] i = tt
        last_row (e ∷ es) i = subst (λ (m : Past). EndsAt (last_of m) (e ∷ es)) i (ends (departed_of h (e ∷ es)) e es)

        none_beyond : (h : Past) (es : List ℕ) → remember_all (departed_of h es) es ≡ h → All (λ e. e ≤ t) (departed_of h es) → All (λ e. e ≤ t) es → last_of h ≤ t
        none_beyond [] [] i g a = omega arith
        none_beyond (b ∷ h) [] i g a = g.0
        none_beyond h (e ∷ es) i g a =
            ends_all (λ x. x ≤ t) (last_of h) e es (subst (λ (m : Past). EndsAt (last_of m) (e ∷ es)) i (ends (departed_of h (e ∷ es)) e es)) a

        none_accepted : (es : List ℕ) → remember_all (departed_of h es) es ≡ [] → es ≡ []
        none_accepted [] i = refl
        none_accepted (e ∷ es) i = absurd (ends_not (departed_of h (e ∷ es)) e es i)

  pub as_before : ((l : Link) → figures_within l c ≡ base_figures_within l c)
      × ((w : ℕ) → count c w ≡ base_count c w)
      × ((h : Past) (now : ℕ) → next_eligibility c h now ≡ base_eligibility c h now)
      × ((es : List ℕ) → Spaced c es ↔ BaseSpaced c es)
      × ((t : ℕ) (h : Past) (es : List ℕ) → Queue c none t h es ↔ (BaseQueue c t h es × MemoryKept c t h es))
  as_before = (plain_figures, plain_count, plain_next, plain_spaced, λ t h es. (λ q. (plain_queue t h es q, memory_of t h es q), λ k. queue_plain t h es k.0 k.1))
