-- Connections of both kinds (document 02, R-9): what each kind asks, when an offer gets 10 and 17, and room for an offer to which no cause of 17 applies.
use Prim.Native.Nat.{ℕ, zero, suc, ◌+◌, ◌*◌, ◌≤◌, ◌<◌}
use native.Mathlib.Omega.{arith}
use mathlib.Core.Path.{◌≡◌, refl, sym, ap, ◌∙◌, subst}
use mathlib.Core.Bool.{Bool, true, false, cond, not, ◌&&◌, ◌||◌, true≢false}
use mathlib.Core.Logic.{⊎_elim, ◌↔◌}
use mathlib.Core.List.{List, [], ◌∷◌, ◌++◌, map}
use mathlib.Core.Option.{Option, none, some}
use lib.Dec.{leb, eqb}
use lib.ListN.{length}
use borrow.Author.Tests.{eq-eqb, ne_eqb, lt-leb, leb-false}
use Rattle.rules.specs.Words.{within, upto, sum, All}
use Rattle.rules.specs.Limits.{max_gap, max_allowance, clock_end}
use Rattle.rules.specs.Model.{Link, Connection, Past, State, Call, offer, nth, past, figures}
use Rattle.rules.specs.Admission.{burst, stamped, average_within, figures_within, stands, bound, average_count, count, reservation, ahead, cost, conditions, span, level_sum, excess_from, excess, short_from, level_test}
use Rattle.rules.specs.Service.{nth_before, ticks_after, earliest, suits, untimely, untimely_by, Spaced, of, eligibilities}
use Rattle.rules.specs.SoundState.{departed_of, NearBy, Beyond, Queue, Sound}
use Rattle.rules.specs.SoundTest.{latest_by_gap, latest}
use Rattle.rules.specs.Calls.{heard, too_far, verdict}
use Rattle.rules.specs.WithoutAverage.{Apart, base_figures_within, BaseSpaced, MemoryKept}
use Rattle.rules.specs.Runs.{run, allowed}
use Rattle.rules.specs.Promises.{by_its_gap, NoCause}
use Rattle.rules.specs.Before.{FirstKind, Second, SecondKind}
use Rattle.rules.proofs.Lists.{all_map}
use Rattle.rules.proofs.Sums.{split, cond_is, sum_eq}
use Rattle.rules.proofs.Tests.{never, and_true, and_intro}
use Rattle.rules.proofs.Rows.{length_map}
use Rattle.rules.proofs.Figures.{burst_none, reservation_is, sum_is, ahead_off, never_stamped}
use Rattle.rules.proofs.Spacing.{spaced_pairs, snoc_spaced}
use Rattle.rules.proofs.Count.{count_plain}
use Rattle.rules.proofs.WithoutAverage.{says}
use Rattle.rules.proofs.Standing.{stands_owned}
use Rattle.rules.proofs.Verdicts.{near_by, heard_parts, heard_intro}
use Rattle.rules.proofs.Stamps.{in_time_of, of_in_time, Timely, timely}
use Rattle.rules.proofs.Invariant.{Invariant, facts_of}
use Rattle.rules.proofs.Every.{invariant}
use Rattle.rules.proofs.Room.{near_stamp, offer_verdict, room, welcome}

-- ---- one connection

module _ (c : Connection) (k : c.kind ≡ 0) (a : c.allowance ≡ 0) where
  first_figures : (l : Link) → figures_within l c ≡ (base_figures_within l c && average_within c)
  unfolding figures_within
  first_figures l = rw (eq-eqb c.kind 0 k, eq-eqb c.allowance 0 a, not_one) (go (within 1 max_gap c.gap) (within 1 l.largest c.size) (average_within c))
    where
      not_one : eqb c.kind 1 ≡ false
      not_one = ne_eqb c.kind 1 (λ i. omega (arith, k))

      go : (a b d : Bool) → (a && (b && (d || false))) ≡ ((a && b) && d)
      go true true true = refl
      go true true false = refl
      go true false d = refl
      go false b d = refl

  not_stamped : stamped c ≡ false
  unfolding stamped
  not_stamped = ne_eqb c.kind 1 (λ i. omega (arith, k))

  first_latest : (t : ℕ) (h : Past) → latest c t h ≡ latest_by_gap c t h
  unfolding latest
  first_latest t h = cond_is (t + c.allowance) (latest_by_gap c t h) not_stamped

  first_heard : (s : State) (n : ℕ) → figures s n ≡ c → (heard s n none ≡ stands s n) × ((stamp : ℕ) → heard s n (some stamp) ≡ false)
  unfolding heard
  first_heard s n i =
      let e = ap stamped i ∙ not_stamped in
      (ap (λ (b : Bool). stands s n && not b) e ∙ go (stands s n), λ stamp. ap (λ (b : Bool). stands s n && b) e ∙ stop (stands s n))
    where
      go : (b : Bool) → (b && true) ≡ b
      go true = refl
      go false = refl

      stop : (b : Bool) → (b && false) ≡ false
      stop true = refl
      stop false = refl

pub first_as_before : FirstKind
first_as_before c k a = (
  first_figures c k a,
  λ l. reservation_is l c ∙ ap (λ (n : ℕ). count c (n + bound l c.level)) a ∙ ap (count c) (nothing_more (bound l c.level)),
  first_latest c k a,
  first_heard c k a,
)
  where
    nothing_more : (n : ℕ) → 0 + n ≡ n
    nothing_more n = omega arith

module _ (c : Connection) (P : Second c) where
  no_burst : burst c ≡ 0
  no_burst = burst_none c P.1

  is_stamped : stamped c ≡ true
  unfolding stamped
  is_stamped = eq-eqb c.kind 1 P.0

  second_figures : (l : Link) → figures_within l c ≡ (base_figures_within l c && leb c.allowance max_allowance)
  unfolding figures_within
  second_figures l =
      rw (P.0, eq-eqb c.window 0 P.1, eq-eqb c.average 0 P.2)
      (go (within 1 max_gap c.gap) (within 1 l.largest c.size) (leb c.allowance max_allowance))
    where
      go : (a b d : Bool) → (a && (b && (d && true))) ≡ ((a && b) && d)
      go true true true = refl
      go true true false = refl
      go true false d = refl
      go false b d = refl

  second_spaced : (es : List ℕ) → Spaced c es ↔ BaseSpaced c es
  second_spaced es = (λ s. spaced_pairs c es s, λ p. (says c es).1 (p, subst (λ (n : ℕ). Apart n c.window es) (sym no_burst) tt))

  module _ (t : ℕ) where
    near : (h : List ℕ) (e : ℕ) → (t < e → NearBy c t h e (stamped c) (nth_before (burst c) h)) → e ≤ t + c.allowance
    near h e f = ⊎_elim (λ l. omega arith) (λ l. subst (λ (b : Bool). NearBy c t h e b (nth_before (burst c) h)) is_stamped (f l)) (split e t)

    beyond_all : (h es : List ℕ) → Beyond c none t h es → All (λ e. e ≤ t + c.allowance) es
    beyond_all h [] b = tt
    beyond_all h (e ∷ es) b = (near h e b.0, beyond_all (e ∷ h) es b.1)

    all_beyond : (h es : List ℕ) → All (λ e. e ≤ t + c.allowance) es → Beyond c none t h es
    all_beyond h [] a = tt
    all_beyond h (e ∷ es) a = (λ _. subst (λ (b : Bool). NearBy c t h e b (nth_before (burst c) h)) (sym is_stamped) a.0, all_beyond (e ∷ h) es a.1)

    only_queue : (h : Past) (es : List ℕ) → Queue c none t h es ↔ (MemoryKept c t h es × All (λ e. e ≤ t + c.allowance) es)
    only_queue h es = (
      λ q. (record { few = q.few; last_rows = q.last_rows; rise = q.rise; left_eligible = all_map (λ e l. omega arith) (departed_of h es) q.left_eligible }, beyond_all (departed_of h es) es q.beyond),
      λ k. record {
        few = k.0.few;
        last_rows = k.0.last_rows;
        rise = k.0.rise;
        left_eligible = all_map (λ e l. omega arith) (departed_of h es) k.0.left_eligible;
        beyond = all_beyond (departed_of h es) es k.1;
      },
    )

  -- in either setting: its packets never go early
  second_queue : (l : Link) (t : ℕ) (h : Past) (es : List ℕ) → Queue c (ahead l c) t h es ↔ (MemoryKept c t h es × All (λ e. e ≤ t + c.allowance) es)
  second_queue l t h es =
      subst (λ (a : Option ℕ). Queue c a t h es ↔ (MemoryKept c t h es × All (λ e. e ≤ t + c.allowance) es)) (sym (ahead_off l c (never_stamped l c is_stamped))) (only_queue t h es)

pub second_as_asked : SecondKind
second_as_asked c P = (
  second_figures c P,
  λ w. count_plain c w (no_burst c P),
  λ l. reservation_is l c ∙ count_plain c (c.allowance + bound l c.level) (no_burst c P),
  second_spaced c P,
  second_queue c P,
)

-- ---- the level test

nth_alike : (cs : List Connection) (i : ℕ) → nth (map by_its_gap cs) i ≡ by_its_gap (nth cs i)
nth_alike [] i = refl
nth_alike (x ∷ cs) zero = refl
nth_alike (x ∷ cs) (suc i) = nth_alike cs i

count_alike : (x : Connection) (w : ℕ) → count (by_its_gap x) w ≡ count x w
unfolding burst average_count count
count_alike x w = refl

module _ (l : Link) (cs : List Connection) where
  -- what a connection adds to the sum of condition i of level m
  term : ℕ → ℕ → Connection → ℕ
  term m i x = upto x.level m (count x (span l m i x.level) * cost l x.size)

  sum_alike : (m i : ℕ) → level_sum l cs m i ≡ level_sum l (map by_its_gap cs) m i
  unfolding term
  sum_alike m i =
      omega (
        arith,
        sum_is l cs m i,
        sum_is l (map by_its_gap cs) m i,
        ap (λ (n : ℕ). sum n (λ c. term m i (nth (map by_its_gap cs) c))) (length_map by_its_gap cs),
        sum_eq (length cs) {f = λ c. term m i (nth (map by_its_gap cs) c)} {g = λ c. term m i (nth cs c)}
            (λ c _.
            ap (term m i) (nth_alike cs c)
            ∙ ap (λ (n : ℕ). upto (nth cs c).level m (n * cost l (nth cs c).size)) (count_alike (nth cs c) (span l m i (nth cs c).level))),
      )

  excess_alike : (m i n : ℕ) → excess_from l cs m i n ≡ excess_from l (map by_its_gap cs) m i n
  excess_alike m i zero = refl
  excess_alike m i (suc n) = rw (sum_alike m i, excess_alike m (suc i) n) refl

  short_alike : (m k : ℕ) → short_from l cs m k ≡ short_from l (map by_its_gap cs) m k
  unfolding excess
  short_alike m zero = refl
  short_alike m (suc k) = rw (excess_alike m 0 (conditions l m), short_alike (suc m) k) refl

pub test_alike : (l : Link) (cs : List Connection) → level_test l cs ≡ level_test l (map by_its_gap cs)
unfolding level_test
test_alike l cs = short_alike l cs 1 l.levels

-- ---- the verdicts

pub ten : (c len tag : ℕ) (st : Option ℕ) (s : State) → Sound s → (s.link.levels ≡ 0 → ⊥)
    → verdict (offer c len tag st) s ≡ 10 ↔ ((stands s c ≡ true) × (suits (figures s c) st ≡ true) → ⊥)
ten c len tag st s S linked =
    go (heard s c st) refl (within 1 (figures s c).size len) (leb (reservation s.link (figures s c)) (length (of c s.held))) (leb clock_end s.clock) (untimely_by (figures s c) (past s c) s.clock st) (too_far s c st)
    (offer_verdict s S linked c len tag st)
  where
    go : (hears : Bool) → heard s c st ≡ hears → (right full ended late far : Bool)
        → verdict (offer c len tag st) s ≡ cond hears (cond right (cond full 12 (cond ended 13 (cond late 17 (cond far 18 0)))) 11) 10
        → verdict (offer c len tag st) s ≡ 10 ↔ ((stands s c ≡ true) × (suits (figures s c) st ≡ true) → ⊥)
    go false i right full ended late far v = (λ e k. true≢false (sym (heard_intro s c st k.0 k.1) ∙ i), λ k. v)
    go true i false full ended late far v = (λ e. absurd (omega arith), λ k. absurd (k (heard_parts s c st i)))
    go true i true true ended late far v = (λ e. absurd (omega arith), λ k. absurd (k (heard_parts s c st i)))
    go true i true false true late far v = (λ e. absurd (omega arith), λ k. absurd (k (heard_parts s c st i)))
    go true i true false false true far v = (λ e. absurd (omega arith), λ k. absurd (k (heard_parts s c st i)))
    go true i true false false false true v = (λ e. absurd (omega arith), λ k. absurd (k (heard_parts s c st i)))
    go true i true false false false false v = (λ e. absurd (omega arith), λ k. absurd (k (heard_parts s c st i)))

-- a cause, as the rules test it
module _ (s : State) (c stamp : ℕ) where
  last_gap : (o : Option ℕ) (x e : ℕ) → ((last : ℕ) → o ≡ some last → last + x ≤ e) → ticks_after x o ≤ e
  last_gap none x e f = omega arith
  last_gap (some a) x e f = f a refl

  pub no_cause_false : NoCause s c stamp → untimely (figures s c) (past s c) s.clock stamp ≡ false
  no_cause_false n =
      of_in_time (figures s c) (past s c) s.clock stamp
      (record { not_later = n.not_later; not_over = n.not_over; gap_after = last_gap (nth_before 1 (past s c)) (figures s c).gap (stamp + (figures s c).allowance) n.gap_after })

  no_cause_of : untimely (figures s c) (past s c) s.clock stamp ≡ false → NoCause s c stamp
  no_cause_of u =
      let t = in_time_of (figures s c) (past s c) s.clock stamp u in
      record {
        not_later = t.not_later;
        not_over = t.not_over;
        gap_after = λ last e. subst (λ (o : Option ℕ). ticks_after (figures s c).gap o ≤ stamp + (figures s c).allowance) e t.gap_after;
      }

pub seventeen : (c len tag stamp : ℕ) (s : State) → Sound s → (s.link.levels ≡ 0 → ⊥)
    → verdict (offer c len tag (some stamp)) s ≡ 17
    ↔ ((allowed s c len (some stamp) ≡ true) × (length (of c s.held) < reservation s.link (figures s c)) × (s.clock < clock_end) × (NoCause s c stamp → ⊥))
seventeen c len tag stamp s S linked =
    go (heard s c (some stamp)) refl (within 1 (figures s c).size len) refl (leb (reservation s.link (figures s c)) (length (of c s.held))) refl
    (leb clock_end s.clock) refl (untimely (figures s c) (past s c) s.clock stamp) refl (too_far s c (some stamp))
    (offer_verdict s S linked c len tag (some stamp))
  where
    go : (hears : Bool) → heard s c (some stamp) ≡ hears → (right : Bool) → within 1 (figures s c).size len ≡ right
        → (full : Bool) → leb (reservation s.link (figures s c)) (length (of c s.held)) ≡ full → (ended : Bool) → leb clock_end s.clock ≡ ended
        → (late : Bool) → untimely (figures s c) (past s c) s.clock stamp ≡ late → (far : Bool)
        → verdict (offer c len tag (some stamp)) s ≡ cond hears (cond right (cond full 12 (cond ended 13 (cond late 17 (cond far 18 0)))) 11) 10
        → verdict (offer c len tag (some stamp)) s ≡ 17 ↔ ((allowed s c len (some stamp) ≡ true) × (length (of c s.held) < reservation s.link (figures s c)) × (s.clock < clock_end) × (NoCause s c stamp → ⊥))
    go false i right j full k ended l late m far v = (λ e. absurd (omega arith), λ r. never (sym i ∙ (and_true (heard s c (some stamp)) _ r.0).0))
    go true i false j full k ended l late m far v = (λ e. absurd (omega arith), λ r. never (sym j ∙ (and_true (heard s c (some stamp)) _ r.0).1))
    go true i true j true k ended l late m far v = (λ e. absurd (omega arith), λ r. never (sym (lt-leb _ _ r.1) ∙ k))
    go true i true j false k true l late m far v = (λ e. absurd (omega arith), λ r. never (sym (lt-leb clock_end s.clock r.2) ∙ l))
    go true i true j false k false l false m true v = (λ e. absurd (omega arith), λ r. absurd (r.3 (no_cause_of s c stamp m)))
    go true i true j false k false l false m false v = (λ e. absurd (omega arith), λ r. absurd (r.3 (no_cause_of s c stamp m)))
    go true i true j false k false l true m far v = (
      λ e. (and_intro (heard s c (some stamp)) _ i j, leb-false _ _ k, leb-false _ _ l, λ n. true≢false (sym m ∙ no_cause_false s c stamp n)),
      λ r. v,
    )

-- ---- room for an offer to which no cause of 17 applies

module _ (earlier : List Call) (c len tag stamp : ℕ) (ok : allowed (run earlier).now c len (some stamp) ≡ true)
    (no : untimely (figures (run earlier).now c) (past (run earlier).now c) (run earlier).now.clock stamp ≡ false) where
  open run earlier use {now as s, present as acc, accepted as all}

  I : Invariant (run earlier)
  I = invariant earlier

  hears : heard s c (some stamp) ≡ true
  hears = (and_true (heard s c (some stamp)) (within 1 (figures s c).size len) ok).0

  standing : stands s c ≡ true
  standing = (heard_parts s c (some stamp) hears).0

  pub stamp_near : too_far s c (some stamp) ≡ false
  stamp_near =
      near_stamp s c (some stamp) ((facts_of s (invariant earlier).sound).each c (stands_owned s c standing)) (heard_parts s c (some stamp) hears).1 (heard_parts s c (some stamp) hears).1 no

  in_step : Timely (figures s c) (ahead s.link (figures s c)) (past s c) s.clock (stamp + (figures s c).allowance)
  in_step = timely s.link (figures s c) (past s c) s.clock (some stamp) ((facts_of s (invariant earlier).sound).each c (stands_owned s c standing)) (heard_parts s c (some stamp) hears).1 no (near_by s c (some stamp) stamp_near)

  spaced : Spaced (figures s c) (eligibilities c acc ++ (stamp + (figures s c).allowance) ∷ [])
  spaced =
      let o = stands_owned s c standing in
      let R = (invariant earlier).steady.regular in
      snoc_spaced (figures s c) ((facts_of s (invariant earlier).sound).each c o).burst_le (eligibilities c acc) (stamp + (figures s c).allowance) (R.spaced c o)
      (subst (λ (h : Past). earliest (figures s c) h ≤ stamp + (figures s c).allowance) (R.remembered c o) in_step.paced.0)

  pub stamp_room : length (of c s.held) < reservation s.link (figures s c)
  stamp_room =
      room (run earlier) (invariant earlier) c (stamp + (figures s c).allowance) standing spaced in_step.not_before
      (omega (arith, (in_time_of (figures s c) (past s c) s.clock stamp no).not_later))

  pub stamp_taken : s.clock < clock_end → verdict (offer c len tag (some stamp)) s ≡ 0
  stamp_taken running = welcome (run earlier) (invariant earlier) c len tag (some stamp) ok stamp_room no stamp_near running
