-- An accepted packet through any calls, opens and closes among them: it leaves in time, or it still waits at the owner that it was accepted from, and its time
-- is not over.
use Prim.Native.Nat.{ℕ, zero, suc, ◌+◌, ◌≤◌, ◌<◌}
use native.Mathlib.Omega.{arith}
use mathlib.Core.Path.{◌≡◌, refl, sym, ap, ◌∙◌, subst}
use mathlib.Core.Bool.{Bool, true, false, cond}
use mathlib.Core.Logic.{◌⊎◌, inl, inr, ⊎_elim}
use mathlib.Core.List.{List, [], ◌∷◌, ◌++◌, map, append-nil}
use mathlib.Core.Option.{Option, none, some}
use lib.Dec.{eqb}
use lib.ListN.{length, get_elem?}
use borrow.Author.Tests.{eqb-true}
use Rattle.rules.specs.Words.{push}
use Rattle.rules.specs.Limits.{notice_number}
use Rattle.rules.specs.Model.{Packet, State, Call, link, admit, offer, notice, close, tick, Answer, notice_packet}
use Rattle.rules.specs.Service.{of, early_at, ticked, swept}
use Rattle.rules.specs.Calls.{verdict, packet, done, answer}
use Rattle.rules.proofs.Doings.{refused}
use Rattle.rules.specs.Runs.{Departure, History, logged, after, run_from, departures, in_hub, bound_of}
use Rattle.rules.proofs.RunWords.{leaving}
use Rattle.rules.proofs.Sums.{split, same}
use Rattle.rules.proofs.Rows.{none_some, some_inj, of_append}
use Rattle.rules.proofs.Verdicts.{settled}
use Rattle.rules.proofs.Invariant.{whats, Invariant}
use Rattle.rules.proofs.Lower.{Begun, call_begun, WellTimed, well_timed_done, early_stays, bound_stays}
use Rattle.rules.proofs.Every.{keeps}
use Rattle.rules.proofs.InTime.{find_more, find_place, departures_append, conserved_lists, GoneInTime, Waits, Either, holds_one, its_owner, not_over}

pub push_is : {A : Type 0} (xs : List A) (o : Option A) → (ys : List A) × (push xs o ≡ xs ++ ys)
push_is xs none = ([], sym (append-nil xs))
push_is xs (some x) = (x ∷ [], refl)

-- an entry below the length is there
find_some : {A : Type 0} (xs : List A) (i : ℕ) → i < length xs → (x : A) × (get_elem? xs i ≡ some x)
find_some [] i l = absurd (omega arith)
find_some (x ∷ xs) zero l = (x, refl)
find_some (x ∷ xs) (suc i) l = find_some xs i (omega arith)

map_find : {A B : Type 0} (f : A → B) (xs : List A) (i : ℕ) (x : A) → get_elem? xs i ≡ some x → get_elem? (map f xs) i ≡ some (f x)
map_find f [] i x e = absurd (none_some e)
map_find f (y ∷ xs) zero x e = ap (λ o. some (f o)) (some_inj e)
map_find f (y ∷ xs) (suc i) x e = map_find f xs i x e

module _ (c i : ℕ) (p : Packet) (level : c ≡ notice_number → ⊥) (d : ℕ) (early : Bool) where
  -- what has left has left
  gone_stays : (h : History) (k : Call) (a : Answer) → GoneInTime c i p level d early h → GoneInTime c i p level d early (logged h k a)
  gone_stays h k a G =
      let q = push_is h.departed (leaving h.now a.departed) in (
        G.0,
        subst (λ (ds : List Departure). get_elem? (departures c ds) i ≡ some (record { what = p; finish = G.0 })) (sym q.1)
            (subst (λ (ds : List Departure). get_elem? ds i ≡ some (record { what = p; finish = G.0 })) (sym (departures_append c h.departed q.0))
            (find_more (departures c h.departed) (departures c q.0) i _ G.1)),
        G.2,
        G.3,
      )

  module _ (h : History) (I : Invariant h) (B : Begun h.now) (W : Waits c i p level d early h) where
    open h use {now as s, accepted as all, departed as gone, present as acc}

    -- where nothing leaves and the owner stays, it waits on
    waits_on : (more : List Packet) (ps : List Packet) (r : State) → bound_of r c ≡ bound_of s c → early_at r c ≡ early_at s c
        → Either c i p level d early (record { accepted = all ++ more; departed = gone; present = ps; now = r })
    waits_on more ps r b f =
        inr
        (record {
          later_on = W.later_on;
          is_there = subst (λ (l : List Packet). get_elem? l i ≡ some p) (sym (of_append c all more)) (find_more (of c all) (of c more) i p W.is_there);
          still_bound = b ∙ W.still_bound;
          still_early = λ e. f ∙ W.still_early e;
        })

    stays_same : (ps : List Packet) (r : State) → bound_of r c ≡ bound_of s c → early_at r c ≡ early_at s c → Either c i p level d early (record { accepted = all; departed = gone; present = ps; now = r })
    stays_same ps r b f = subst (λ (l : List Packet). Either c i p level d early (record { accepted = l; departed = gone; present = ps; now = r })) (append-nil all) (waits_on [] ps r b f)

    -- its number holds a packet
    holds : length (of c s.held) < 1 → ⊥
    holds = holds_one c i p level d early h I W

    -- ---- a tick

    -- what has left afterwards, if it was the one
    left_now : (o : Option Packet) (ps : List Packet) (r : State)
        → (q : Packet) → o ≡ some q
        → WellTimed h I B q
        → of c all ≡ whats (departures c (push gone (leaving s o))) ++ of c (in_hub r)
        → i < length (departures c (push gone (leaving s o)))
        → GoneInTime c i p level d early (record { accepted = all; departed = push gone (leaving s o); present = ps; now = r })
    left_now o ps r q e time cons l =
        let x : Departure = record { what = q; finish = s.clock + 1 } in
        let y = find_some (departures c (push gone (leaving s o))) i l in
        let was : y.0.what ≡ p = some_inj (sym (find_more (whats (departures c (push gone (leaving s o)))) (of c (in_hub r)) i y.0.what (map_find (λ (z : Departure). z.what) (departures c (push gone (leaving s o))) i y.0 y.1)) ∙ ap (λ (l : List Packet). get_elem? l i) (sym cons) ∙ W.is_there) in
        let new : departures c (push gone (leaving s o)) ≡ departures c gone ++ departures c (x ∷ []) = ap (λ (u : Option Packet). departures c (push gone (leaving s u))) e ∙ departures_append c gone (x ∷ []) in
        let at = find_place (departures c gone) (departures c (x ∷ [])) i y.0 W.later_on (sym (ap (λ (l : List Departure). get_elem? l i) new) ∙ y.1) in
        let one = only_one x (eqb q.connection c) refl at.0 y.0 at.1 in (
          y.0.finish,
          y.1 ∙ ap (λ (z : Packet). some (record { what = z; finish = y.0.finish })) was,
          in_time q one.0 was one.1 time,
          not_early q one.0 was one.1 time,
        )
      where
        only_one : (x : Departure) (b : Bool) → eqb x.what.connection c ≡ b → (j : ℕ) (y : Departure) → get_elem? (cond b (x ∷ []) []) j ≡ some y → (x.what.connection ≡ c) × (x ≡ y)
        only_one x true e zero y k = (eqb-true x.what.connection c e, some_inj k)
        only_one x true e (suc j) y k = absurd (none_some k)
        only_one x false e j y k = absurd (none_some k)

        in_time : (q : Packet) → q.connection ≡ c → {y : Departure} → y.what ≡ p → record { what = q; finish = s.clock + 1 } ≡ y
            → WellTimed h I B q → y.finish ≤ p.eligibility + d
        in_time q n was is (inl k) = absurd (level (sym n ∙ k))
        in_time q n {y} was is (inr k) =
            omega (
              arith,
              ap (λ (z : Departure). z.finish) is,
              ap (λ (z : Departure). z.what.eligibility) is,
              ap (λ (z : Packet). z.eligibility) was,
              ap (bound_of s) n,
              W.still_bound,
              k.2,
            )

        not_early : (q : Packet) → q.connection ≡ c → {y : Departure} → y.what ≡ p → record { what = q; finish = s.clock + 1 } ≡ y
            → WellTimed h I B q → early ≡ false → p.eligibility + p.len ≤ y.finish
        not_early q n was is (inl k) e = absurd (level (sym n ∙ k))
        not_early q n {y} was is (inr k) e =
            omega (
              arith,
              ap (λ (z : Departure). z.finish) is,
              ap (λ (z : Departure). z.what.eligibility) is,
              ap (λ (z : Departure). z.what.len) is,
              ap (λ (z : Packet). z.eligibility) was,
              ap (λ (z : Packet). z.len) was,
              k.1 (ap (early_at s) n ∙ W.still_early e),
            )

    ticked_on : verdict tick s ≡ 0 → Invariant (logged h tick (done tick s)) → Either c i p level d early (logged h tick (done tick s))
    ticked_on v K = go (ticked s).departed refl (λ q k. well_timed_done h I B tick v q k) (split (length (departures c (push gone (leaving s (ticked s).departed)))) i)
      where
        waits : length (departures c (push gone (leaving s (ticked s).departed))) ≤ i → Either c i p level d early (logged h tick (done tick s))
        waits l = inr (record { later_on = l; is_there = W.is_there; still_bound = bound_stays s I.sound c holds tick v ∙ W.still_bound; still_early = λ f. early_stays s I.sound c holds tick v ∙ W.still_early f })

        go : (o : Option Packet) → (ticked s).departed ≡ o → ((q : Packet) → o ≡ some q → WellTimed h I B q)
            → (length (departures c (push gone (leaving s (ticked s).departed))) ≤ i) ⊎ (i < length (departures c (push gone (leaving s (ticked s).departed))))
            → Either c i p level d early (logged h tick (done tick s))
        go o e t (inl l) = waits l
        go none e t (inr l) = absurd (omega (arith, W.later_on, ap (λ (o : Option Packet). length (departures c (push gone (leaving s o)))) e))
        go (some q) e t (inr l) =
            inl (left_now (ticked s).departed (logged h tick (done tick s)).present (swept (ticked s).next) q e (t q refl) (conserved_lists (logged h tick (done tick s)) K c) l)

    -- ---- any call

    -- one that accepts nothing, and with which nothing leaves
    same_after : (k : Call) → verdict k s ≡ 0 → Either c i p level d early (record { accepted = all; departed = gone; present = (logged h k (done k s)).present; now = (done k s).next })
    same_after k e = stays_same (logged h k (done k s)).present (done k s).next (bound_stays s I.sound c holds k e) (early_stays s I.sound c holds k e)

    done_on : (k : Call) → verdict k s ≡ 0 → Invariant (logged h k (done k s)) → Either c i p level d early (logged h k (done k s))
    done_on (link l) e K = same_after (link l) e
    done_on (admit x) e K = same_after (admit x) e
    done_on (offer b len tag st) e K = waits_on (packet s b len tag st ∷ []) (logged h (offer b len tag st) (done (offer b len tag st) s)).present (done (offer b len tag st) s).next refl refl
    done_on (notice len tag) e K =
        waits_on (notice_packet (record { len = len; tag = tag; arrival = s.clock }) ∷ []) (logged h (notice len tag) (done (notice len tag) s)).present (done (notice len tag) s).next refl refl
    done_on (close b) e K = same_after (close b) e
    done_on tick e K = ticked_on e K

    refused_on : (k : Call) (v : ℕ) → Either c i p level d early (logged h k (refused k s (suc v)))
    refused_on (link l) v = stays_same (logged h (link l) (refused (link l) s (suc v))).present s refl refl
    refused_on (admit x) v = stays_same (logged h (admit x) (refused (admit x) s (suc v))).present s refl refl
    refused_on (offer b len tag st) v = stays_same (logged h (offer b len tag st) (refused (offer b len tag st) s (suc v))).present s refl refl
    refused_on (notice len tag) v = stays_same (logged h (notice len tag) (refused (notice len tag) s (suc v))).present s refl refl
    refused_on (close b) v = stays_same (logged h (close b) (refused (close b) s (suc v))).present s refl refl
    refused_on tick v = stays_same (logged h tick (refused tick s (suc v))).present s refl refl

  pub either_on : (h : History) (k : Call) → Invariant h → Begun h.now → Either c i p level d early h → Either c i p level d early (after h k)
  either_on h k I B (inl G) = inl (gone_stays h k (answer k h.now) G)
  either_on h k I B (inr W) =
      settled (λ a. Invariant (logged h k a) → Either c i p level d early (logged h k a)) k h.now (verdict k h.now)
      (λ e K. done_on h I B W k e K)
      (λ v K. refused_on h I B W k v) (keeps h k I)

  pub either_through : (ks : List Call) (h : History) → Invariant h → Begun h.now → Either c i p level d early h → Either c i p level d early (run_from h ks)
  either_through [] h I B E = E
  either_through (k ∷ ks) h I B E = either_through ks (after h k) (keeps h k I) (call_begun h I B k) (either_on h k I B E)

-- what is in time, or waits, has left once its time is over
pub over_left : (c i : ℕ) (p : Packet) (level : c ≡ notice_number → ⊥) (d : ℕ) (early : Bool) (h : History) → Invariant h → Either c i p level d early h → p.eligibility + d ≤ h.now.clock
    → (f : ℕ) × (get_elem? (departures c h.departed) i ≡ some (record { what = p; finish = f })) × (f ≤ p.eligibility + d)
over_left c i p level d early h I (inl G) over = (G.0, G.1, G.2)
over_left c i p level d early h I (inr W) over =
    absurd
    (⊎_elim
    (λ z. holds_one c i p level d early h I W (omega (arith, ap (λ (r : State). length (of c r.held)) (I.sound.with_no_link z))))
    (λ n. omega (arith, not_over c i p level d early h I W (its_owner c i p level d early h I W (I.sound.with_one n).orderly)))
    (same h.now.link.levels 0))
