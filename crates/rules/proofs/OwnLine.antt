-- The departures of a number's present owner: they are the first of its accepted packets, and each left not after its eligibility plus the
-- bound, nor before its eligibility plus its length unless it might go early.
use Prim.Native.Nat.{ℕ, ◌+◌, ◌≤◌}
use native.Mathlib.Omega.{arith}
use mathlib.Core.Path.{◌≡◌, refl, sym, ap, ◌∙◌, subst}
use mathlib.Core.Bool.{Bool, true, false, cond, true≢false}
use mathlib.Core.Logic.{inl, inr}
use mathlib.Core.List.{List, [], ◌∷◌, ◌++◌, map, append_assoc, append-nil}
use mathlib.Core.Option.{Option, none, some}
use lib.Dec.{eqb}
use borrow.Author.Tests.{eqb-true, eq-eqb}
use Rattle.rules.specs.Words.{All, Pairs, push}
use Rattle.rules.specs.Limits.{notice_number}
use Rattle.rules.specs.Model.{Link, Connection, Packet, State, Call, link, admit, offer, notice, close, tick, Answer, figures}
use Rattle.rules.specs.Admission.{owned, bound, goes_early}
use Rattle.rules.specs.Service.{of, eligibilities, early_at}
use Rattle.rules.specs.SoundState.{Sound}
use Rattle.rules.specs.Calls.{verdict, done, answer}
use Rattle.rules.specs.Runs.{Departure, History, after, run_from, nothing_yet, run, departure_of, own_departures, bound_of}
use Rattle.rules.proofs.RunWords.{departing}
use Rattle.rules.proofs.RunWords.{taken, leaving}
use Rattle.rules.proofs.RunWords.{while_owned, own_departures_from}
use Rattle.rules.proofs.Lists.{all_map, all_snoc, all_sub, all_front, pairs_front}
use Rattle.rules.proofs.Sums.{cond_is}
use Rattle.rules.proofs.Rows.{of_append, to_of, map_append, all_of_map}
use Rattle.rules.proofs.Notices.{of_none}
use Rattle.rules.proofs.Spacing.{spaced_pairs}
use Rattle.rules.proofs.Verdicts.{settled, link_done}
use Rattle.rules.proofs.Line.{tick_leaves}
use Rattle.rules.proofs.SoundKept.{fresh_free}
use Rattle.rules.proofs.Invariant.{whats, Invariant}
use Rattle.rules.proofs.KeptBySweep.{of_filter}
use Rattle.rules.proofs.Every.{no_owner, keeps, invariant}
use Rattle.rules.proofs.InTime.{held_waits}
use Rattle.rules.proofs.Lower.{begun, WellTimed, well_timed}
use Rattle.rules.proofs.Keeper.{from_end, run_last, owner_stays}

-- ---- lists

abbrev opt : {A : Type 0} → Option A → List A
opt none = []
opt (some x) = x ∷ []

push_opt : {A : Type 0} (xs : List A) (o : Option A) → push xs o ≡ xs ++ opt o
push_opt xs none = sym (append-nil xs)
push_opt xs (some x) = refl

abbrev tail : List Packet → List Packet
tail [] = []
tail (x ∷ xs) = xs

cancel : (xs ys zs : List Packet) → xs ++ ys ≡ xs ++ zs → ys ≡ zs
cancel [] ys zs e = e
cancel (x ∷ xs) ys zs e = cancel xs ys zs (ap tail e)

whats_push : (ds : List Departure) (s : State) (o : Option Packet) → whats (push ds (leaving s o)) ≡ whats ds ++ opt o
whats_push ds s none = sym (append-nil (whats ds))
whats_push ds s (some p) = map_append (λ (d : Departure). d.what) ds (record { what = p; finish = s.clock + 1 } ∷ [])

module _ (c : ℕ) where
  of_push : (ps : List Packet) (o : Option Packet) → of c (push ps o) ≡ of c ps ++ of c (opt o)
  of_push ps o = ap (of c) (push_opt ps o) ∙ of_append c ps (opt o)

  -- the departure of c, if it is one
  own_push : (ds : List Departure) (s : State) (o : Option Packet) → of c (whats (push ds (departure_of c (leaving s o)))) ≡ of c (whats ds) ++ of c (opt o)
  own_push ds s none = sym (append-nil (of c (whats ds)))
  own_push ds s (some p) = go (eqb p.connection c) refl
    where
      go : (b : Bool) → eqb p.connection c ≡ b
          → of c (whats (push ds (cond b (some (record { what = p; finish = s.clock + 1 })) none))) ≡ of c (whats ds) ++ cond b (p ∷ []) []
      go true e =
          ap (of c) (map_append (λ (d : Departure). d.what) ds (record { what = p; finish = s.clock + 1 } ∷ []))
          ∙ of_append c (whats ds) (p ∷ [])
          ∙ ap (λ (l : List Packet). of c (whats ds) ++ l) (cond_is (p ∷ []) [] e)
      go false e = sym (append-nil (of c (whats ds)))

-- ---- what a call moves, of one number: what was held and what comes in is what leaves and what is held then

module _ (h : History) (I : Invariant h) (k : Call) (c : ℕ) (level : c ≡ notice_number → ⊥) where
  open h use {now as s, accepted as all, departed as gone, present as acc}

  abbrev a : Answer
  a = answer k s

  call_moves : of c s.held ++ of c (opt (taken k s a)) ≡ of c (opt a.departed) ++ of c a.next.held
  call_moves =
      cancel (of c (whats gone)) (of c s.held ++ of c (opt (taken k s a))) (of c (opt a.departed) ++ of c a.next.held)
      (sym (append_assoc (of c (whats gone)) (of c s.held) (of c (opt (taken k s a))))
      ∙ ap (λ (l : List Packet). l ++ of c (opt (taken k s a))) (ap (λ (l : List Packet). of c (whats gone) ++ l) (sym (held_waits h c level)) ∙ sym (I.steady.conserved c))
      ∙ sym (of_push c all (taken k s a))
      ∙ (keeps h k I).steady.conserved c
      ∙ ap (λ (l : List Packet). of c (whats (after h k).departed) ++ l) (held_waits (after h k) c level)
      ∙ ap (λ (l : List Packet). of c l ++ of c a.next.held) (whats_push gone s a.departed)
      ∙ ap (λ (l : List Packet). l ++ of c a.next.held) (of_append c (whats gone) (opt a.departed))
      ∙ append_assoc (of c (whats gone)) (of c (opt a.departed)) (of c a.next.held))

-- ---- the bound of an owner stays as long as it has its number

module _ (c : ℕ) (s : State) (S : Sound s) (o : owned s.connections c ≡ true) where
  done_link : (k : Call) → verdict k s ≡ 0 → (done k s).next.link ≡ s.link
  done_link (link l) e = absurd (true≢false (sym o ∙ subst (λ (r : State). owned r.connections c ≡ false) (sym (S.with_no_link (link_done s l e).unset)) (fresh_free c)))
  done_link (admit x) e = refl
  done_link (offer d len tag st) e = refl
  done_link (notice len tag) e = refl
  done_link (close d) e = refl
  done_link tick e = (tick_leaves s).link

  pub bound_stays : (k : Call) → owned (answer k s).next.connections c ≡ true → bound_of (answer k s).next c ≡ bound_of s c
  bound_stays k n =
      ap (λ (l : Link). bound l (figures (answer k s).next c).level) (settled (λ a. a.next.link ≡ s.link) k s (verdict k s) (done_link k) (λ _. refl))
      ∙ ap (λ (x : Connection). bound s.link x.level) (owner_stays c s S o k n)

  pub early_kept : (k : Call) → owned (answer k s).next.connections c ≡ true → early_at (answer k s).next c ≡ early_at s c
  early_kept k n =
      ap (λ (l : Link). goes_early l (figures (answer k s).next c)) (settled (λ a. a.next.link ≡ s.link) k s (verdict k s) (done_link k) (λ _. refl))
      ∙ ap (goes_early s.link) (owner_stays c s S o k n)

-- ---- over a run

own_append : (c : ℕ) (pre ks : List Call) (h : History) (ds : List Departure) → own_departures_from c h ds (pre ++ ks) ≡ own_departures_from c (run_from h pre) (own_departures_from c h ds pre) ks
own_append c [] ks h ds = refl
own_append c (k ∷ pre) ks h ds = own_append c pre ks (after h k) (while_owned (after h k).now c (push ds (departing c h.now k)))

own_last : (c : ℕ) (ks : List Call) (k : Call) → own_departures c (ks ++ k ∷ []) ≡ while_owned (after (run ks) k).now c (push (own_departures c ks) (departing c (run ks).now k))
own_last c ks k = own_append c ks (k ∷ []) nothing_yet []

module _ (c : ℕ) where
  pub no_own : (ks : List Call) → owned (run ks).now.connections c ≡ false → own_departures c ks ≡ []
  no_own = from_end (λ ks. owned (run ks).now.connections c ≡ false → own_departures c ks ≡ []) (λ _. refl) one
    where
      one : (ks : List Call) (k : Call) → (owned (run ks).now.connections c ≡ false → own_departures c ks ≡ []) → owned (run (ks ++ k ∷ [])).now.connections c ≡ false → own_departures c (ks ++ k ∷ []) ≡ []
      one ks k ih o =
          own_last c ks k
          ∙ cond_is (push (own_departures c ks) (departing c (run ks).now k)) [] (subst (λ (h : History). owned h.now.connections c ≡ false) (run_last ks k) o)

  -- nothing is told of a number without an owner
  none_present : (h : History) → Invariant h → owned h.now.connections c ≡ false → of c h.present ≡ []
  none_present h I o = of_none c h.present (all_map (λ p f e. true≢false (sym f.owner ∙ ap (owned h.now.connections) e ∙ o)) h.present I.steady.regular.fit)

  none_held : (h : History) → Invariant h → owned h.now.connections c ≡ false → of c h.now.held ≡ []
  none_held h I o =
      of_none c h.now.held
      (all_sub (λ p. p.connection ≡ c → ⊥) I.steady.regular.part (all_map (λ p f e. true≢false (sym f.owner ∙ ap (owned h.now.connections) e ∙ o)) h.present I.steady.regular.fit))

  -- a departure of number c, with bound b, and whether it might go early
  pub record Sent (b : ℕ) (early : Bool) (d : Departure) : Type 0 where
    pub number : d.what.connection ≡ c
    pub not_early : early ≡ false → d.what.eligibility + d.what.len ≤ d.finish
    pub not_late : d.finish ≤ d.what.eligibility + b

  pub record OwnLine (h : History) (ds : List Departure) : Type 0 where
    pub conserved : of c h.present ≡ of c (whats ds) ++ of c h.now.held
    pub sent : All (Sent (bound_of h.now c) (early_at h.now c)) ds

  module _ (ks : List Call) (k : Call) (L : OwnLine (run ks) (own_departures c ks)) (o : owned (after (run ks) k).now.connections c ≡ true) where
    open run ks use {now as s, present as acc}

    level : c ≡ notice_number → ⊥
    level e = true≢false (sym o ∙ subst (λ (j : ℕ). owned (after (run ks) k).now.connections j ≡ false) (sym e) (no_owner (after (run ks) k).now (keeps (run ks) k (invariant ks)).sound))

    still_conserved : of c (after (run ks) k).present ≡ of c (whats (push (own_departures c ks) (departing c s k))) ++ of c (after (run ks) k).now.held
    still_conserved =
        of_filter c (λ p. owned (after (run ks) k).now.connections p.connection) (λ p i. ap (owned (after (run ks) k).now.connections) i ∙ o) (push acc (taken k s (answer k s)))
        ∙ of_push c acc (taken k s (answer k s))
        ∙ ap (λ (l : List Packet). l ++ of c (opt (taken k s (answer k s)))) L.conserved
        ∙ append_assoc (of c (whats (own_departures c ks))) (of c s.held) (of c (opt (taken k s (answer k s))))
        ∙ ap (λ (l : List Packet). of c (whats (own_departures c ks)) ++ l) (call_moves (run ks) (invariant ks) k c level)
        ∙ sym (append_assoc (of c (whats (own_departures c ks))) (of c (opt (answer k s).departed)) (of c (after (run ks) k).now.held))
        ∙ ap (λ (l : List Packet). l ++ of c (after (run ks) k).now.held) (sym (own_push c (own_departures c ks) s (answer k s).departed))

    sent_before : All (Sent (bound_of (after (run ks) k).now c) (early_at (after (run ks) k).now c)) (own_departures c ks)
    sent_before = go (owned s.connections c) refl
      where
        go : (b : Bool) → owned s.connections c ≡ b → All (Sent (bound_of (after (run ks) k).now c) (early_at (after (run ks) k).now c)) (own_departures c ks)
        go true b =
            subst (λ (n : ℕ). All (Sent n (early_at (after (run ks) k).now c)) (own_departures c ks)) (sym (bound_stays c s (invariant ks).sound b k o))
            (subst (λ (e : Bool). All (Sent (bound_of s c) e) (own_departures c ks)) (sym (early_kept c s (invariant ks).sound b k o)) L.sent)
        go false b = subst (All (Sent (bound_of (after (run ks) k).now c) (early_at (after (run ks) k).now c))) (sym (no_own ks b)) tt

    still_sent : All (Sent (bound_of (after (run ks) k).now c) (early_at (after (run ks) k).now c)) (push (own_departures c ks) (departing c s k))
    still_sent = go (answer k s).departed (well_timed (run ks) (invariant ks) (begun ks) k)
      where
        go : (u : Option Packet) → ((p : Packet) → u ≡ some p → WellTimed (run ks) (invariant ks) (begun ks) p)
            → All (Sent (bound_of (after (run ks) k).now c) (early_at (after (run ks) k).now c)) (push (own_departures c ks) (departure_of c (leaving s u)))
        go none f = sent_before
        go (some p) f = at (eqb p.connection c) refl (f p refl)
          where
            at : (b : Bool) → eqb p.connection c ≡ b → WellTimed (run ks) (invariant ks) (begun ks) p
                → All (Sent (bound_of (after (run ks) k).now c) (early_at (after (run ks) k).now c)) (push (own_departures c ks) (cond b (some (record { what = p; finish = s.clock + 1 })) none))
            at false e w = sent_before
            at true e (inl z) = absurd (level (sym (eqb-true p.connection c e) ∙ z))
            at true e (inr w) =
                let i = eqb-true p.connection c e in
                all_snoc (Sent (bound_of (after (run ks) k).now c) (early_at (after (run ks) k).now c)) (own_departures c ks) (record { what = p; finish = s.clock + 1 }) sent_before
                (record {
                  number = i;
                  not_early = λ f. w.1 (ap (early_at s) i ∙ sym (early_kept c s (invariant ks).sound (subst (λ (j : ℕ). owned s.connections j ≡ true) i w.0) k o) ∙ f);
                  not_late = omega (arith, w.2, ap (bound_of s) i, bound_stays c s (invariant ks).sound (subst (λ (j : ℕ). owned s.connections j ≡ true) i w.0) k o);
                })

  pub own_line : (ks : List Call) → OwnLine (run ks) (own_departures c ks)
  own_line = from_end (λ ks. OwnLine (run ks) (own_departures c ks)) (record { conserved = refl; sent = tt }) one
    where
      one : (ks : List Call) (k : Call) → OwnLine (run ks) (own_departures c ks) → OwnLine (run (ks ++ k ∷ [])) (own_departures c (ks ++ k ∷ []))
      one ks k L =
          subst (λ (h : History). OwnLine h (own_departures c (ks ++ k ∷ []))) (sym (run_last ks k))
          (subst (OwnLine (after (run ks) k)) (sym (own_last c ks k)) (go (owned (after (run ks) k).now.connections c) refl))
        where
          go : (b : Bool) → owned (after (run ks) k).now.connections c ≡ b → OwnLine (after (run ks) k) (cond b (push (own_departures c ks) (departing c (run ks).now k)) [])
          go true o = record { conserved = still_conserved ks k L o; sent = still_sent ks k L o }
          go false o = record {
            conserved = none_present (after (run ks) k) (keeps (run ks) k (invariant ks)) o ∙ sym (none_held (after (run ks) k) (keeps (run ks) k (invariant ks)) o);
            sent = tt;
          }

-- ---- so they are spaced by the gap, and each has an allowed length

pairs_of_map : {A B : Type 0} (f : A → B) (R : B → B → Type 0) (xs : List A) → Pairs R (map f xs) → Pairs (λ a b. R (f a) (f b)) xs
pairs_of_map f R [] h = tt
pairs_of_map f R (x ∷ xs) h = (all_of_map f (R (f x)) xs h.0, pairs_of_map f R xs h.1)

module _ (c : ℕ) (ks : List Call) where
  open run ks use {now as s, present as acc}

  abbrev ds : List Departure
  ds = own_departures c ks

  whats_own : (l : List Departure) → All (Sent c (bound_of s c) (early_at s c)) l → of c (whats l) ≡ whats l
  whats_own [] h = refl
  whats_own (d ∷ l) h = cond_is (d.what ∷ of c (whats l)) (of c (whats l)) (eq-eqb d.what.connection c h.0.number) ∙ ap (λ (ps : List Packet). d.what ∷ ps) (whats_own l h.1)

  -- what the present owner sent comes first among what it was accepted
  pub own_first : of c acc ≡ whats (own_departures c ks) ++ of c s.held
  own_first = (own_line c ks).conserved ∙ ap (λ (l : List Packet). l ++ of c s.held) (whats_own (own_departures c ks) (own_line c ks).sent)

  -- what all packets of the present owner have
  pub own_all : (P : Packet → Type 0) → All (λ p. p.connection ≡ c → P p) acc → All (λ d. P d.what) (own_departures c ks)
  own_all P h =
      all_of_map (λ (d : Departure). d.what) P (own_departures c ks)
      (all_front P (whats (own_departures c ks)) (of c s.held) (subst (All P) own_first (all_map (λ p k. k.1) (of c acc) (to_of c P acc h))))

  pub own_spaced : Pairs (λ d e. d.what.eligibility + (figures s c).gap ≤ e.what.eligibility) (own_departures c ks)
  own_spaced = go (owned s.connections c) refl
    where
      go : (b : Bool) → owned s.connections c ≡ b → Pairs (λ d e. d.what.eligibility + (figures s c).gap ≤ e.what.eligibility) (own_departures c ks)
      go true o =
          pairs_of_map (λ (d : Departure). d.what) (λ p q. p.eligibility + (figures s c).gap ≤ q.eligibility) (own_departures c ks)
          (pairs_front (λ p q. p.eligibility + (figures s c).gap ≤ q.eligibility) (whats (own_departures c ks)) (of c s.held)
          (subst (Pairs (λ p q. p.eligibility + (figures s c).gap ≤ q.eligibility)) own_first
          (pairs_of_map (λ (p : Packet). p.eligibility) (λ a b. a + (figures s c).gap ≤ b) (of c acc) (spaced_pairs (figures s c) (eligibilities c acc) ((invariant ks).steady.regular.spaced c o)))))
      go false o = subst (Pairs (λ d e. d.what.eligibility + (figures s c).gap ≤ e.what.eligibility)) (sym (no_own c ks o)) tt

  pub own_lengths : All (λ d. (1 ≤ d.what.len) × (d.what.len ≤ (figures s c).size)) (own_departures c ks)
  own_lengths =
      own_all (λ p. (1 ≤ p.len) × (p.len ≤ (figures s c).size))
      (all_map (λ p f i. (f.some_len, subst (λ (j : ℕ). p.len ≤ (figures s j).size) i f.len_le)) acc (invariant ks).steady.regular.fit)
