-- A connection that keeps its word, up to and with the offer at hand: all its offers were accepted on arrival. Of the present owner of a number: what a former one did
-- does not count (document 02, R-8).
use Prim.Native.Nat.{ℕ, suc, ◌≤◌, ◌<◌}
use native.Mathlib.Omega.{arith}
use mathlib.Core.Path.{◌≡◌, refl, sym, ap, ◌∙◌, subst}
use mathlib.Core.Bool.{Bool, true, false, cond, ◌&&◌, true≢false}
use mathlib.Core.Logic.{◌⊎◌, inl, inr, ⊎_elim}
use mathlib.Core.List.{List, [], ◌∷◌, ◌++◌, map, append_assoc, append-nil}
use mathlib.Core.Option.{Option, none, some}
use lib.Dec.{eqb}
use lib.ListN.{length, get_or-eq_default}
use borrow.Author.Tests.{eqb-true, eq-eqb}
use Rattle.rules.specs.Words.{within, push}
use Rattle.rules.specs.Limits.{clock_end, notice_number, max_connections}
use Rattle.rules.specs.Model.{Connection, no_connection, Past, Packet, State, Call, link, admit, offer, notice, close, tick, Answer, nth, figures, notice_packet}
use Rattle.rules.specs.Admission.{owned, stands, stamped, reservation}
use Rattle.rules.specs.Service.{next_eligibility, Spaced, of, eligibilities, ticked}
use Rattle.rules.specs.SoundState.{Sound}
use Rattle.rules.specs.Calls.{heard, verdict, eligibility_now, packet, done, settle, answer}
use Rattle.rules.proofs.Doings.{marked, refused}
use Rattle.rules.specs.Runs.{History, after, run_from, nothing_yet, run, allowed}
use Rattle.rules.proofs.RunWords.{taken}
use Rattle.rules.proofs.RunWords.{while_owned, offer_tick, offer_ticks_from, offer_ticks, Word}
use Rattle.rules.proofs.Lists.{All, all_map, all_init}
use Rattle.rules.proofs.Sums.{split, same, cond_is}
use Rattle.rules.proofs.Tests.{never, and_true, and_intro, within_intro}
use Rattle.rules.proofs.Rows.{none_some, eligibilities_snoc_same, eligibilities_snoc_other}
use Rattle.rules.proofs.Notices.{of_none}
use Rattle.rules.proofs.Spacing.{next_is_now, spaced_nil, spaced_front, spaced_before}
use Rattle.rules.proofs.Standing.{stands_owned, nth_old, kept_figures, swept_owner}
use Rattle.rules.proofs.Line.{tick_leaves}
use Rattle.rules.proofs.Verdicts.{settled, heard_parts, heard_intro, admit_done, offer_done, tick_done}
use Rattle.rules.proofs.Invariant.{Invariant, facts_of, clock_le_end}
use Rattle.rules.proofs.KeptBySweep.{of_filter}
use Rattle.rules.proofs.SoundKept.{fresh_figures}
use Rattle.rules.proofs.Every.{keeps, invariant}
use Rattle.rules.proofs.Room.{near_arrival, room, welcome}

-- ---- from the end of a run

module _ {A : Type 0} where
  -- what holds of nothing, and of one more where it held
  pub from_end : (P : List A → Type 0) → P [] → ((ks : List A) (k : A) → P ks → P (ks ++ k ∷ [])) → (ks : List A) → P ks
  from_end P z f ks = go [] ks z
    where
      go : (pre ks : List A) → P pre → P (pre ++ ks)
      go pre [] p = subst P (sym (append-nil pre)) p
      go pre (k ∷ ks) p = subst P (append_assoc pre (k ∷ []) ks) (go (pre ++ k ∷ []) ks (f pre k p))

pub run_append : (pre ks : List Call) (h : History) → run_from h (pre ++ ks) ≡ run_from (run_from h pre) ks
run_append [] ks h = refl
run_append (k ∷ pre) ks h = run_append pre ks (after h k)

pub run_last : (ks : List Call) (k : Call) → run (ks ++ k ∷ []) ≡ after (run ks) k
run_last ks k = run_append ks (k ∷ []) nothing_yet

ticks_append : (c : ℕ) (pre ks : List Call) (h : History) (ts : List ℕ) → offer_ticks_from c h ts (pre ++ ks) ≡ offer_ticks_from c (run_from h pre) (offer_ticks_from c h ts pre) ks
ticks_append c [] ks h ts = refl
ticks_append c (k ∷ pre) ks h ts = ticks_append c pre ks (after h k) (while_owned (after h k).now c (push ts (offer_tick c h.now k)))

pub ticks_last : (c : ℕ) (ks : List Call) (k : Call) → offer_ticks c (ks ++ k ∷ []) ≡ while_owned (after (run ks) k).now c (push (offer_ticks c ks) (offer_tick c (run ks).now k))
ticks_last c ks k = ticks_append c ks (k ∷ []) nothing_yet []

-- ---- the figures of an owner stay as long as it has its number

module _ (c : ℕ) (s : State) (S : Sound s) (o : owned s.connections c ≡ true) where
  done_stays : (k : Call) → verdict k s ≡ 0 → owned (done k s).next.connections c ≡ true → figures (done k s).next c ≡ figures s c
  done_stays (link l) e n = refl
  done_stays (admit x) e n =
      let d = admit_done s x e in
      nth_old s.connections x (omega (arith, (S.with_one d.set).orderly.numbers, d.free)) c o
  done_stays (offer d len tag st) e n = refl
  done_stays (notice len tag) e n = refl
  done_stays (close d) e n = let k = swept_owner (marked s d) c n in kept_figures (marked s d) c k.0 k.1
  done_stays tick e n =
      let k = swept_owner (ticked s).next c n in
      kept_figures (ticked s).next c k.0 k.1 ∙ ap (λ (cs : List Connection). nth cs c) (tick_leaves s).connections

  pub owner_stays : (k : Call) → owned (answer k s).next.connections c ≡ true → figures (answer k s).next c ≡ figures s c
  owner_stays k = settled (λ a. owned a.next.connections c ≡ true → figures a.next c ≡ figures s c) k s (verdict k s) (done_stays k) (λ v n. refl)

-- a number without an owner has no figures, and is of the first kind
pub free_figures : (s : State) → Sound s → (c : ℕ) → owned s.connections c ≡ false → figures s c ≡ no_connection
free_figures s S c o =
    ⊎_elim
    (λ z. subst (λ (r : State). figures r c ≡ no_connection) (sym (S.with_no_link z)) (fresh_figures c))
    (λ n.
    let O = (S.with_one n).orderly in
    ⊎_elim (λ l. get_or-eq_default s.connections no_connection {n = c} (omega (arith, O.numbers))) (λ l. (O.free_blank c l o).0) (split max_connections c))
    (same s.link.levels 0)

free_kind : stamped no_connection ≡ false
unfolding stamped
free_kind = refl

pub kind_before : (c : ℕ) (s : State) → Sound s → (k : Call) → owned (answer k s).next.connections c ≡ true → stamped (figures (answer k s).next c) ≡ false → stamped (figures s c) ≡ false
kind_before c s S k o f = go (owned s.connections c) refl
  where
    go : (b : Bool) → owned s.connections c ≡ b → stamped (figures s c) ≡ false
    go true b = subst (λ (x : Connection). stamped x ≡ false) (owner_stays c s S b k o) f
    go false b = ap stamped (free_figures s S c b) ∙ free_kind

-- an offer that counts is one to a connection that stands
pub offer_stands : (c : ℕ) (s : State) (k : Call) (t : ℕ) → offer_tick c s k ≡ some t → stands s c ≡ true
offer_stands c s (link l) t e = absurd (none_some e)
offer_stands c s (admit x) t e = absurd (none_some e)
offer_stands c s (offer d len tag st) t e = go (eqb d c && allowed s c len st) refl e
  where
    go : (b : Bool) → (eqb d c && allowed s c len st) ≡ b → cond b (some s.clock) none ≡ some t → stands s c ≡ true
    go false q e = absurd (none_some e)
    go true q e = (heard_parts s c st (and_true (heard s c st) (within 1 (figures s c).size len) (and_true (eqb d c) (allowed s c len st) q).1).0).0
offer_stands c s (notice len tag) t e = absurd (none_some e)
offer_stands c s (close d) t e = absurd (none_some e)
offer_stands c s tick t e = absurd (none_some e)

module _ (c : ℕ) where
  -- a number without an owner has no offers
  pub no_ticks : (ks : List Call) → owned (run ks).now.connections c ≡ false → offer_ticks c ks ≡ []
  no_ticks = from_end (λ ks. owned (run ks).now.connections c ≡ false → offer_ticks c ks ≡ []) (λ _. refl) one
    where
      one : (ks : List Call) (k : Call) → (owned (run ks).now.connections c ≡ false → offer_ticks c ks ≡ []) → owned (run (ks ++ k ∷ [])).now.connections c ≡ false → offer_ticks c (ks ++ k ∷ []) ≡ []
      one ks k ih o =
          ticks_last c ks k
          ∙ cond_is (push (offer_ticks c ks) (offer_tick c (run ks).now k)) [] (subst (λ (h : History). owned h.now.connections c ≡ false) (run_last ks k) o)

-- ---- the ticks of the offers so far are the eligibilities accepted; or the last of them came at the clock's end, where nothing is accepted any more

module _ (c : ℕ) (level : c ≡ notice_number → ⊥) where
  pub record AtEnd (s : State) (ts : List ℕ) : Type 0 where
    pub ended : s.clock ≡ clock_end
    pub earlier : List ℕ
    pub last_at_end : ts ≡ earlier ++ clock_end ∷ []

  abbrev pub AllTaken : State → List Packet → List ℕ → Type 0
  AllTaken s ps ts = (eligibilities c ps ≡ ts) ⊎ AtEnd s ts

  module _ (h : History) (I : Invariant h) (ts : List ℕ) (A : AllTaken h.now h.present ts) (first_kind : stamped (figures h.now c) ≡ false) where
    open h use {now as s, present as acc}

    -- by an answer, before a number that is freed takes its packets along
    abbrev TakenBy : Call → Answer → List ℕ → Type 0
    TakenBy k a us = AllTaken a.next (push acc (taken k s a)) us

    -- a call that brings in no packet of c: nothing changes unless the clock moves, and at its end it does not
    untouched : (r : State) (ps : List Packet) → eligibilities c ps ≡ eligibilities c acc → (s.clock ≡ clock_end → r.clock ≡ clock_end) → AllTaken r ps ts
    untouched r ps e f = ⊎_elim (λ i. inl (e ∙ i)) (λ x. inr (record { ended = f x.ended; earlier = x.earlier; last_at_end = x.last_at_end })) A

    refused_taken : (k : Call) (v : ℕ) → TakenBy k (refused k s (suc v)) ts
    refused_taken (link l) v = A
    refused_taken (admit x) v = A
    refused_taken (offer d len tag st) v = A
    refused_taken (notice len tag) v = A
    refused_taken (close d) v = A
    refused_taken tick v = A

    -- an offer to another line, or of a length that is not allowed
    other_offer : (d len tag : ℕ) (st : Option ℕ) → (d ≡ c → allowed s c len st ≡ false) → TakenBy (offer d len tag st) (answer (offer d len tag st) s) ts
    other_offer d len tag st f =
        settled (λ a. TakenBy (offer d len tag st) a ts) (offer d len tag st) s (verdict (offer d len tag st) s)
        (λ e. placed_other e (same d c)) (refused_taken (offer d len tag st))
      where
        placed_other : verdict (offer d len tag st) s ≡ 0 → (d ≡ c) ⊎ (d ≡ c → ⊥) → TakenBy (offer d len tag st) (done (offer d len tag st) s) ts
        placed_other e (inl i) =
            let D = offer_done s d len tag st e in
            never (sym (f i) ∙ subst (λ (j : ℕ). allowed s j len st ≡ true) i (and_intro (heard s d st) (within 1 (figures s d).size len) (heard_intro s d st D.standing D.suited) (within_intro 1 (figures s d).size len D.some_len D.len_le)))
        placed_other e (inr i) = untouched (done (offer d len tag st) s).next (acc ++ packet s d len tag st ∷ []) (eligibilities_snoc_other c acc (packet s d len tag st) i) (λ z. z)

    -- ---- an offer of its own

    module _ (len tag : ℕ) (ok : allowed s c len none ≡ true) (word : Spaced (figures s c) (ts ++ s.clock ∷ [])) where
      standing : stands s c ≡ true
      standing = (heard_parts s c none (and_true (heard s c none) (within 1 (figures s c).size len) ok).0).0

      -- no offer came at this tick before, so all were accepted
      pub all_accepted : eligibilities c acc ≡ ts
      all_accepted = ⊎_elim (λ e. e) (λ x. absurd (twice x)) A
        where
          twice : AtEnd s ts → ⊥
          twice x =
              omega (
                arith,
                x.ended,
                (all_init (λ e. e < s.clock) x.earlier clock_end
                    (subst (All (λ e. e < s.clock)) x.last_at_end
                    (spaced_before (figures s c) ((facts_of s I.sound).each c (stands_owned s c standing)).some_gap ts s.clock word))
                    ).1,
              )

      word_accepted : Spaced (figures s c) (eligibilities c acc ++ s.clock ∷ [])
      word_accepted = subst (λ (es : List ℕ). Spaced (figures s c) (es ++ s.clock ∷ [])) (sym all_accepted) word

      pub on_arrival : eligibility_now s c none ≡ s.clock
      on_arrival =
          ap (λ (p : Past). next_eligibility (figures s c) p s.clock) (I.steady.regular.remembered c (stands_owned s c standing))
          ∙ next_is_now (figures s c) ((facts_of s I.sound).each c (stands_owned s c standing)).burst_le (eligibilities c acc) s.clock word_accepted

      pub has_room : length (of c s.held) < reservation s.link (figures s c)
      has_room = room h I c s.clock standing word_accepted (omega arith) (omega arith)

      -- accepted while the clock runs; at its end refused, and none comes after it
      own_offer : TakenBy (offer c len tag none) (answer (offer c len tag none) s) (ts ++ s.clock ∷ [])
      own_offer = go (split clock_end s.clock)
        where
          go : (clock_end ≤ s.clock) ⊎ (s.clock < clock_end) → TakenBy (offer c len tag none) (answer (offer c len tag none) s) (ts ++ s.clock ∷ [])
          go (inr running) =
              subst (λ (v : ℕ). TakenBy (offer c len tag none) (settle (offer c len tag none) s v) (ts ++ s.clock ∷ [])) (sym (welcome h I c len tag none ok has_room refl (near_arrival s c none on_arrival) running))
              (inl
              (eligibilities_snoc_same c acc (packet s c len tag none) refl
              ∙ ap (λ (e : ℕ). eligibilities c acc ++ e ∷ []) on_arrival
              ∙ ap (λ (es : List ℕ). es ++ s.clock ∷ []) all_accepted))
          go (inl ended) =
              let e : s.clock ≡ clock_end = omega (arith, clock_le_end s I.sound) in
              settled (λ a. TakenBy (offer c len tag none) a (ts ++ s.clock ∷ [])) (offer c len tag none) s (verdict (offer c len tag none) s)
              (λ z. absurd (omega (arith, (offer_done s c len tag none z).running)))
              (λ v. inr (record { ended = e; earlier = ts; last_at_end = ap (λ (t : ℕ). ts ++ t ∷ []) e }))

    -- ---- any call

    any_offer : (d len tag : ℕ) (st : Option ℕ) → ((eqb d c && allowed s c len st) ≡ true → Spaced (figures s c) (ts ++ s.clock ∷ []))
        → TakenBy (offer d len tag st) (answer (offer d len tag st) s) (push ts (offer_tick c s (offer d len tag st)))
    any_offer d len tag st word = go (eqb d c && allowed s c len st) refl word
      where
        go : (b : Bool) → (eqb d c && allowed s c len st) ≡ b
            → (b ≡ true → Spaced (figures s c) (ts ++ s.clock ∷ []))
            → TakenBy (offer d len tag st) (answer (offer d len tag st) s) (push ts (cond b (some s.clock) none))
        go false e w = other_offer d len tag st (λ i. subst (λ (t : Bool). (t && allowed s c len st) ≡ false) (eq-eqb d c i) e)
        go true e w =
            let k = and_true (eqb d c) (allowed s c len st) e in
            subst (λ (j : ℕ). TakenBy (offer j len tag st) (answer (offer j len tag st) s) (ts ++ s.clock ∷ [])) (sym (eqb-true d c k.0)) (own st k.1)
          where
            -- a connection of the first kind hears no stamp
            own : (st : Option ℕ) → allowed s c len st ≡ true → TakenBy (offer c len tag st) (answer (offer c len tag st) s) (ts ++ s.clock ∷ [])
            own none ok = own_offer len tag ok (w refl)
            own (some e) ok = never (sym first_kind ∙ (heard_parts s c (some e) (and_true (heard s c (some e)) (within 1 (figures s c).size len) ok).0).1)

    by_call : (k : Call) → ((t : ℕ) → offer_tick c s k ≡ some t → Spaced (figures s c) (ts ++ t ∷ [])) → TakenBy k (answer k s) (push ts (offer_tick c s k))
    by_call (link l) word =
        settled (λ a. TakenBy (link l) a ts) (link l) s (verdict (link l) s) (λ _. untouched (done (link l) s).next acc refl (λ z. z)) (refused_taken (link l))
    by_call (admit x) word =
        settled (λ a. TakenBy (admit x) a ts) (admit x) s (verdict (admit x) s) (λ _. untouched (done (admit x) s).next acc refl (λ z. z)) (refused_taken (admit x))
    by_call (offer d len tag st) word =
        any_offer d len tag st (λ e. word s.clock (cond_is (some s.clock) none e))
    by_call (notice len tag) word =
        settled (λ a. TakenBy (notice len tag) a ts) (notice len tag) s (verdict (notice len tag) s)
        (λ _.
        untouched (done (notice len tag) s).next (acc ++ notice_packet (record { len = len; tag = tag; arrival = s.clock }) ∷ [])
        (eligibilities_snoc_other c acc (notice_packet (record { len = len; tag = tag; arrival = s.clock })) (λ e. level (sym e))) (λ z. z))
        (refused_taken (notice len tag))
    by_call (close d) word =
        settled (λ a. TakenBy (close d) a ts) (close d) s (verdict (close d) s) (λ _. untouched (done (close d) s).next acc refl (λ z. z)) (refused_taken (close d))
    by_call tick word =
        settled (λ a. TakenBy tick a ts) tick s (verdict tick s)
        (λ e. untouched (done tick s).next acc refl (λ z. absurd (omega (arith, (tick_done s e).running))))
        (refused_taken tick)

    -- a number that is freed takes its packets and its ticks along
    pub any_call : (k : Call) → (owned (after h k).now.connections c ≡ true → (t : ℕ) → offer_tick c s k ≡ some t → Spaced (figures s c) (ts ++ t ∷ []))
        → AllTaken (after h k).now (after h k).present (while_owned (after h k).now c (push ts (offer_tick c s k)))
    any_call k word = go (owned (after h k).now.connections c) refl
      where
        go : (b : Bool) → owned (after h k).now.connections c ≡ b → AllTaken (after h k).now (after h k).present (cond b (push ts (offer_tick c s k)) [])
        go true o =
            ⊎_elim
            (λ e. inl (ap (λ (ps : List Packet). map (λ p. p.eligibility) ps) (of_filter c (λ p. owned (after h k).now.connections p.connection) (λ p i. ap (owned (after h k).now.connections) i ∙ o) (push acc (taken k s (answer k s)))) ∙ e))
            (λ x. inr x)
            (by_call k (word o))
        go false o =
            inl
            (ap (λ (ps : List Packet). map (λ p. p.eligibility) ps)
            (of_none c (after h k).present (all_map (λ p f e. true≢false (sym f.owner ∙ ap (owned (after h k).now.connections) e ∙ o)) (after h k).present (keeps h k I).steady.regular.fit)))

  -- ---- over a run

  -- the word so far: for the calls before the last one, and for an offer that the last one is
  pub record WordBefore (ks : List Call) (k : Call) : Type 0 where
    pub so_far : Word c ks
    pub this_one : (t : ℕ) → offer_tick c (run ks).now k ≡ some t → Spaced (figures (run ks).now c) (offer_ticks c ks ++ t ∷ [])

  pub word_before : (ks : List Call) (k : Call) → owned (after (run ks) k).now.connections c ≡ true → Word c (ks ++ k ∷ []) → WordBefore ks k
  word_before ks k o word = record { so_far = back (owned (run ks).now.connections c) refl; this_one = λ t e. this t e (stands_owned (run ks).now c (offer_stands c (run ks).now k t e)) }
    where
      now : Spaced (figures (after (run ks) k).now c) (push (offer_ticks c ks) (offer_tick c (run ks).now k))
      now =
          subst (Spaced (figures (after (run ks) k).now c)) (cond_is (push (offer_ticks c ks) (offer_tick c (run ks).now k)) [] o)
          (subst (Spaced (figures (after (run ks) k).now c)) (ticks_last c ks k)
          (subst (λ (h : History). Spaced (figures h.now c) (offer_ticks c (ks ++ k ∷ []))) (run_last ks k) word))

      front : (u : Option ℕ) → Spaced (figures (after (run ks) k).now c) (push (offer_ticks c ks) u) → Spaced (figures (after (run ks) k).now c) (offer_ticks c ks)
      front none w = w
      front (some t) w = spaced_front (figures (after (run ks) k).now c) (offer_ticks c ks) (t ∷ []) w

      alike : owned (run ks).now.connections c ≡ true → figures (after (run ks) k).now c ≡ figures (run ks).now c
      alike b = owner_stays c (run ks).now (invariant ks).sound b k o

      back : (b : Bool) → owned (run ks).now.connections c ≡ b → Word c ks
      back true b = subst (λ (x : Connection). Spaced x (offer_ticks c ks)) (alike b) (front (offer_tick c (run ks).now k) now)
      back false b = subst (Spaced (figures (run ks).now c)) (sym (no_ticks c ks b)) (spaced_nil (figures (run ks).now c))

      this : (t : ℕ) → offer_tick c (run ks).now k ≡ some t → owned (run ks).now.connections c ≡ true → Spaced (figures (run ks).now c) (offer_ticks c ks ++ t ∷ [])
      this t e b = subst (λ (x : Connection). Spaced x (offer_ticks c ks ++ t ∷ [])) (alike b) (subst (λ (u : Option ℕ). Spaced (figures (after (run ks) k).now c) (push (offer_ticks c ks) u)) e now)

  pub all_taken : (ks : List Call) → stamped (figures (run ks).now c) ≡ false → Word c ks → AllTaken (run ks).now (run ks).present (offer_ticks c ks)
  all_taken = from_end (λ ks. stamped (figures (run ks).now c) ≡ false → Word c ks → AllTaken (run ks).now (run ks).present (offer_ticks c ks)) (λ _ _. inl refl) one
    where
      one : (ks : List Call) (k : Call) → (stamped (figures (run ks).now c) ≡ false → Word c ks → AllTaken (run ks).now (run ks).present (offer_ticks c ks))
          → stamped (figures (run (ks ++ k ∷ [])).now c) ≡ false → Word c (ks ++ k ∷ []) → AllTaken (run (ks ++ k ∷ [])).now (run (ks ++ k ∷ [])).present (offer_ticks c (ks ++ k ∷ []))
      one ks k ih kind word =
          subst (λ (h : History). AllTaken h.now h.present (offer_ticks c (ks ++ k ∷ []))) (sym (run_last ks k))
          (subst (AllTaken (after (run ks) k).now (after (run ks) k).present) (sym (ticks_last c ks k)) (go (owned (after (run ks) k).now.connections c) refl))
        where
          freed : owned (after (run ks) k).now.connections c ≡ false
              → AllTaken (after (run ks) k).now (after (run ks) k).present (while_owned (after (run ks) k).now c (push (offer_ticks c ks) (offer_tick c (run ks).now k)))
          freed o =
              inl
              (ap (λ (ps : List Packet). map (λ p. p.eligibility) ps)
              (of_none c (after (run ks) k).present (all_map (λ p f e. true≢false (sym f.owner ∙ ap (owned (after (run ks) k).now.connections) e ∙ o)) (after (run ks) k).present (keeps (run ks) k (invariant ks)).steady.regular.fit))
              ∙ sym (cond_is (push (offer_ticks c ks) (offer_tick c (run ks).now k)) [] o))

          go : (b : Bool) → owned (after (run ks) k).now.connections c ≡ b
              → AllTaken (after (run ks) k).now (after (run ks) k).present (while_owned (after (run ks) k).now c (push (offer_ticks c ks) (offer_tick c (run ks).now k)))
          go true o =
              let W = word_before ks k o word in
              let was = kind_before c (run ks).now (invariant ks).sound k o (subst (λ (h : History). stamped (figures h.now c) ≡ false) (run_last ks k) kind) in
              any_call (run ks) (invariant ks) (offer_ticks c ks) (ih was W.so_far) was k (λ _. W.this_one)
          go false o = freed o
