-- Document 02, R-3, for connections of the second kind (R-9): with offers a gap apart, what one is told is decided by its own figures and its own offers.
use Prim.Native.Nat.{ℕ, suc, ◌+◌, ◌-◌, ◌≤◌, ◌<◌}
use native.Mathlib.Omega.{arith}
use mathlib.Core.Path.{◌≡◌, refl, sym, ap, ◌∙◌, subst}
use mathlib.Core.Bool.{Bool, true, false, cond, ◌&&◌, true≢false}
use mathlib.Core.Logic.{◌⊎◌, inl, inr}
use mathlib.Core.List.{List, [], ◌∷◌, ◌++◌, map, append-nil}
use mathlib.Core.Option.{Option, none, some}
use lib.Dec.{leb, eqb}
use lib.ListN.{length}
use borrow.Author.Tests.{eqb-true, eq-eqb, ne_eqb, not-true, lt-leb}
use Rattle.rules.specs.Words.{All, within, upto, push, filter}
use Rattle.rules.specs.Limits.{clock_end, notice_number}
use Rattle.rules.specs.Model.{Connection, Past, Packet, State, Call, link, admit, offer, notice, close, tick, Answer, no_past, past, figures, notice_packet}
use Rattle.rules.specs.Admission.{owned, stands, stamped, reservation}
use Rattle.rules.specs.Service.{untimely_by, remember_all, Spaced, of, eligibilities}
use Rattle.rules.proofs.Doings.{level_of}
use Rattle.rules.specs.Calls.{heard, too_far, verdict, eligibility_now, packet, done, answer}
use Rattle.rules.specs.Runs.{History, after, run, bound_of, allowed, Asked, Exchange, exchange, exchanges, asked_of, own_ticks, KeepsItsWord}
use Rattle.rules.proofs.RunWords.{taken}
use Rattle.rules.proofs.RunWords.{given, own_stamp_answers, own_stamp_answer, while_owned, offer_tick, offer_ticks, Word}
use Rattle.rules.proofs.Lists.{Sub, nil, sub_snoc, sub_more, sub_trans, all_map, all_zip, all_snoc, all_sub, all_filter, total_snoc}
use Rattle.rules.proofs.Sums.{same, cond_is, upto_yes}
use Rattle.rules.proofs.Tests.{never, and_true, and_intro, within_intro}
use Rattle.rules.proofs.Rows.{map_append, all_map_of, to_of, sub_of, sub_map, length_map, of_snoc_same, of_snoc_other}
use Rattle.rules.proofs.Notices.{of_none}
use Rattle.rules.proofs.Spacing.{spaced_before}
use Rattle.rules.proofs.WithoutAverage.{spaced_sub}
use Rattle.rules.proofs.Count.{inside, window_law}
use Rattle.rules.proofs.Standing.{stands_owned}
use Rattle.rules.proofs.Figures.{reservation_is}
use Rattle.rules.proofs.Verdicts.{settled, heard_parts, heard_intro, offer_done}
use Rattle.rules.proofs.Stamps.{in_time_of}
use Rattle.rules.proofs.Invariant.{Invariant, facts_of, some_bound}
use Rattle.rules.proofs.KeptBySweep.{of_filter}
use Rattle.rules.proofs.Every.{no_owner, keeps, invariant}
use Rattle.rules.proofs.InTime.{held_in_time}
use Rattle.rules.proofs.Room.{all_among, near_stamp, decided_by}
use Rattle.rules.proofs.Keeper.{from_end, run_last, ticks_last, owner_stays, no_ticks, WordBefore, word_before}
use Rattle.rules.proofs.Alone.{told, exchanges_last, no_exchanges, asks, word_is}

-- ---- lists

sub_push : {A : Type 0} {xs ys : List A} (o : Option A) → Sub xs ys → Sub xs (push ys o)
sub_push none s = s
sub_push (some x) s = sub_more (x ∷ []) s

given_snoc : (es : List Exchange) (e : Exchange) → given (es ++ e ∷ []) ≡ given es ++ given (e ∷ [])
given_snoc [] e = refl
given_snoc (d ∷ es) e = go (eqb d.verdict 0) (given_snoc es e)
  where
    go : (b : Bool) → given (es ++ e ∷ []) ≡ given es ++ given (e ∷ []) → cond b (d.eligibility ∷ given (es ++ e ∷ [])) (given (es ++ e ∷ [])) ≡ cond b (d.eligibility ∷ given es) (given es) ++ given (e ∷ [])
    go true k = ap (λ (l : List ℕ). d.eligibility ∷ l) k
    go false k = k

given_yes : (e : Exchange) → e.verdict ≡ 0 → given (e ∷ []) ≡ e.eligibility ∷ []
given_yes e i = cond_is (e.eligibility ∷ []) [] (eq-eqb e.verdict 0 i)

given_no : (e : Exchange) → (e.verdict ≡ 0 → ⊥) → given (e ∷ []) ≡ []
given_no e i = cond_is (e.eligibility ∷ []) [] (ne_eqb e.verdict 0 i)

-- one answer more
answers_snoc : (x : Connection) (h : Past) (qs : List Asked) (a : Asked)
    → own_stamp_answers x h (qs ++ a ∷ []) ≡ own_stamp_answers x h qs ++ own_stamp_answer x (remember_all h (given (own_stamp_answers x h qs))) a ∷ []
answers_snoc x h [] a = refl
answers_snoc x h (q ∷ qs) a =
    ap (λ (l : List Exchange). e ∷ l) (answers_snoc x (remember_all h (given (e ∷ []))) qs a)
    ∙ ap (λ (m : Past). e ∷ own_stamp_answers x (remember_all h (given (e ∷ []))) qs ++ own_stamp_answer x m a ∷ []) (go (eqb e.verdict 0))
  where
    e : Exchange
    e = own_stamp_answer x h q

    go : (b : Bool) → remember_all (remember_all h (cond b (e.eligibility ∷ []) [])) (given (own_stamp_answers x (remember_all h (given (e ∷ []))) qs))
        ≡ remember_all h (cond b (e.eligibility ∷ given (own_stamp_answers x (remember_all h (given (e ∷ []))) qs)) (given (own_stamp_answers x (remember_all h (given (e ∷ []))) qs)))
    go true = refl
    go false = refl

-- ---- what was accepted is what was given, on offers of allowed length, at most the allowance after their arrival

abbrev arrivals : ℕ → List Packet → List ℕ
arrivals c ps = map (λ (p : Packet). p.arrival) (of c ps)

module _ (c : ℕ) where
  abbrev Near : Connection → Packet → Type 0
  Near x p = p.connection ≡ c → p.eligibility ≤ p.arrival + x.allowance

  record Told (x : Connection) (ps : List Packet) (es : List Exchange) (ts : List ℕ) : Type 0 where
    were_given : eligibilities c ps ≡ given es
    came : Sub (arrivals c ps) ts
    near : All (Near x) ps

  module _ (s : State) (acc : List Packet) (level : c ≡ notice_number → ⊥) (x : Connection) (alike : stands s c ≡ true → figures s c ≡ x) (second : stamped x ≡ true)
      (es : List Exchange) (ts : List ℕ) (T : Told x acc es ts) where
    -- a packet of another number
    other : (p : Packet) → (p.connection ≡ c → ⊥) → Told x (acc ++ p ∷ []) es ts
    other p n = record {
      were_given = ap (map (λ (p : Packet). p.eligibility)) (of_snoc_other c acc p n) ∙ T.were_given;
      came = subst (λ (l : List Packet). Sub (map (λ (p : Packet). p.arrival) l) ts) (sym (of_snoc_other c acc p n)) T.came;
      near = all_snoc (Near x) acc p T.near (λ i. absurd (n i));
    }

    told_offer : (d len tag : ℕ) (st : Option ℕ)
        → Told x (push acc (taken (offer d len tag st) s (answer (offer d len tag st) s))) (push es (exchange c s (offer d len tag st))) (push ts (offer_tick c s (offer d len tag st)))
    told_offer d len tag st = by_number (same d c)
      where
        q : Answer → Exchange
        q a = record { asked = record { at = s.clock; len = len; tag = tag; stamp = st }; verdict = a.verdict; eligibility = a.number }

        away : (d ≡ c → ⊥) → Told x (push acc (taken (offer d len tag st) s (answer (offer d len tag st) s))) es ts
        away n =
            settled (λ a. Told x (push acc (taken (offer d len tag st) s a)) es ts) (offer d len tag st) s (verdict (offer d len tag st) s) (λ _. other (packet s d len tag st) n) (λ _. T)

        -- refused, and heard or not
        refused_told : (v : ℕ) (b : Bool) (o : Option ℕ) → Told x acc (push es (cond b (some (record { asked = record { at = s.clock; len = len; tag = tag; stamp = st }; verdict = suc v; eligibility = 0 })) none)) (push ts o)
        refused_told v true o = record {
          were_given =
              T.were_given
              ∙ sym (append-nil (given es))
              ∙ ap (λ (l : List ℕ). given es ++ l) (sym (given_no (record { asked = record { at = s.clock; len = len; tag = tag; stamp = st }; verdict = suc v; eligibility = 0 }) (λ z. omega arith)))
              ∙ sym (given_snoc es (record { asked = record { at = s.clock; len = len; tag = tag; stamp = st }; verdict = suc v; eligibility = 0 }));
          came = sub_push o T.came;
          near = T.near;
        }
        refused_told v false o = record { were_given = T.were_given; came = sub_push o T.came; near = T.near }

        near_now : (st : Option ℕ) → verdict (offer c len tag st) s ≡ 0 → eligibility_now s c st ≤ s.clock + x.allowance
        near_now none e = let D = offer_done s c len tag none e in never (sym (not-true (stamped (figures s c)) D.suited) ∙ ap stamped (alike D.standing) ∙ second)
        near_now (some stamp) e =
            let D = offer_done s c len tag (some stamp) e in
            omega (arith, (in_time_of (figures s c) (past s c) s.clock stamp D.in_time).not_later, ap (λ (y : Connection). y.allowance) (alike D.standing))

        own : d ≡ c → verdict (offer c len tag st) s ≡ 0 → Told x (acc ++ packet s c len tag st ∷ []) (es ++ q (done (offer c len tag st) s) ∷ []) (ts ++ s.clock ∷ [])
        own i e = record {
          were_given =
              ap (map (λ (p : Packet). p.eligibility)) (of_snoc_same c acc (packet s c len tag st) refl)
              ∙ map_append (λ (p : Packet). p.eligibility) (of c acc) (packet s c len tag st ∷ [])
              ∙ ap (λ (l : List ℕ). l ++ eligibility_now s c st ∷ []) T.were_given
              ∙ ap (λ (l : List ℕ). given es ++ l) (sym (given_yes (q (done (offer c len tag st) s)) refl))
              ∙ sym (given_snoc es (q (done (offer c len tag st) s)));
          came =
              subst (λ (l : List Packet). Sub (map (λ (p : Packet). p.arrival) l) (ts ++ s.clock ∷ [])) (sym (of_snoc_same c acc (packet s c len tag st) refl))
              (subst (λ (l : List ℕ). Sub l (ts ++ s.clock ∷ [])) (sym (map_append (λ (p : Packet). p.arrival) (of c acc) (packet s c len tag st ∷ []))) (sub_snoc s.clock T.came));
          near = all_snoc (Near x) acc (packet s c len tag st) T.near (λ _. near_now st e);
        }

        at_c : d ≡ c
            → Told x (push acc (taken (offer c len tag st) s (answer (offer c len tag st) s))) (push es (exchange c s (offer c len tag st))) (push ts (offer_tick c s (offer c len tag st)))
        at_c i =
            settled
            (λ a. Told x (push acc (taken (offer c len tag st) s a)) (push es (cond (eqb c c && heard s c st) (some (q a)) none)) (push ts (offer_tick c s (offer c len tag st)))) (offer c len tag st) s (verdict (offer c len tag st) s)
            (λ e.
            let D = offer_done s c len tag st e in
            let k = heard_intro s c st D.standing D.suited in
            let w = and_intro (heard s c st) (within 1 (figures s c).size len) k (within_intro 1 (figures s c).size len D.some_len D.len_le) in
            subst (λ (o : Option Exchange). Told x (acc ++ packet s c len tag st ∷ []) (push es o) (push ts (offer_tick c s (offer c len tag st)))) (sym (cond_is (some (q (done (offer c len tag st) s))) none (and_intro (eqb c c) (heard s c st) (eq-eqb c c refl) k)))
            (subst (λ (o : Option ℕ). Told x (acc ++ packet s c len tag st ∷ []) (es ++ q (done (offer c len tag st) s) ∷ []) (push ts o)) (sym (cond_is (some s.clock) none (and_intro (eqb c c) (allowed s c len st) (eq-eqb c c refl) w)))
            (own i e)))
            (λ v. refused_told v (eqb c c && heard s c st) (offer_tick c s (offer c len tag st)))

        by_number : (d ≡ c) ⊎ (d ≡ c → ⊥)
            → Told x (push acc (taken (offer d len tag st) s (answer (offer d len tag st) s))) (push es (exchange c s (offer d len tag st))) (push ts (offer_tick c s (offer d len tag st)))
        by_number (inl i) =
            subst (λ (j : ℕ). Told x (push acc (taken (offer j len tag st) s (answer (offer j len tag st) s))) (push es (exchange c s (offer j len tag st))) (push ts (offer_tick c s (offer j len tag st)))) (sym i) (at_c i)
        by_number (inr n) =
            rw (ne_eqb d c n) (away n)

    told_call : (k : Call) → Told x (push acc (taken k s (answer k s))) (push es (exchange c s k)) (push ts (offer_tick c s k))
    told_call (link l) = T
    told_call (admit y) = T
    told_call (offer d len tag st) = told_offer d len tag st
    told_call (notice len tag) =
        settled (λ a. Told x (push acc (taken (notice len tag) s a)) es ts) (notice len tag) s (verdict (notice len tag) s)
        (λ _. other (notice_packet (record { len = len; tag = tag; arrival = s.clock })) (λ e. level (sym e)))
        (λ _. T)
    told_call (close d) = T
    told_call tick = T

  -- a number that is freed takes its packets along
  told_filter : (x : Connection) (f : Packet → Bool) → ((p : Packet) → p.connection ≡ c → f p ≡ true) → (ps : List Packet) (es : List Exchange) (ts : List ℕ) → Told x ps es ts → Told x (filter f ps) es ts
  told_filter x f k ps es ts T = record {
    were_given = ap (map (λ (p : Packet). p.eligibility)) (of_filter c f k ps) ∙ T.were_given;
    came = subst (λ (l : List Packet). Sub (map (λ (p : Packet). p.arrival) l) ts) (sym (of_filter c f k ps)) T.came;
    near = all_map (λ p r. r.1) (filter f ps) (all_filter (Near x) f ps T.near);
  }

  none_told : (h : History) → Invariant h → owned h.now.connections c ≡ false → (x : Connection) → Told x h.present [] []
  none_told h I o x = record {
    were_given = ap (map (λ (p : Packet). p.eligibility)) empty;
    came = subst (λ (l : List Packet). Sub (map (λ (p : Packet). p.arrival) l) []) (sym empty) nil;
    near = all_map (λ p f i. absurd (true≢false (sym f.owner ∙ ap (owned h.now.connections) i ∙ o))) h.present I.steady.regular.fit;
  }
    where
      empty : of c h.present ≡ []
      empty = of_none c h.present (all_map (λ p f e. true≢false (sym f.owner ∙ ap (owned h.now.connections) e ∙ o)) h.present I.steady.regular.fit)

  -- ---- with one call more, and the owner there afterwards

  module _ (ks : List Call) (k : Call) (o : owned (after (run ks) k).now.connections c ≡ true) where
    alike : owned (run ks).now.connections c ≡ true → figures (run ks).now c ≡ figures (after (run ks) k).now c
    alike b = sym (owner_stays c (run ks).now (invariant ks).sound b k o)

    level_of_c : c ≡ notice_number → ⊥
    level_of_c e = true≢false (sym o ∙ subst (λ (j : ℕ). owned (after (run ks) k).now.connections j ≡ false) (sym e) (no_owner (after (run ks) k).now (keeps (run ks) k (invariant ks)).sound))

    -- what held of the owner before, or nothing was told
    told_before : (stamped (figures (run ks).now c) ≡ true → Told (figures (run ks).now c) (run ks).present (exchanges c ks) (offer_ticks c ks))
        → stamped (figures (after (run ks) k).now c) ≡ true → Told (figures (after (run ks) k).now c) (run ks).present (exchanges c ks) (offer_ticks c ks)
    told_before ih second = was (owned (run ks).now.connections c) refl
      where
        was : (b : Bool) → owned (run ks).now.connections c ≡ b → Told (figures (after (run ks) k).now c) (run ks).present (exchanges c ks) (offer_ticks c ks)
        was true b = subst (λ (y : Connection). Told y (run ks).present (exchanges c ks) (offer_ticks c ks)) (alike b) (ih (ap stamped (alike b) ∙ second))
        was false b =
            subst (λ (es : List Exchange). Told (figures (after (run ks) k).now c) (run ks).present es (offer_ticks c ks)) (sym (no_exchanges c ks b))
            (subst (Told (figures (after (run ks) k).now c) (run ks).present []) (sym (no_ticks c ks b)) (none_told (run ks) (invariant ks) b (figures (after (run ks) k).now c)))

  all_told : (ks : List Call) → stamped (figures (run ks).now c) ≡ true → Told (figures (run ks).now c) (run ks).present (exchanges c ks) (offer_ticks c ks)
  all_told = from_end (λ ks. stamped (figures (run ks).now c) ≡ true → Told (figures (run ks).now c) (run ks).present (exchanges c ks) (offer_ticks c ks)) (λ _. record { were_given = refl; came = nil; near = tt }) one
    where
      one : (ks : List Call) (k : Call) → (stamped (figures (run ks).now c) ≡ true → Told (figures (run ks).now c) (run ks).present (exchanges c ks) (offer_ticks c ks))
          → stamped (figures (run (ks ++ k ∷ [])).now c) ≡ true → Told (figures (run (ks ++ k ∷ [])).now c) (run (ks ++ k ∷ [])).present (exchanges c (ks ++ k ∷ [])) (offer_ticks c (ks ++ k ∷ []))
      one ks k ih =
          subst (λ (h : History). stamped (figures h.now c) ≡ true → Told (figures h.now c) h.present (exchanges c (ks ++ k ∷ [])) (offer_ticks c (ks ++ k ∷ []))) (sym (run_last ks k))
          (subst (λ (es : List Exchange). stamped (figures (after (run ks) k).now c) ≡ true → Told (figures (after (run ks) k).now c) (after (run ks) k).present es (offer_ticks c (ks ++ k ∷ []))) (sym (exchanges_last c ks k))
          (subst (λ (ts : List ℕ). stamped (figures (after (run ks) k).now c) ≡ true → Told (figures (after (run ks) k).now c) (after (run ks) k).present (while_owned (after (run ks) k).now c (push (exchanges c ks) (exchange c (run ks).now k))) ts) (sym (ticks_last c ks k))
          (go (owned (after (run ks) k).now.connections c) refl)))
        where
          go : (b : Bool) → owned (after (run ks) k).now.connections c ≡ b → stamped (figures (after (run ks) k).now c) ≡ true
              → Told (figures (after (run ks) k).now c) (after (run ks) k).present (cond b (push (exchanges c ks) (exchange c (run ks).now k)) []) (cond b (push (offer_ticks c ks) (offer_tick c (run ks).now k)) [])
          go false o second = none_told (after (run ks) k) (keeps (run ks) k (invariant ks)) o (figures (after (run ks) k).now c)
          go true o second =
              told_filter (figures (after (run ks) k).now c) (λ p. owned (after (run ks) k).now.connections p.connection) (λ p i. ap (owned (after (run ks) k).now.connections) i ∙ o)
              (push (run ks).present (taken k (run ks).now (answer k (run ks).now))) (push (exchanges c ks) (exchange c (run ks).now k)) (push (offer_ticks c ks) (offer_tick c (run ks).now k))
              (told_call (run ks).now (run ks).present (level_of_c ks k o) (figures (after (run ks) k).now c) (λ b. alike ks k o (stands_owned (run ks).now c b)) second
              (exchanges c ks) (offer_ticks c ks) (told_before ks k o ih second) k)

  -- ---- room: the packets held and the new one arrived within the bound and the allowance, a gap apart

  module _ (h : History) (I : Invariant h) (standing : stands h.now c ≡ true) (es : List Exchange) (ts : List ℕ) (T : Told (figures h.now c) h.present es ts)
      (word : Spaced (figures h.now c) (ts ++ h.now.clock ∷ [])) where
    open h use {now as s, present as acc}

    below : owned s.connections c ≡ true
    below = stands_owned s c standing

    abbrev stay : ℕ
    stay = (figures s c).allowance + bound_of s c

    some_d : 0 < bound_of s c
    some_d = let F = facts_of s I.sound in some_bound s I.sound (level_of s c) (F.each c below).low_level (F.each c below).high_level

    held_spaced : Spaced (figures s c) (arrivals c s.held ++ s.clock ∷ [])
    held_spaced = spaced_sub (figures s c) (sub_snoc s.clock (sub_trans (sub_map (λ (p : Packet). p.arrival) (sub_of c I.steady.regular.part)) T.came)) word

    recent : All (λ f. (s.clock + 1 - stay ≤ f) × (f ≤ s.clock)) (arrivals c s.held)
    recent =
        all_zip (λ f k l. (k, omega arith)) (arrivals c s.held)
        (all_map_of (λ (p : Packet). p.arrival) (λ f. s.clock + 1 - stay ≤ f) (of c s.held)
        (all_map (λ p k. k.1) (of c s.held)
        (to_of c (λ p. s.clock + 1 - stay ≤ p.arrival) s.held
        (all_zip (λ p k l i. low p (k i) (l i)) s.held (held_in_time h I c below) (all_sub (Near (figures s c)) I.steady.regular.part T.near)))))
        (spaced_before (figures s c) ((facts_of s I.sound).each c below).some_gap (arrivals c s.held) s.clock held_spaced)
      where
        low : (p : Packet) → s.clock < p.eligibility + bound_of s c → p.eligibility ≤ p.arrival + (figures s c).allowance → s.clock + 1 - ((figures s c).allowance + bound_of s c) ≤ p.arrival
        low p k l = omega arith

    room_by_arrivals : length (of c s.held) < reservation s.link (figures s c)
    room_by_arrivals =
        omega (
          arith,
          reservation_is s.link (figures s c),
          length_map (λ (p : Packet). p.arrival) (of c s.held),
          all_among (s.clock + 1 - stay) s.clock (arrivals c s.held) recent,
          total_snoc (inside (s.clock + 1 - stay) s.clock) (arrivals c s.held) s.clock,
          upto_yes (s.clock + 1 - stay) s.clock (upto s.clock s.clock 1) (omega (arith, some_d)),
          upto_yes s.clock s.clock 1 (omega arith),
          window_law (figures s c) s.clock (arrivals c s.held ++ s.clock ∷ []) (s.clock + 1 - stay) stay
              ((facts_of s I.sound).each c below).some_gap held_spaced (omega (arith, some_d)),
        )

  -- ---- so an offer is told what its own figures and its own past decide

  module _ (h : History) (I : Invariant h) (es : List Exchange) (ts : List ℕ) (T : Told (figures h.now c) h.present es ts) (len tag : ℕ) (st : Option ℕ) (hears : heard h.now c st ≡ true)
      (word : within 1 (figures h.now c).size len ≡ true → Spaced (figures h.now c) (ts ++ h.now.clock ∷ [])) where
    open h use {now as s, present as acc}

    own_told : stamped (figures s c) ≡ true → told s c len tag st (verdict (offer c len tag st) s) ≡ own_stamp_answer (figures s c) (past s c) (record { at = s.clock; len = len; tag = tag; stamp = st })
    own_told second =
        ap (told s c len tag st) (decided_by h I c len tag st hears)
        ∙ go (within 1 (figures s c).size len) (leb (reservation s.link (figures s c)) (length (of c s.held))) (leb clock_end s.clock) (untimely_by (figures s c) (past s c) s.clock st)
        (too_far s c st)
        (λ w. lt-leb _ _ (room_by_arrivals h I (heard_parts s c st hears).0 es ts T (word w)))
        (λ u. near_stamp s c st ((facts_of s I.sound).each c (stands_owned s c (heard_parts s c st hears).0)) second (heard_parts s c st hears).1 u)
      where
        go : (right full ended late far : Bool) → (right ≡ true → full ≡ false) → (late ≡ false → far ≡ false)
            → told s c len tag st (cond right (cond full 12 (cond ended 13 (cond late 17 (cond far 18 0)))) 11)
            ≡ record {
              asked = record { at = s.clock; len = len; tag = tag; stamp = st };
              verdict = cond right (cond ended 13 (cond late 17 0)) 11;
              eligibility = cond (eqb (cond right (cond ended 13 (cond late 17 0)) 11) 0) (eligibility_now s c st) 0;
            }
        go false full ended late far f g = refl
        go true true ended late far f g = never (sym (f refl))
        go true false true late far f g = refl
        go true false false true far f g = refl
        go true false false false far f g = rw (g refl) refl

    remembered : past s c ≡ remember_all no_past (given es)
    remembered = I.steady.regular.remembered c (stands_owned s c (heard_parts s c st hears).0) ∙ ap (remember_all no_past) T.were_given

  -- ---- over a run

  module _ (ks : List Call) (k : Call) (o : owned (after (run ks) k).now.connections c ≡ true) (second : stamped (figures (after (run ks) k).now c) ≡ true)
      (word : (t : ℕ) → offer_tick c (run ks).now k ≡ some t → Spaced (figures (run ks).now c) (offer_ticks c ks ++ t ∷ []))
      (E : exchanges c ks ≡ own_stamp_answers (figures (after (run ks) k).now c) no_past (asks (exchanges c ks))) where
    open run ks use {now as s}

    abbrev x : Connection
    x = figures (after (run ks) k).now c

    -- one exchange more
    with_one : (e : Exchange) → e ≡ own_stamp_answer (figures (after (run ks) k).now c) (remember_all no_past (given (exchanges c ks))) e.asked
        → exchanges c ks ++ e ∷ [] ≡ own_stamp_answers (figures (after (run ks) k).now c) no_past (asks (exchanges c ks ++ e ∷ []))
    with_one e i =
        ap (λ (l : List Exchange). l ++ e ∷ []) E
        ∙ ap (λ (d : Exchange). own_stamp_answers x no_past (asks (exchanges c ks)) ++ d ∷ []) (i ∙ ap (λ (l : List Exchange). own_stamp_answer x (remember_all no_past (given l)) e.asked) E)
        ∙ sym (answers_snoc x no_past (asks (exchanges c ks)) e.asked)
        ∙ ap (own_stamp_answers x no_past) (sym (map_append (λ (d : Exchange). d.asked) (exchanges c ks) (e ∷ [])))

  own_call : (ks : List Call) (k : Call) → owned (after (run ks) k).now.connections c ≡ true → stamped (figures (after (run ks) k).now c) ≡ true
      → ((t : ℕ) → offer_tick c (run ks).now k ≡ some t → Spaced (figures (run ks).now c) (offer_ticks c ks ++ t ∷ []))
      → exchanges c ks ≡ own_stamp_answers (figures (after (run ks) k).now c) no_past (asks (exchanges c ks))
      → push (exchanges c ks) (exchange c (run ks).now k) ≡ own_stamp_answers (figures (after (run ks) k).now c) no_past (asks (push (exchanges c ks) (exchange c (run ks).now k)))
  own_call ks (link l) o second word E = E
  own_call ks (admit y) o second word E = E
  own_call ks (notice len tag) o second word E = E
  own_call ks (close d) o second word E = E
  own_call ks tick o second word E = E
  own_call ks (offer d len tag st) o second word E = go (eqb d c && heard (run ks).now c st) refl
    where
      own : d ≡ c → heard (run ks).now c st ≡ true
          → told (run ks).now d len tag st (verdict (offer d len tag st) (run ks).now)
          ≡ own_stamp_answer (figures (after (run ks) (offer d len tag st)).now c) (remember_all no_past (given (exchanges c ks))) (record { at = (run ks).now.clock; len = len; tag = tag; stamp = st })
      own i hears =
          let b = stands_owned (run ks).now c (heard_parts (run ks).now c st hears).0 in
          let T = all_told ks (ap stamped (alike ks (offer d len tag st) o b) ∙ second) in
          ap (λ (j : ℕ). told (run ks).now j len tag st (verdict (offer j len tag st) (run ks).now)) i
          ∙ own_told (run ks) (invariant ks) (exchanges c ks) (offer_ticks c ks) T len tag st hears
          (λ w. word (run ks).now.clock (cond_is (some (run ks).now.clock) none (and_intro (eqb d c) (allowed (run ks).now c len st) (eq-eqb d c i) (and_intro (heard (run ks).now c st) (within 1 (figures (run ks).now c).size len) hears w))))
          (ap stamped (alike ks (offer d len tag st) o b) ∙ second)
          ∙ ap (λ (m : Past). own_stamp_answer (figures (run ks).now c) m (record { at = (run ks).now.clock; len = len; tag = tag; stamp = st })) (remembered (run ks) (invariant ks) (exchanges c ks) (offer_ticks c ks) T len tag st hears
          (λ w. word (run ks).now.clock (cond_is (some (run ks).now.clock) none (and_intro (eqb d c) (allowed (run ks).now c len st) (eq-eqb d c i) (and_intro (heard (run ks).now c st) (within 1 (figures (run ks).now c).size len) hears w)))))
          ∙ ap (λ (y : Connection). own_stamp_answer y (remember_all no_past (given (exchanges c ks))) (record { at = (run ks).now.clock; len = len; tag = tag; stamp = st })) (alike ks (offer d len tag st) o b)

      go : (b : Bool) → (eqb d c && heard (run ks).now c st) ≡ b
          → push (exchanges c ks) (cond b (some (told (run ks).now d len tag st (verdict (offer d len tag st) (run ks).now))) none)
          ≡ own_stamp_answers (figures (after (run ks) (offer d len tag st)).now c) no_past (asks (push (exchanges c ks) (cond b (some (told (run ks).now d len tag st (verdict (offer d len tag st) (run ks).now))) none)))
      go false e = E
      go true e =
          let p = and_true (eqb d c) (heard (run ks).now c st) e in
          with_one ks (offer d len tag st) o second word E (told (run ks).now d len tag st (verdict (offer d len tag st) (run ks).now)) (own (eqb-true d c p.0) p.1)

  told_own : (c ≡ notice_number → ⊥) → (ks : List Call) → stamped (figures (run ks).now c) ≡ true → Word c ks → exchanges c ks ≡ own_stamp_answers (figures (run ks).now c) no_past (asks (exchanges c ks))
  told_own level = from_end (λ ks. stamped (figures (run ks).now c) ≡ true → Word c ks → exchanges c ks ≡ own_stamp_answers (figures (run ks).now c) no_past (asks (exchanges c ks))) (λ _ _. refl) one
    where
      one : (ks : List Call) (k : Call) → (stamped (figures (run ks).now c) ≡ true → Word c ks → exchanges c ks ≡ own_stamp_answers (figures (run ks).now c) no_past (asks (exchanges c ks)))
          → stamped (figures (run (ks ++ k ∷ [])).now c) ≡ true → Word c (ks ++ k ∷ []) → exchanges c (ks ++ k ∷ []) ≡ own_stamp_answers (figures (run (ks ++ k ∷ [])).now c) no_past (asks (exchanges c (ks ++ k ∷ [])))
      one ks k ih second word =
          subst (λ (h : History). exchanges c (ks ++ k ∷ []) ≡ own_stamp_answers (figures h.now c) no_past (asks (exchanges c (ks ++ k ∷ [])))) (sym (run_last ks k))
          (subst (λ (es : List Exchange). es ≡ own_stamp_answers (figures (after (run ks) k).now c) no_past (asks es)) (sym (exchanges_last c ks k))
          (go (owned (after (run ks) k).now.connections c) refl (subst (λ (h : History). stamped (figures h.now c) ≡ true) (run_last ks k) second)))
        where
          go : (b : Bool) → owned (after (run ks) k).now.connections c ≡ b → stamped (figures (after (run ks) k).now c) ≡ true
              → cond b (push (exchanges c ks) (exchange c (run ks).now k)) [] ≡ own_stamp_answers (figures (after (run ks) k).now c) no_past (asks (cond b (push (exchanges c ks) (exchange c (run ks).now k)) []))
          go false o kind = refl
          go true o kind = let W = word_before c level ks k o word in own_call ks k o kind W.this_one (was W (owned (run ks).now.connections c) refl)
            where
              was : WordBefore c level ks k → (b : Bool) → owned (run ks).now.connections c ≡ b → exchanges c ks ≡ own_stamp_answers (figures (after (run ks) k).now c) no_past (asks (exchanges c ks))
              was W true b =
                  subst (λ (y : Connection). exchanges c ks ≡ own_stamp_answers y no_past (asks (exchanges c ks))) (alike ks k o b) (ih (ap stamped (alike ks k o b) ∙ kind) W.so_far)
              was W false b = subst (λ (es : List Exchange). es ≡ own_stamp_answers (figures (after (run ks) k).now c) no_past (asks es)) (sym (no_exchanges c ks b)) refl

pub told_with_stamps : (ks : List Call) (c : ℕ) → stamped (figures (run ks).now c) ≡ true → KeepsItsWord c ks
    → exchanges c ks ≡ own_stamp_answers (figures (run ks).now c) no_past (asked_of c ks)
told_with_stamps ks c second word = go (same c notice_number)
  where
    go : (c ≡ notice_number) ⊎ (c ≡ notice_number → ⊥) → exchanges c ks ≡ own_stamp_answers (figures (run ks).now c) no_past (asks (exchanges c ks))
    go (inl n) =
        subst (λ (es : List Exchange). es ≡ own_stamp_answers (figures (run ks).now c) no_past (asks es))
        (sym (no_exchanges c ks (subst (λ (j : ℕ). owned (run ks).now.connections j ≡ false) (sym n) (no_owner (run ks).now (invariant ks).sound)))) refl
    go (inr level) = told_own c level ks second (word_is c ks word)

pub alike_with_stamps : (ks ms : List Call) (c d : ℕ) → figures (run ks).now c ≡ figures (run ms).now d → map (λ (e : Exchange). e.asked) (exchanges c ks) ≡ map (λ (e : Exchange). e.asked) (exchanges d ms)
    → stamped (figures (run ks).now c) ≡ true → KeepsItsWord c ks → exchanges c ks ≡ exchanges d ms
alike_with_stamps ks ms c d alike asked second word =
    told_with_stamps ks c second word
    ∙ ap (own_stamp_answers (figures (run ks).now c) no_past) asked
    ∙ ap (λ (y : Connection). own_stamp_answers y no_past (asks (exchanges d ms))) alike
    ∙ sym (told_with_stamps ms d (subst (λ (y : Connection). stamped y ≡ true) alike second) word_there)
  where
    -- it keeps its word there because it asks the same
    word_there : KeepsItsWord d ms
    word_there =
        subst (λ (y : Connection). Spaced y (own_ticks y (asks (exchanges d ms)))) alike
        (subst (λ qs. Spaced (figures (run ks).now c) (own_ticks (figures (run ks).now c) qs)) asked word)
