-- THE PROOF of specs/TwoHubs: no cause of 17 applies to what comes from the hub before.
use Prim.Native.Nat.{ℕ, ◌+◌, ◌≤◌}
use native.Mathlib.Omega.{arith}
use mathlib.Core.Path.{◌≡◌, refl, sym, ap, ◌∙◌, subst}
use mathlib.Core.Bool.{Bool, true, false, cond, ◌&&◌, true≢false}
use mathlib.Core.Logic.{◌⊎◌, inl, inr}
use mathlib.Core.List.{List, [], ◌∷◌, ◌++◌, map}
use mathlib.Core.Option.{Option, none, some}
use lib.Dec.{eqb}
use lib.ListN.{length, get_elem?}
use borrow.Author.Tests.{eq-eqb, not-true}
use Rattle.rules.specs.Words.{All, Pairs, within, push}
use Rattle.rules.specs.Limits.{notice_number}
use Rattle.rules.specs.Model.{Connection, Packet, State, Call, link, admit, offer, notice, close, tick, past, figures, notice_packet}
use Rattle.rules.specs.Admission.{owned, stands, stamped}
use Rattle.rules.specs.Service.{Spaced, eligibilities, early_at}
use Rattle.rules.specs.Calls.{heard, verdict, eligibility_now, packet, answer}
use Rattle.rules.specs.Runs.{Departure, History, after, run, own_departures, bound_of, allowed, asked_of, Asked, Exchange, exchange, exchanges}
use Rattle.rules.proofs.RunWords.{taken}
use Rattle.rules.proofs.RunWords.{offer_tick, offer_ticks, Word}
use Rattle.rules.specs.Promises.{NoCause, KeptPromise}
use Rattle.rules.specs.TwoHubs.{Follows, Carried, Carries, PassedOn, TwoHubsInARow}
use Rattle.rules.proofs.Lists.{Sub, nil, sub_snoc, sub_more, all_map, all_snoc, all_sub, all_filter, all_every}
use Rattle.rules.proofs.Sums.{same, cond_is}
use Rattle.rules.proofs.Tests.{never, and_intro, within_intro}
use Rattle.rules.proofs.Rows.{none_some, map_append, all_of_map, all_map_of, eligibilities_snoc_same, eligibilities_snoc_other}
use Rattle.rules.proofs.Notices.{of_none}
use Rattle.rules.proofs.Memory.{all_remember_all}
use Rattle.rules.proofs.Standing.{stands_owned}
use Rattle.rules.proofs.Verdicts.{settled, heard_parts, heard_intro, offer_done}
use Rattle.rules.proofs.SoundKept.{fresh_free}
use Rattle.rules.proofs.Invariant.{Invariant}
use Rattle.rules.proofs.KeptBySweep.{of_filter}
use Rattle.rules.proofs.Every.{no_owner, keeps, invariant}
use Rattle.rules.proofs.InTime.{find_all}
use Rattle.rules.proofs.Keeper.{from_end, run_last, owner_stays, kind_before, AllTaken, all_taken, word_before, on_arrival}
use Rattle.rules.proofs.Alone.{word_is, exchanges_last, no_exchanges, asks}
use Rattle.rules.proofs.OwnLine.{no_own, Sent, own_line, own_all, own_spaced, own_lengths}
use Rattle.rules.proofs.Results.{verdicts_of_an_offer, demand_3_for_stamps}

-- ---- hub 2: what was accepted of a connection of the second kind was asked, each with its stamp and the allowance

-- the eligibility that an offer asks for
abbrev due : Connection → Option ℕ → ℕ
due x none = 0
due x (some stamp) = stamp + x.allowance

abbrev dues : Connection → List Exchange → List ℕ
dues x es = map (λ (e : Exchange). due x e.asked.stamp) es

module _ (c : ℕ) where
  none_eligible : (h : History) → Invariant h → owned h.now.connections c ≡ false → eligibilities c h.present ≡ []
  none_eligible h I o =
      ap (λ (ps : List Packet). map (λ p. p.eligibility) ps)
      (of_none c h.present (all_map (λ p f e. true≢false (sym f.owner ∙ ap (owned h.now.connections) e ∙ o)) h.present I.steady.regular.fit))

  module _ (h : History) (I : Invariant h) (level : c ≡ notice_number → ⊥) (x : Connection) (alike : stands h.now c ≡ true → figures h.now c ≡ x) (second : stamped x ≡ true)
      (es : List Exchange) (B : Sub (eligibilities c h.present) (dues x es)) where
    open h use {now as s, present as acc}

    -- one more was asked, or none
    more : (o : Option Exchange) → Sub (eligibilities c acc) (dues x (push es o))
    more none = B
    more (some e) = subst (Sub (eligibilities c acc)) (sym (map_append (λ (e : Exchange). due x e.asked.stamp) es (e ∷ []))) (sub_more (due x e.asked.stamp ∷ []) B)

    asked_offer : (d len tag : ℕ) (st : Option ℕ) → Sub (eligibilities c (push acc (taken (offer d len tag st) s (answer (offer d len tag st) s)))) (dues x (push es (exchange c s (offer d len tag st))))
    asked_offer d len tag st =
        settled (λ a. Sub (eligibilities c (push acc (taken (offer d len tag st) s a))) (dues x (push es (exchange c s (offer d len tag st))))) (offer d len tag st) s (verdict (offer d len tag st) s)
        (λ e. placed e (same d c))
        (λ v. more (exchange c s (offer d len tag st)))
      where
        own : (st : Option ℕ) → verdict (offer c len tag st) s ≡ 0 → Sub (eligibilities c (acc ++ packet s c len tag st ∷ [])) (dues x (push es (exchange c s (offer c len tag st))))
        own none e = let D = offer_done s c len tag none e in never (sym (not-true (stamped (figures s c)) D.suited) ∙ ap stamped (alike D.standing) ∙ second)
        own (some stamp) e =
            let D = offer_done s c len tag (some stamp) e in
            let q : Exchange = record { asked = record { at = s.clock; len = len; tag = tag; stamp = some stamp }; verdict = (answer (offer c len tag (some stamp)) s).verdict; eligibility = (answer (offer c len tag (some stamp)) s).number } in
            let r : eqb c c && heard s c (some stamp) ≡ true = and_intro (eqb c c) (heard s c (some stamp)) (eq-eqb c c refl) (heard_intro s c (some stamp) D.standing D.suited) in
            subst (λ (o : Option Exchange). Sub (eligibilities c (acc ++ packet s c len tag (some stamp) ∷ [])) (dues x (push es o))) (sym (cond_is (some q) none r))
            (subst (λ (l : List ℕ). Sub l (dues x (es ++ q ∷ []))) (sym (eligibilities_snoc_same c acc (packet s c len tag (some stamp)) refl))
            (subst (Sub (eligibilities c acc ++ (stamp + (figures s c).allowance) ∷ [])) (sym (map_append (λ (e : Exchange). due x e.asked.stamp) es (q ∷ [])))
            (subst (λ (y : Connection). Sub (eligibilities c acc ++ (stamp + y.allowance) ∷ []) (dues x es ++ (stamp + x.allowance) ∷ [])) (sym (alike D.standing)) (sub_snoc (stamp + x.allowance) B))))

        placed : verdict (offer d len tag st) s ≡ 0 → (d ≡ c) ⊎ (d ≡ c → ⊥)
            → Sub (eligibilities c (acc ++ packet s d len tag st ∷ [])) (dues x (push es (exchange c s (offer d len tag st))))
        placed e (inl i) =
            subst (λ (j : ℕ). Sub (eligibilities c (acc ++ packet s j len tag st ∷ [])) (dues x (push es (exchange c s (offer j len tag st))))) (sym i)
            (own st (subst (λ (j : ℕ). verdict (offer j len tag st) s ≡ 0) i e))
        placed e (inr i) =
            subst (λ (l : List ℕ). Sub l (dues x (push es (exchange c s (offer d len tag st))))) (sym (eligibilities_snoc_other c acc (packet s d len tag st) i)) (more (exchange c s (offer d len tag st)))

    asked_call : (k : Call) → Sub (eligibilities c (push acc (taken k s (answer k s)))) (dues x (push es (exchange c s k)))
    asked_call (link l) = B
    asked_call (admit y) = B
    asked_call (offer d len tag st) = asked_offer d len tag st
    asked_call (notice len tag) =
        settled (λ a. Sub (eligibilities c (push acc (taken (notice len tag) s a))) (dues x es)) (notice len tag) s (verdict (notice len tag) s)
        (λ _.
        subst (λ (l : List ℕ). Sub l (dues x es))
        (sym (eligibilities_snoc_other c acc (notice_packet (record { len = len; tag = tag; arrival = s.clock })) (λ e. level (sym e)))) B)
        (λ _. B)
    asked_call (close d) = B
    asked_call tick = B

  pub accepted_asked : (ms : List Call) → stamped (figures (run ms).now c) ≡ true → Sub (eligibilities c (run ms).present) (dues (figures (run ms).now c) (exchanges c ms))
  accepted_asked = from_end (λ ms. stamped (figures (run ms).now c) ≡ true → Sub (eligibilities c (run ms).present) (dues (figures (run ms).now c) (exchanges c ms))) (λ _. nil) one
    where
      one : (ms : List Call) (k : Call) → (stamped (figures (run ms).now c) ≡ true → Sub (eligibilities c (run ms).present) (dues (figures (run ms).now c) (exchanges c ms)))
          → stamped (figures (run (ms ++ k ∷ [])).now c) ≡ true → Sub (eligibilities c (run (ms ++ k ∷ [])).present) (dues (figures (run (ms ++ k ∷ [])).now c) (exchanges c (ms ++ k ∷ [])))
      one ms k ih =
          subst (λ (h : History). stamped (figures h.now c) ≡ true → Sub (eligibilities c h.present) (dues (figures h.now c) (exchanges c (ms ++ k ∷ [])))) (sym (run_last ms k))
          (subst (λ (es : List Exchange). stamped (figures (after (run ms) k).now c) ≡ true → Sub (eligibilities c (after (run ms) k).present) (dues (figures (after (run ms) k).now c) es)) (sym (exchanges_last c ms k))
          (go (owned (after (run ms) k).now.connections c) refl))
        where
          go : (b : Bool) → owned (after (run ms) k).now.connections c ≡ b → stamped (figures (after (run ms) k).now c) ≡ true
              → Sub (eligibilities c (after (run ms) k).present) (dues (figures (after (run ms) k).now c) (cond b (push (exchanges c ms) (exchange c (run ms).now k)) []))
          go false o second = subst (λ (l : List ℕ). Sub l []) (sym (none_eligible (after (run ms) k) (keeps (run ms) k (invariant ms)) o)) nil
          go true o second =
              subst (λ (l : List ℕ). Sub l (dues (figures (after (run ms) k).now c) (push (exchanges c ms) (exchange c (run ms).now k))))
              (sym (ap (λ (ps : List Packet). map (λ p. p.eligibility) ps)
              (of_filter c (λ p. owned (after (run ms) k).now.connections p.connection) (λ p i. ap (owned (after (run ms) k).now.connections) i ∙ o) (push (run ms).present (taken k (run ms).now (answer k (run ms).now))))))
              (asked_call (run ms) (invariant ms) level (figures (after (run ms) k).now c) (λ b. alike (stands_owned (run ms).now c b)) second (exchanges c ms) before k)
            where
              level : c ≡ notice_number → ⊥
              level e = true≢false (sym o ∙ subst (λ (j : ℕ). owned (after (run ms) k).now.connections j ≡ false) (sym e) (no_owner (after (run ms) k).now (keeps (run ms) k (invariant ms)).sound))

              alike : owned (run ms).now.connections c ≡ true → figures (run ms).now c ≡ figures (after (run ms) k).now c
              alike b = sym (owner_stays c (run ms).now (invariant ms).sound b k o)

              before : Sub (eligibilities c (run ms).present) (dues (figures (after (run ms) k).now c) (exchanges c ms))
              before = was (owned (run ms).now.connections c) refl
                where
                  was : (b : Bool) → owned (run ms).now.connections c ≡ b → Sub (eligibilities c (run ms).present) (dues (figures (after (run ms) k).now c) (exchanges c ms))
                  was true b =
                      subst (λ (y : Connection). Sub (eligibilities c (run ms).present) (dues y (exchanges c ms))) (alike b)
                      (ih (ap stamped (alike b) ∙ second))
                  was false b =
                      subst (λ (l : List ℕ). Sub l (dues (figures (after (run ms) k).now c) (exchanges c ms))) (sym (none_eligible (run ms) (invariant ms) b))
                      (subst (λ (es : List Exchange). Sub [] (dues (figures (after (run ms) k).now c) es)) (sym (no_exchanges c ms b)) nil)

-- ---- hub 1 to hub 2

-- each offer is carried from one of the departures
carried_each : (delay : ℕ) (Q : Departure → Type 0) (ds : List Departure) (qs : List Asked) → Carries delay ds qs → All Q ds → All (λ q. (d : Departure) × Q d × Carried delay d q) qs
carried_each delay Q ds [] k h = tt
carried_each delay Q [] (q ∷ qs) k h = absurd k
carried_each delay Q (d ∷ ds) (q ∷ qs) (inl k) h = ((d, h.0, k.0), carried_each delay Q ds qs k.1 h.1)
carried_each delay Q (d ∷ ds) (q ∷ qs) (inr k) h = carried_each delay Q ds (q ∷ qs) k h.1

-- the last offer comes from one, and those before it from those before that
record LastCarried (delay : ℕ) (ds : List Departure) (qs : List Asked) (q : Asked) : Type 0 where
  before : List Departure
  it : Departure
  behind : List Departure
  parts : ds ≡ before ++ it ∷ behind
  carried : Carried delay it q
  earlier : Carries delay before qs

last_carried : (delay : ℕ) (ds : List Departure) (qs : List Asked) (q : Asked) → Carries delay ds (qs ++ q ∷ []) → LastCarried delay ds qs q
last_carried delay [] [] q k = absurd k
last_carried delay [] (r ∷ qs) q k = absurd k
last_carried delay (d ∷ ds) [] q (inl k) = record { before = []; it = d; behind = ds; parts = refl; carried = k.0; earlier = tt }
last_carried delay (d ∷ ds) [] q (inr k) =
    let l = last_carried delay ds [] q k in
    record { before = d ∷ l.before; it = l.it; behind = l.behind; parts = ap (λ (x : List Departure). d ∷ x) l.parts; carried = l.carried; earlier = tt }
last_carried delay (d ∷ ds) (r ∷ qs) q (inl k) =
    let l = last_carried delay ds qs q k.1 in
    record { before = d ∷ l.before; it = l.it; behind = l.behind; parts = ap (λ (x : List Departure). d ∷ x) l.parts; carried = l.carried; earlier = inl (k.0, l.earlier) }
last_carried delay (d ∷ ds) (r ∷ qs) q (inr k) =
    let l = last_carried delay ds (r ∷ qs) q k in
    record { before = d ∷ l.before; it = l.it; behind = l.behind; parts = ap (λ (x : List Departure). d ∷ x) l.parts; carried = l.carried; earlier = inr l.earlier }

module _ {A : Type 0} where
  pairs_at : (R : A → A → Type 0) (xs : List A) (y : A) (ys : List A) → Pairs R (xs ++ y ∷ ys) → All (λ x. R x y) xs
  pairs_at R [] y ys h = tt
  pairs_at R (x ∷ xs) y ys h = (all_at xs h.0, pairs_at R xs y ys h.1)
    where
      all_at : (xs : List A) → All (R x) (xs ++ y ∷ ys) → R x y
      all_at [] k = k.0
      all_at (z ∷ xs) k = all_at xs k.1

  all_at : (P : A → Type 0) (xs : List A) (y : A) (ys : List A) → All P (xs ++ y ∷ ys) → P y
  all_at P [] y ys h = h.0
  all_at P (x ∷ xs) y ys h = all_at P xs y ys h.1

  find_at : (xs : List A) (y : A) (ys : List A) → get_elem? (xs ++ y ∷ ys) (length xs) ≡ some y
  find_at [] y ys = refl
  find_at (x ∷ xs) y ys = find_at xs y ys

-- ---- a line that keeps its gap at hub 1: each of its packets was eligible on arrival

module _ (c : ℕ) where
  abbrev OnArrival : Packet → Type 0
  OnArrival p = p.connection ≡ c → p.arrival ≡ p.eligibility

  module _ (h : History) (I : Invariant h) (level : c ≡ notice_number → ⊥) (ts : List ℕ) (A : AllTaken c level h.now h.present ts) (kind : stamped (figures h.now c) ≡ false) (P : All OnArrival h.present) where
    open h use {now as s, present as acc}

    arrives : (d len tag : ℕ) (st : Option ℕ) → (d ≡ c → allowed s c len st ≡ true → Spaced (figures s c) (ts ++ s.clock ∷ []))
        → All OnArrival (push acc (taken (offer d len tag st) s (answer (offer d len tag st) s)))
    arrives d len tag st word =
        settled (λ a. All OnArrival (push acc (taken (offer d len tag st) s a))) (offer d len tag st) s (verdict (offer d len tag st) s)
        (λ e. all_snoc OnArrival acc (packet s d len tag st) P (λ i. own st i (subst (λ (j : ℕ). verdict (offer j len tag st) s ≡ 0) i e) (word i)))
        (λ _. P)
      where
        own : (st : Option ℕ) → d ≡ c → verdict (offer c len tag st) s ≡ 0 → (allowed s c len st ≡ true → Spaced (figures s c) (ts ++ s.clock ∷ [])) → s.clock ≡ eligibility_now s d st
        own none i e w =
            let D = offer_done s c len tag none e in
            let ok = and_intro (heard s c none) (within 1 (figures s c).size len) (heard_intro s c none D.standing D.suited) (within_intro 1 (figures s c).size len D.some_len D.len_le) in
            subst (λ (j : ℕ). s.clock ≡ eligibility_now s j none) (sym i) (sym (on_arrival c level h I ts A kind len tag ok (w ok)))
        own (some stamp) i e w = never (sym kind ∙ (offer_done s c len tag (some stamp) e).suited)

  -- one call more
  still_on_arrival : (level : c ≡ notice_number → ⊥) (ks : List Call) → stamped (figures (run ks).now c) ≡ false → Word c ks → All OnArrival (run ks).present
      → (k : Call) → ((t : ℕ) → offer_tick c (run ks).now k ≡ some t → Spaced (figures (run ks).now c) (offer_ticks c ks ++ t ∷ []))
      → All OnArrival (push (run ks).present (taken k (run ks).now (answer k (run ks).now)))
  still_on_arrival level ks kind word P (link l) w = P
  still_on_arrival level ks kind word P (admit x) w = P
  still_on_arrival level ks kind word P (offer d len tag st) w =
      arrives (run ks) (invariant ks) level (offer_ticks c ks) (all_taken c level ks kind word) kind P d len tag st
      (λ i ok. w (run ks).now.clock (cond_is (some (run ks).now.clock) none (and_intro (eqb d c) (allowed (run ks).now c len st) (eq-eqb d c i) ok)))
  still_on_arrival level ks kind word P (notice len tag) w =
      settled (λ a. All OnArrival (push (run ks).present (taken (notice len tag) (run ks).now a))) (notice len tag) (run ks).now (verdict (notice len tag) (run ks).now)
      (λ _. all_snoc OnArrival (run ks).present (notice_packet (record { len = len; tag = tag; arrival = (run ks).now.clock })) P (λ i. absurd (level (sym i))))
      (λ _. P)
  still_on_arrival level ks kind word P (close d) w = P
  still_on_arrival level ks kind word P tick w = P

  pub all_on_arrival : (c ≡ notice_number → ⊥) → (ks : List Call) → stamped (figures (run ks).now c) ≡ false → Word c ks → All OnArrival (run ks).present
  all_on_arrival level = from_end (λ ks. stamped (figures (run ks).now c) ≡ false → Word c ks → All OnArrival (run ks).present) (λ _ _. tt) one
    where
      one : (ks : List Call) (k : Call) → (stamped (figures (run ks).now c) ≡ false → Word c ks → All OnArrival (run ks).present)
          → stamped (figures (run (ks ++ k ∷ [])).now c) ≡ false → Word c (ks ++ k ∷ []) → All OnArrival (run (ks ++ k ∷ [])).present
      one ks k ih kind word =
          subst (λ (h : History). All OnArrival h.present) (sym (run_last ks k)) (go (owned (after (run ks) k).now.connections c) refl)
        where
          go : (b : Bool) → owned (after (run ks) k).now.connections c ≡ b → All OnArrival (after (run ks) k).present
          go false o =
              all_map (λ p f i. absurd (true≢false (sym f.0 ∙ ap (owned (after (run ks) k).now.connections) i ∙ o))) (after (run ks) k).present
              (all_filter (λ _. Unit {0}) (λ p. owned (after (run ks) k).now.connections p.connection) (push (run ks).present (taken k (run ks).now (answer k (run ks).now)))
              (all_every (λ _. tt) (push (run ks).present (taken k (run ks).now (answer k (run ks).now)))))
          go true o =
              let W = word_before c level ks k o word in
              let was = kind_before c (run ks).now (invariant ks).sound k o (subst (λ (h : History). stamped (figures h.now c) ≡ false) (run_last ks k) kind) in
              all_map (λ p f. f.1) (after (run ks) k).present
              (all_filter OnArrival (λ p. owned (after (run ks) k).now.connections p.connection) (push (run ks).present (taken k (run ks).now (answer k (run ks).now)))
              (still_on_arrival level ks was W.so_far (ih was W.so_far) k W.this_one))

-- ---- THE OFFER AT HUB 2

module _ (ks earlier later : List Call) (c c2 delay len tag : ℕ) (F : Follows (run ks).now (run earlier).now c c2 delay) where
  open run earlier use {now as s, present as acc}

  x : Connection
  x = figures s c2

  -- it is asked last
  asked_last : (st : Option ℕ) → heard s c2 st ≡ true
      → asked_of c2 (earlier ++ offer c2 len tag st ∷ []) ≡ asked_of c2 earlier ++ record { at = s.clock; len = len; tag = tag; stamp = st } ∷ []
  asked_last st hears =
      ap asks
      (exchanges_last c2 earlier (offer c2 len tag st)
      ∙ cond_is (push (exchanges c2 earlier) (exchange c2 s (offer c2 len tag st))) [] owner_after
      ∙ ap (push (exchanges c2 earlier)) (cond_is (some q) none (and_intro (eqb c2 c2) (heard s c2 st) (eq-eqb c2 c2 refl) hears)))
      ∙ map_append (λ (e : Exchange). e.asked) (exchanges c2 earlier) (q ∷ [])
    where
      q : Exchange
      q = record { asked = record { at = s.clock; len = len; tag = tag; stamp = st }; verdict = (answer (offer c2 len tag st) s).verdict; eligibility = (answer (offer c2 len tag st) s).number }

      owner_after : owned (answer (offer c2 len tag st) s).next.connections c2 ≡ true
      owner_after =
          let o = stands_owned s c2 (heard_parts s c2 st hears).0 in
          settled (λ a. owned a.next.connections c2 ≡ true) (offer c2 len tag st) s (verdict (offer c2 len tag st) s) (λ _. o) (λ _. o)

  module _ (before behind : List Departure) (d : Departure) (parts : own_departures c ks ≡ before ++ d ∷ behind) (so_far : Carries delay before (asked_of c2 earlier))
      (carried : Carried delay d (record { at = s.clock; len = len; tag = tag; stamp = some d.what.eligibility })) (hears : heard s c2 (some d.what.eligibility) ≡ true) where
    e : ℕ
    e = d.what.eligibility

    sent : Sent c (bound_of (run ks).now c) (early_at (run ks).now c) d
    sent = all_at (Sent c (bound_of (run ks).now c) (early_at (run ks).now c)) before d behind (subst (All (Sent c (bound_of (run ks).now c) (early_at (run ks).now c))) parts (own_line c ks).sent)

    length_in : (1 ≤ d.what.len) × (d.what.len ≤ (figures (run ks).now c).size)
    length_in =
        all_at (λ y. (1 ≤ y.what.len) × (y.what.len ≤ (figures (run ks).now c).size)) before d behind
        (subst (All (λ y. (1 ≤ y.what.len) × (y.what.len ≤ (figures (run ks).now c).size))) parts (own_lengths c ks))

    ok : allowed s c2 len (some d.what.eligibility) ≡ true
    ok =
        and_intro (heard s c2 (some d.what.eligibility)) (within 1 (figures s c2).size len) hears
        (within_intro 1 (figures s c2).size len (omega (arith, carried.same_len, length_in.0)) (omega (arith, carried.same_len, length_in.1, F.same_size)))

    -- every departure before it was eligible a gap earlier
    gaps : All (λ y. y.what.eligibility + (figures (run ks).now c).gap ≤ d.what.eligibility) before
    gaps =
        pairs_at (λ y z. y.what.eligibility + (figures (run ks).now c).gap ≤ z.what.eligibility) before d behind
        (subst (Pairs (λ y z. y.what.eligibility + (figures (run ks).now c).gap ≤ z.what.eligibility)) parts (own_spaced c ks))

    -- so every eligibility that c2 was given is a gap earlier
    abbrev Earlier : ℕ → Type 0
    Earlier f = f + (figures s c2).gap ≤ d.what.eligibility + (figures s c2).allowance

    due_earlier : (q : Exchange) → (y : Departure) × (y.what.eligibility + (figures (run ks).now c).gap ≤ d.what.eligibility) × Carried delay y q.asked → Earlier (due (figures s c2) q.asked.stamp)
    due_earlier q k = subst (λ (o : Option ℕ). Earlier (due (figures s c2) o)) (sym k.2.stamp) (omega (arith, k.1, F.same_gap))

    given_earlier : All Earlier (eligibilities c2 acc)
    given_earlier =
        all_sub Earlier (accepted_asked c2 earlier F.second_kind)
        (all_map_of (λ (q : Exchange). due (figures s c2) q.asked.stamp) Earlier (exchanges c2 earlier)
        (all_map due_earlier (exchanges c2 earlier)
        (all_of_map (λ (q : Exchange). q.asked) (λ q. (y : Departure) × (y.what.eligibility + (figures (run ks).now c).gap ≤ d.what.eligibility) × Carried delay y q) (exchanges c2 earlier)
        (carried_each delay (λ y. y.what.eligibility + (figures (run ks).now c).gap ≤ d.what.eligibility) before (asked_of c2 earlier) so_far gaps))))

    past_earlier : All Earlier (past s c2)
    past_earlier =
        subst (All Earlier) (sym ((invariant earlier).steady.regular.remembered c2 (stands_owned s c2 (heard_parts s c2 (some d.what.eligibility) hears).0)))
        (all_remember_all Earlier (eligibilities c2 acc) [] tt given_earlier)

    no_cause : NoCause s c2 d.what.eligibility
    no_cause = record {
      not_later = omega (arith, sent.not_early F.never_early, carried.after_finish);
      not_over = omega (arith, sent.not_late, carried.within_delay, F.allowance);
      gap_after = λ last i. find_all Earlier (past s c2) 0 last past_earlier i;
    }

    promise : KeptPromise earlier later c2 len tag (some d.what.eligibility) (eligibility_now (run earlier).now c2 (some d.what.eligibility))
    promise = demand_3_for_stamps earlier later c2 len tag d.what.eligibility ok no_cause

    abbrev total_delay : ℕ
    total_delay = bound_of (run ks).now c + delay

    -- .. with the eligibility that hub 2 gives it
    kept : KeptPromise earlier later c2 len tag (some d.what.eligibility) (d.what.eligibility + total_delay)
    kept = subst (λ (a : ℕ). KeptPromise earlier later c2 len tag (some d.what.eligibility) (d.what.eligibility + a)) F.allowance promise

    -- the number of c is a connection's
    level : c ≡ notice_number → ⊥
    level i =
        none_some
        (ap (λ (l : List Departure). get_elem? l (length before))
        (sym (no_own c ks (subst (λ (j : ℕ). owned (run ks).now.connections j ≡ false) (sym i) (no_owner (run ks).now (invariant ks).sound))) ∙ parts)
        ∙ find_at before d behind)

    on_its_arrival : stamped (figures (run ks).now c) ≡ false → Word c ks → d.what.eligibility ≡ d.what.arrival
    on_its_arrival kind word =
        sym
        (all_at (λ y. y.what.arrival ≡ y.what.eligibility) before d behind
        (subst (All (λ y. y.what.arrival ≡ y.what.eligibility)) parts (own_all c ks (λ p. p.arrival ≡ p.eligibility) (all_on_arrival c level ks kind word))))

    passed_on : PassedOn ks earlier later c c2 delay len tag (some d.what.eligibility) d
    passed_on = record {
      place = length before;
      is_departure = ap (λ (l : List Departure). get_elem? l (length before)) parts ∙ find_at before d behind;
      carried = carried;
      never_17 = λ v. not_seventeen v;
      kept = kept;
      since_arrival = λ kind word. subst (λ (f : ℕ). KeptPromise earlier later c2 len tag (some d.what.eligibility) (f + total_delay)) (on_its_arrival kind (word_is c ks word)) kept;
    }
      where
        not_seventeen : (answer (offer c2 len tag (some d.what.eligibility)) s).verdict ≡ 17 → ⊥
        not_seventeen v =
            (((verdicts_of_an_offer s c2 len tag (some d.what.eligibility) (invariant earlier).sound
            (λ z. true≢false (sym (stands_owned s c2 (heard_parts s c2 (some d.what.eligibility) hears).0) ∙ subst (λ (r : State). owned r.connections c2 ≡ false) (sym ((invariant earlier).sound.with_no_link z)) (fresh_free c2)))
            ).seventeen d.what.eligibility refl).0 v).1 no_cause

pub two_hubs_in_a_row : TwoHubsInARow
two_hubs_in_a_row ks earlier later c c2 delay len tag st F hears C =
    let q : Asked = record { at = (run earlier).now.clock; len = len; tag = tag; stamp = st } in
    let L = last_carried delay (own_departures c ks) (asked_of c2 earlier) q (subst (Carries delay (own_departures c ks)) (asked_last ks earlier later c c2 delay len tag F st hears) C) in
    let i : some L.it.what.eligibility ≡ st = sym L.carried.stamp in (
      L.it,
      subst (λ (o : Option ℕ). PassedOn ks earlier later c c2 delay len tag o L.it) i
          (passed_on ks earlier later c c2 delay len tag F L.before L.behind L.it L.parts L.earlier
          (subst (λ (o : Option ℕ). Carried delay L.it (record { at = (run earlier).now.clock; len = len; tag = tag; stamp = o })) (sym i) L.carried)
          (subst (λ (o : Option ℕ). heard (run earlier).now c2 o ≡ true) (sym i) hears)),
    )
