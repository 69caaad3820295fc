-- Document 02, R-3: what a connection that keeps its word is told is decided by its own figures and its own offer.
use Prim.Native.Nat.{ℕ}
use mathlib.Core.Path.{◌≡◌, refl, sym, ap, ◌∙◌, subst}
use mathlib.Core.Bool.{Bool, true, false, cond, ◌&&◌}
use mathlib.Core.List.{List, [], ◌∷◌, ◌++◌, map}
use mathlib.Core.Option.{Option, none, some}
use lib.Dec.{leb, eqb}
use borrow.Author.Tests.{eqb-true}
use Rattle.rules.specs.Words.{within, push}
use Rattle.rules.specs.Limits.{clock_end, notice_number}
use Rattle.rules.specs.Model.{Connection, State, Call, link, admit, offer, notice, close, tick, figures}
use Rattle.rules.specs.Admission.{owned, stands, stamped}
use Rattle.rules.specs.Service.{Spaced}
use Rattle.rules.specs.Calls.{heard, verdict, eligibility_now, settle}
use Rattle.rules.specs.Runs.{History, after, run_from, nothing_yet, run, allowed, Asked, Exchange, exchange, exchanges, own_ticks, KeepsItsWord}
use Rattle.rules.proofs.RunWords.{first_answer, while_owned, offer_tick, offer_ticks, Word, exchanges_from}
use Rattle.rules.proofs.Lists.{All, all_snoc}
use Rattle.rules.proofs.Sums.{cond_is}
use Rattle.rules.proofs.Tests.{never, and_true, and_intro}
use Rattle.rules.proofs.Rows.{map_append}
use Rattle.rules.proofs.Standing.{stands_owned}
use Rattle.rules.proofs.Verdicts.{heard_parts}
use Rattle.rules.proofs.Invariant.{Invariant}
use Rattle.rules.proofs.Every.{invariant}
use Rattle.rules.proofs.Room.{near_arrival, decided}
use Rattle.rules.proofs.Keeper.{from_end, run_last, ticks_last, owner_stays, kind_before, AllTaken, on_arrival, has_room, no_ticks, word_before, all_taken}

-- ---- an offer of a connection that keeps its word

-- an offer, and the answer to it where the verdict is v
abbrev pub told : State → ℕ → ℕ → ℕ → Option ℕ → ℕ → Exchange
told s c len tag st v = record {
  asked = record { at = s.clock; len = len; tag = tag; stamp = st };
  verdict = (settle (offer c len tag st) s v).verdict;
  eligibility = (settle (offer c len tag st) s v).number;
}

-- it is told what its own figures and its own offer decide
abbrev pub Own : Connection → Exchange → Type 0
Own x e = e ≡ first_answer x e.asked

module _ (c : ℕ) (level : c ≡ notice_number → ⊥) where
  module _ (h : History) (I : Invariant h) (ts : List ℕ) (A : AllTaken c level h.now h.present ts) (first_kind : stamped (figures h.now c) ≡ false) where
    open h use {now as s}

    module _ (len tag : ℕ) (hears : heard s c none ≡ true)
        (word : within 1 (figures s c).size len ≡ true → Spaced (figures s c) (ts ++ s.clock ∷ [])) where
      ok : within 1 (figures s c).size len ≡ true → allowed s c len none ≡ true
      ok w = and_intro (heard s c none) (within 1 (figures s c).size len) hears w

      own_told : Own (figures s c) (told s c len tag none (verdict (offer c len tag none) s))
      own_told =
          ap (told s c len tag none) (decided h I c len tag none hears (λ w. has_room c level h I ts A first_kind len tag (ok w) (word w)) (λ _. refl)
          (λ w. near_arrival s c none (on_arrival c level h I ts A first_kind len tag (ok w) (word w))))
          ∙ go (within 1 (figures s c).size len) (leb clock_end s.clock) (λ w. on_arrival c level h I ts A first_kind len tag (ok w) (word w))
        where
          go : (right ended : Bool) → (right ≡ true → eligibility_now s c none ≡ s.clock)
              → told s c len tag none (cond right (cond ended 13 0) 11)
              ≡ record {
                asked = record { at = s.clock; len = len; tag = tag; stamp = none };
                verdict = cond right (cond ended 13 0) 11;
                eligibility = cond (eqb (cond right (cond ended 13 0) 11) 0) s.clock 0;
              }
          go false f now = refl
          go true true now = refl
          go true false now = ap (λ (e : ℕ). record { asked = record { at = s.clock; len = len; tag = tag; stamp = none }; verdict = 0; eligibility = e }) (now refl)

    -- ---- any call

    own_call : (x : Connection) → (stands s c ≡ true → figures s c ≡ x) → (k : Call)
        → ((t : ℕ) → offer_tick c s k ≡ some t → Spaced (figures s c) (ts ++ t ∷ []))
        → (es : List Exchange) → All (Own x) es → All (Own x) (push es (exchange c s k))
    own_call x alike (link l) word es E = E
    own_call x alike (admit y) word es E = E
    own_call x alike (notice len tag) word es E = E
    own_call x alike (close d) word es E = E
    own_call x alike tick word es E = E
    own_call x alike (offer d len tag st) word es E = go (eqb d c && heard s c st) refl
      where
        -- a connection of the first kind hears no stamp
        own : (st : Option ℕ) → heard s c st ≡ true → ((t : ℕ) → offer_tick c s (offer d len tag st) ≡ some t → Spaced (figures s c) (ts ++ t ∷ [])) → eqb d c ≡ true
            → Own (figures s c) (told s c len tag st (verdict (offer c len tag st) s))
        own none k w i =
            own_told len tag k
            (λ r. w s.clock
            (cond_is (some s.clock) none (and_intro (eqb d c) (allowed s c len none) i (and_intro (heard s c none) (within 1 (figures s c).size len) k r))))
        own (some e) k w i = never (sym first_kind ∙ (heard_parts s c (some e) k).1)

        go : (b : Bool) → (eqb d c && heard s c st) ≡ b → All (Own x) (push es (cond b (some (told s d len tag st (verdict (offer d len tag st) s))) none))
        go false q = E
        go true q =
            let p = and_true (eqb d c) (heard s c st) q in
            all_snoc (Own x) es (told s d len tag st (verdict (offer d len tag st) s)) E
            (subst (λ (j : ℕ). Own x (told s j len tag st (verdict (offer j len tag st) s))) (sym (eqb-true d c p.0))
            (subst (λ (y : Connection). Own y (told s c len tag st (verdict (offer c len tag st) s))) (alike (heard_parts s c st p.1).0)
            (own st p.1 word p.0)))

-- ---- over a run

exchanges_append : (c : ℕ) (pre ks : List Call) (h : History) (es : List Exchange) → exchanges_from c h es (pre ++ ks) ≡ exchanges_from c (run_from h pre) (exchanges_from c h es pre) ks
exchanges_append c [] ks h es = refl
exchanges_append c (k ∷ pre) ks h es = exchanges_append c pre ks (after h k) (while_owned (after h k).now c (push es (exchange c h.now k)))

pub exchanges_last : (c : ℕ) (ks : List Call) (k : Call) → exchanges c (ks ++ k ∷ []) ≡ while_owned (after (run ks) k).now c (push (exchanges c ks) (exchange c (run ks).now k))
exchanges_last c ks k = exchanges_append c ks (k ∷ []) nothing_yet []

module _ (c : ℕ) where
  -- a number without an owner is told nothing
  pub no_exchanges : (ks : List Call) → owned (run ks).now.connections c ≡ false → exchanges c ks ≡ []
  no_exchanges = from_end (λ ks. owned (run ks).now.connections c ≡ false → exchanges c ks ≡ []) (λ _. refl) one
    where
      one : (ks : List Call) (k : Call) → (owned (run ks).now.connections c ≡ false → exchanges c ks ≡ []) → owned (run (ks ++ k ∷ [])).now.connections c ≡ false → exchanges c (ks ++ k ∷ []) ≡ []
      one ks k ih o =
          exchanges_last c ks k
          ∙ cond_is (push (exchanges c ks) (exchange c (run ks).now k)) [] (subst (λ (h : History). owned h.now.connections c ≡ false) (run_last ks k) o)

  -- the owner, if it has its number afterwards, had the same figures before, or nothing was told
  module _ (ks : List Call) (k : Call) (o : owned (after (run ks) k).now.connections c ≡ true) where
    alike : owned (run ks).now.connections c ≡ true → figures (run ks).now c ≡ figures (after (run ks) k).now c
    alike b = sym (owner_stays c (run ks).now (invariant ks).sound b k o)

    alike_standing : stands (run ks).now c ≡ true → figures (run ks).now c ≡ figures (after (run ks) k).now c
    alike_standing b = alike (stands_owned (run ks).now c b)

    same_owner : (P : Connection → List Exchange → Type 0) → ((x : Connection) → P x []) → P (figures (run ks).now c) (exchanges c ks) → P (figures (after (run ks) k).now c) (exchanges c ks)
    same_owner P z p = go (owned (run ks).now.connections c) refl
      where
        go : (b : Bool) → owned (run ks).now.connections c ≡ b → P (figures (after (run ks) k).now c) (exchanges c ks)
        go true b = subst (λ (x : Connection). P x (exchanges c ks)) (alike b) p
        go false b = subst (P (figures (after (run ks) k).now c)) (sym (no_exchanges ks b)) (z (figures (after (run ks) k).now c))

module _ (c : ℕ) (level : c ≡ notice_number → ⊥) where
  pub told_by_own : (ks : List Call) → stamped (figures (run ks).now c) ≡ false → Word c ks → All (Own (figures (run ks).now c)) (exchanges c ks)
  told_by_own = from_end (λ ks. stamped (figures (run ks).now c) ≡ false → Word c ks → All (Own (figures (run ks).now c)) (exchanges c ks)) (λ _ _. tt) one
    where
      one : (ks : List Call) (k : Call) → (stamped (figures (run ks).now c) ≡ false → Word c ks → All (Own (figures (run ks).now c)) (exchanges c ks))
          → stamped (figures (run (ks ++ k ∷ [])).now c) ≡ false → Word c (ks ++ k ∷ []) → All (Own (figures (run (ks ++ k ∷ [])).now c)) (exchanges c (ks ++ k ∷ []))
      one ks k ih kind word =
          subst (λ (h : History). All (Own (figures h.now c)) (exchanges c (ks ++ k ∷ []))) (sym (run_last ks k))
          (subst (All (Own (figures (after (run ks) k).now c))) (sym (exchanges_last c ks k)) (go (owned (after (run ks) k).now.connections c) refl))
        where
          go : (b : Bool) → owned (after (run ks) k).now.connections c ≡ b
              → All (Own (figures (after (run ks) k).now c)) (cond b (push (exchanges c ks) (exchange c (run ks).now k)) [])
          go false o = tt
          go true o =
              let W = word_before c level ks k o word in
              let was = kind_before c (run ks).now (invariant ks).sound k o (subst (λ (h : History). stamped (figures h.now c) ≡ false) (run_last ks k) kind) in
              own_call c level (run ks) (invariant ks) (offer_ticks c ks) (all_taken c level ks was W.so_far) was (figures (after (run ks) k).now c) (alike_standing c ks k o) k W.this_one
              (exchanges c ks) (same_owner c ks k o (λ x es. All (Own x) es) (λ x. tt) (ih was W.so_far))

-- ---- the offers whose ticks count are those among all that have an allowed length

own_ticks_snoc : (x : Connection) (qs : List Asked) (a : Asked)
    → own_ticks x (qs ++ a ∷ []) ≡ push (own_ticks x qs) (cond (within 1 x.size a.len) (some a.at) none)
own_ticks_snoc x [] a = go (within 1 x.size a.len)
  where
    go : (b : Bool) → cond b (a.at ∷ []) [] ≡ push [] (cond b (some a.at) none)
    go true = refl
    go false = refl
own_ticks_snoc x (b ∷ qs) a =
    go (within 1 x.size b.len) (cond (within 1 x.size a.len) (some a.at) none) (own_ticks_snoc x qs a)
  where
    go : (right : Bool) (o : Option ℕ) → own_ticks x (qs ++ a ∷ []) ≡ push (own_ticks x qs) o
        → cond right (b.at ∷ own_ticks x (qs ++ a ∷ [])) (own_ticks x (qs ++ a ∷ [])) ≡ push (cond right (b.at ∷ own_ticks x qs) (own_ticks x qs)) o
    go true none e = ap (λ (ts : List ℕ). b.at ∷ ts) e
    go true (some t) e = ap (λ (ts : List ℕ). b.at ∷ ts) e
    go false o e = e

abbrev pub asks : List Exchange → List Asked
asks es = map (λ (e : Exchange). e.asked) es

module _ (c : ℕ) where
  ticks_call : (s : State) (x : Connection) → (stands s c ≡ true → figures s c ≡ x) → (k : Call) (es : List Exchange)
      → push (own_ticks x (asks es)) (offer_tick c s k) ≡ own_ticks x (asks (push es (exchange c s k)))
  ticks_call s x alike (link l) es = refl
  ticks_call s x alike (admit y) es = refl
  ticks_call s x alike (notice len tag) es = refl
  ticks_call s x alike (close d) es = refl
  ticks_call s x alike tick es = refl
  ticks_call s x alike (offer d len tag st) es = go (eqb d c) (heard s c st) refl
    where
      go : (b : Bool) (standing : Bool) → heard s c st ≡ standing
          → push (own_ticks x (asks es)) (cond (b && (standing && within 1 (figures s c).size len)) (some s.clock) none)
          ≡ own_ticks x (asks (push es (cond (b && standing) (some (told s d len tag st (verdict (offer d len tag st) s))) none)))
      go false standing i = refl
      go true false i = refl
      go true true i =
          ap (λ (y : Connection). push (own_ticks x (asks es)) (cond (within 1 y.size len) (some s.clock) none)) (alike (heard_parts s c st i).0)
          ∙ sym (own_ticks_snoc x (asks es) (record { at = s.clock; len = len; tag = tag; stamp = st }))
          ∙ ap (own_ticks x) (sym (map_append (λ (e : Exchange). e.asked) es (told s d len tag st (verdict (offer d len tag st) s) ∷ [])))

  pub ticks_are_own : (ks : List Call) → offer_ticks c ks ≡ own_ticks (figures (run ks).now c) (asks (exchanges c ks))
  ticks_are_own = from_end (λ ks. offer_ticks c ks ≡ own_ticks (figures (run ks).now c) (asks (exchanges c ks))) refl one
    where
      one : (ks : List Call) (k : Call) → offer_ticks c ks ≡ own_ticks (figures (run ks).now c) (asks (exchanges c ks))
          → offer_ticks c (ks ++ k ∷ []) ≡ own_ticks (figures (run (ks ++ k ∷ [])).now c) (asks (exchanges c (ks ++ k ∷ [])))
      one ks k ih =
          subst (λ (h : History). offer_ticks c (ks ++ k ∷ []) ≡ own_ticks (figures h.now c) (asks (exchanges c (ks ++ k ∷ [])))) (sym (run_last ks k))
          (subst (λ (es : List Exchange). offer_ticks c (ks ++ k ∷ []) ≡ own_ticks (figures (after (run ks) k).now c) (asks es)) (sym (exchanges_last c ks k))
          (ticks_last c ks k ∙ go (owned (after (run ks) k).now.connections c) refl))
        where
          before : owned (after (run ks) k).now.connections c ≡ true → offer_ticks c ks ≡ own_ticks (figures (after (run ks) k).now c) (asks (exchanges c ks))
          before o = was (owned (run ks).now.connections c) refl
            where
              was : (b : Bool) → owned (run ks).now.connections c ≡ b → offer_ticks c ks ≡ own_ticks (figures (after (run ks) k).now c) (asks (exchanges c ks))
              was true b = subst (λ (x : Connection). offer_ticks c ks ≡ own_ticks x (asks (exchanges c ks))) (alike c ks k o b) ih
              was false b = no_ticks c ks b ∙ ap (λ (es : List Exchange). own_ticks (figures (after (run ks) k).now c) (asks es)) (sym (no_exchanges c ks b))

          go : (b : Bool) → owned (after (run ks) k).now.connections c ≡ b
              → cond b (push (offer_ticks c ks) (offer_tick c (run ks).now k)) []
              ≡ own_ticks (figures (after (run ks) k).now c) (asks (cond b (push (exchanges c ks) (exchange c (run ks).now k)) []))
          go false o = refl
          go true o =
              ap (λ (ts : List ℕ). push ts (offer_tick c (run ks).now k)) (before o)
              ∙ ticks_call (run ks).now (figures (after (run ks) k).now c) (alike_standing c ks k o) k (exchanges c ks)

-- ---- so two lines that ask the same are told the same

pub own_answers : (x : Connection) (es : List Exchange) → All (Own x) es → es ≡ map (first_answer x) (asks es)
own_answers x [] E = refl
own_answers x (e ∷ es) E = ap (λ (d : Exchange). d ∷ es) E.0 ∙ ap (λ (ds : List Exchange). first_answer x e.asked ∷ ds) (own_answers x es E.1)

-- a connection keeps its word by the ticks of its offers
pub word_is : (c : ℕ) (ks : List Call) → KeepsItsWord c ks → Word c ks
word_is c ks w = subst (Spaced (figures (run ks).now c)) (sym (ticks_are_own c ks)) w
