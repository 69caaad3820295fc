-- What a connection that offers at most p / 2 packets in each frame is told is decided by the link, its own figures and its own offers.
use Prim.Native.Nat.{ℕ, zero, suc, ◌+◌, ◌<◌}
use native.Mathlib.Omega.{arith}
use mathlib.Core.Path.{◌≡◌, refl, sym, ap, ◌∙◌, subst}
use mathlib.Core.Bool.{Bool, true, false, cond, not, ◌&&◌}
use mathlib.Core.List.{List, [], ◌∷◌, ◌++◌, map, append_assoc, append-nil}
use mathlib.Core.Option.{Option, none, some}
use lib.Dec.{leb, ltb, eqb}
use lib.ListN.{length}
use borrow.Author.Tests.{eqb-true, eq-eqb, ne_eqb, lt-leb}
use Rattle.rules.specs.declared.Packet.{Packet}
use Rattle.rules.specs.Words.{All, within, push}
use Rattle.rules.specs.Limits.{clock_end, notice_number}
use Rattle.rules.specs.Model.{notice_packet}
use Rattle.rules.specs.Service.{of}
use Rattle.rules.specs.Runs.{Asked, Exchange}
use Rattle.rules.proofs.Lists.{all_snoc}
use Rattle.rules.proofs.Sums.{cond_is}
use Rattle.rules.proofs.Tests.{never, and_true}
use Rattle.rules.proofs.Rows.{map_append, of_snoc_same, of_snoc_other}
use Rattle.frames.specs.Model.{Framing, Share, State, Call, link, admit, offer, notice, tick, figures, Answer}
use Rattle.frames.specs.Admission.{cost, stands}
use Rattle.frames.specs.Service.{next_frame, used}
use Rattle.frames.specs.SoundState.{Sound}
use Rattle.frames.specs.SoundTest.{sound}
use Rattle.frames.specs.Calls.{verdicts, verdict, done, settle, answer}
use Rattle.frames.specs.Runs.{exchanges_from, asks}
use Rattle.frames.proofs.RowLaws.{total_append}
use Rattle.frames.proofs.Figures.{stands_below, nth_old, length_snoc}
use Rattle.frames.proofs.Verdicts.{settled, link_done, offer_done}
use Rattle.frames.proofs.SoundExact.{exact}
use Rattle.frames.proofs.Invariant.{Invariant}
use Rattle.frames.proofs.Every.{keeps}
use Rattle.frames.proofs.Half.{ask_of, use_by_offers, has_room}
use Rattle.frames.proofs.Names.{taken_so_far, own_answer, told_after, exchange_in, packet, new_notice, History, taken, after, run_from, offer_in, HalfAtMost, granted, own_verdict, own_exchanges, ticked_is}

-- ---- the figures of a connection that stands, and the link, stay

-- a connection stands only where a link is set
pub standing_linked : (s : State) → Sound s → (c : ℕ) → c < length s.connections → s.link.frame ≡ 0 → ⊥
standing_linked s S c b z = omega (arith, ap (λ (r : State). length r.connections) (S.with_no_link z))

pub few_connections : (s : State) → Sound s → (c : ℕ) → c < length s.connections → c ≡ notice_number → ⊥
few_connections s S c b e = omega (arith, (S.with_one (standing_linked s S c b)).few)

module _ (c : ℕ) where
  pub record Stays (s r : State) : Type 0 where
    pub still : c < length r.connections
    pub alike : figures r c ≡ figures s c
    pub same_link : r.link ≡ s.link

  done_stays : (k : Call) (s : State) → Sound s → c < length s.connections → verdict k s ≡ 0 → Stays s (done k s).next
  done_stays (link l) s S b e = absurd (standing_linked s S c b (link_done s l e).unset)
  done_stays (admit x) s S b e = record { still = omega (arith, length_snoc s.connections x); alike = nth_old s.connections x c b; same_link = refl }
  done_stays (offer d len tag) s S b e = record { still = b; alike = refl; same_link = refl }
  done_stays (notice len tag) s S b e = record { still = b; alike = refl; same_link = refl }
  done_stays tick s S b e = subst (λ (a : Answer). Stays s a.next) (sym (ticked_is s)) (record { still = b; alike = refl; same_link = refl })

  pub stays : (ks : List Call) (h : History) → Invariant h → c < length h.now.connections → Stays h.now (run_from h ks).now
  stays [] h I b = record { still = b; alike = refl; same_link = refl }
  stays (k ∷ ks) h I b =
      let a : Stays h.now (answer k h.now).next
      = settled (λ a. Stays h.now a.next) k h.now (verdict k h.now) (done_stays k h.now I.sound b) (λ _. record { still = b; alike = refl; same_link = refl }) in
      let r = stays ks (after h k) (keeps h k I) a.still in
      record { still = r.still; alike = r.alike ∙ a.alike; same_link = r.same_link ∙ a.same_link }

-- ---- an offer, and the answer to it where the verdict is v

abbrev pub told : State → ℕ → ℕ → ℕ → ℕ → Exchange
told s c len tag v = record {
  asked = record { at = s.clock; len = len; tag = tag; stamp = none };
  verdict = (settle (offer c len tag) s v).verdict;
  eligibility = (settle (offer c len tag) s v).number;
}

told_is : (s : State) (c len tag v : ℕ)
    → told s c len tag v ≡ record { asked = record { at = s.clock; len = len; tag = tag; stamp = none }; verdict = v; eligibility = cond (eqb v 0) (next_frame s.link.frame s.clock) 0 }
told_is s c len tag zero = refl
told_is s c len tag (suc v) =
    ap (λ (e : ℕ). record { asked = record { at = s.clock; len = len; tag = tag; stamp = none }; verdict = suc v; eligibility = e })
    (sym (cond_is (next_frame s.link.frame s.clock) 0 (ne_eqb (suc v) 0 (λ e. omega arith))))

granted_snoc : (es : List Exchange) (e : Exchange) → granted (es ++ e ∷ []) ≡ granted es ++ cond (eqb e.verdict 0) (e.asked ∷ []) []
granted_snoc [] e = refl
granted_snoc (d ∷ es) e = go (eqb d.verdict 0) (granted_snoc es e)
  where
    go : (b : Bool) → granted (es ++ e ∷ []) ≡ granted es ++ cond (eqb e.verdict 0) (e.asked ∷ []) []
        → cond b (d.asked ∷ granted (es ++ e ∷ [])) (granted (es ++ e ∷ [])) ≡ cond b (d.asked ∷ granted es) (granted es) ++ cond (eqb e.verdict 0) (e.asked ∷ []) []
    go true k = ap (λ (l : List Asked). d.asked ∷ l) k
    go false k = k

module _ (c : ℕ) (level : c ≡ notice_number → ⊥) where
  -- the accepted packets of c are the offers that were granted
  abbrev pub GrantedAre : List Packet → List Exchange → Type 0
  GrantedAre acc es = map ask_of (of c acc) ≡ granted es

  module _ (s : State) (acc : List Packet) (es : List Exchange) (G : GrantedAre acc es) where
    -- an offer with the verdict v
    offer_granted : (d len tag v : ℕ) → (v ≡ 0 → stands s.connections d ≡ true)
        → GrantedAre (push acc (taken (offer d len tag) s (settle (offer d len tag) s v))) (push es (cond (eqb d c && stands s.connections c) (some (told s d len tag v)) none))
    offer_granted d len tag zero standing = go (eqb d c) refl
      where
        p : Packet
        p = packet s d len tag

        go : (b : Bool) → eqb d c ≡ b → GrantedAre (acc ++ packet s d len tag ∷ []) (push es (cond (b && stands s.connections c) (some (told s d len tag 0)) none))
        go true e =
            subst (λ (b : Bool). GrantedAre (acc ++ packet s d len tag ∷ []) (push es (cond b (some (told s d len tag 0)) none)))
            (sym (ap (stands s.connections) (sym (eqb-true d c e)) ∙ standing refl))
            (ap (map ask_of) (of_snoc_same c acc (packet s d len tag) (eqb-true d c e))
            ∙ map_append ask_of (of c acc) (packet s d len tag ∷ [])
            ∙ ap (λ (l : List Asked). l ++ ask_of (packet s d len tag) ∷ []) G
            ∙ sym (granted_snoc es (told s d len tag 0)))
        go false e = ap (map ask_of) (of_snoc_other c acc (packet s d len tag) (λ i. never (sym (sym (eq-eqb d c i) ∙ e)))) ∙ G
    offer_granted d len tag (suc v) standing = go (eqb d c && stands s.connections c)
      where
        go : (b : Bool) → GrantedAre acc (push es (cond b (some (told s d len tag (suc v))) none))
        go false = G
        go true =
            G
            ∙ sym (append-nil (granted es))
            ∙ sym (granted_snoc es (told s d len tag (suc v)) ∙ ap (λ (l : List Asked). granted es ++ l) (cond_is ((told s d len tag (suc v)).asked ∷ []) [] (ne_eqb (suc v) 0 (λ e. omega arith))))

  -- a notice is no connection's
  notice_silent : (s : State) (len tag : ℕ) → exchange_in c s (notice len tag) ≡ none
  notice_silent s len tag =
      ap (λ (b : Bool). cond (b && stands s.connections c) (some (record { asked = record { at = s.clock; len = len; tag = tag; stamp = none }; verdict = (answer (notice len tag) s).verdict; eligibility = (answer (notice len tag) s).number })) none)
      (ne_eqb notice_number c (λ e. level (sym e)))

  pub call_granted : (h : History) (es : List Exchange) → GrantedAre h.accepted es → (k : Call) → GrantedAre (after h k).accepted (push es (exchange_in c h.now k))
  call_granted h es G (link l) = settled (λ a. GrantedAre (push h.accepted (taken (link l) h.now a)) es) (link l) h.now (verdict (link l) h.now) (λ _. G) (λ _. G)
  call_granted h es G (admit x) = settled (λ a. GrantedAre (push h.accepted (taken (admit x) h.now a)) es) (admit x) h.now (verdict (admit x) h.now) (λ _. G) (λ _. G)
  call_granted h es G (offer d len tag) =
      offer_granted h.now h.accepted es G d len tag (verdict (offer d len tag) h.now) (λ e. (offer_done h.now d len tag e).standing)
  call_granted h es G (notice len tag) =
      subst (λ (o : Option Exchange). GrantedAre (after h (notice len tag)).accepted (push es o)) (sym (notice_silent h.now len tag))
      (settled (λ a. GrantedAre (push h.accepted (taken (notice len tag) h.now a)) es) (notice len tag) h.now (verdict (notice len tag) h.now)
      (λ _. ap (map ask_of) (of_snoc_other c h.accepted (notice_packet (new_notice h.now len tag)) (λ e. level (sym e))) ∙ G) (λ _. G))
  call_granted h es G tick = settled (λ a. GrantedAre (push h.accepted (taken tick h.now a)) es) tick h.now (verdict tick h.now) (λ _. G) (λ _. G)

  -- ---- an offer of its own

  module _ (h : History) (I : Invariant h) (es : List Exchange) (G : GrantedAre h.accepted es) (len tag : ℕ) (standing : stands h.now.connections c ≡ true) where
    open h use {now as s}

    abbrev a : Asked
    a = record { at = s.clock; len = len; tag = tag; stamp = none }

    set : s.link.frame ≡ 0 → ⊥
    set = standing_linked s I.sound c (stands_below s.connections c standing)

    decided : HalfAtMost s.link (figures s c) (asks es ++ a ∷ []) → verdict (offer c len tag) s ≡ own_verdict s.link (figures s c) es a
    unfolding verdicts
    decided half =
        go (not (sound s)) (eqb s.link.frame 0) (not (stands s.connections c)) (within 1 s.link.largest len)
        (leb (figures s c).places (length (of c s.held))) (leb clock_end s.clock)
        (ltb (figures s c).units (used s.link s.clock c s.held + cost s.link len))
        (ltb (figures s c).units (taken_so_far s.link s.clock es + cost s.link len))
        (ap not ((exact s).1 I.sound)) (ne_eqb s.link.frame 0 set) (ap not standing)
        (λ w. lt-leb _ _ (has_room h I c level es G (I.sound.with_one set) (figures s c) a refl w half))
        (ap (λ (n : ℕ). ltb (figures s c).units (n + cost s.link len)) (use_by_offers h I c level es G))
      where
        go : (unsound unset gone right full ended over past : Bool) → unsound ≡ false → unset ≡ false → gone ≡ false → (right ≡ true → full ≡ false) → over ≡ past
            → ◌≡◌ {A = ℕ} (cond unsound 1 (cond unset 2 (cond gone 10 (cond (not right) 11 (cond full 12 (cond ended 13 (cond over 19 0))))))) (cond (not right) 11 (cond ended 13 (cond past 19 0)))
        go true b c d e f g m i j k l n = never (sym i)
        go false true c d e f g m i j k l n = never (sym j)
        go false false true d e f g m i j k l n = never (sym k)
        go false false false false e f g m i j k l n = refl
        go false false false true true f g m i j k l n = never (sym (l refl))
        go false false false true false f g m i j k l n = ap (λ (b : Bool). cond f 13 (cond b 19 0)) n

    pub own_told : HalfAtMost s.link (figures s c) (asks es ++ a ∷ []) → told s c len tag (verdict (offer c len tag) s) ≡ own_answer s.link (figures s c) es a
    own_told half = ap (told s c len tag) (decided half) ∙ told_is s c len tag (own_verdict s.link (figures s c) es a)

  -- ---- over a run

  told_snoc : (l : Framing) (x : Share) (es : List Exchange) (qs : List Asked) (a : Asked)
      → told_after l x es (qs ++ a ∷ []) ≡ told_after l x es qs ++ own_answer l x (told_after l x es qs) a ∷ []
  told_snoc l x es [] a = refl
  told_snoc l x es (q ∷ qs) a = told_snoc l x (es ++ own_answer l x es q ∷ []) qs a

  exchanges_grow : (ks : List Call) (h : History) (es : List Exchange) → (more : List Exchange) × (exchanges_from c h.now es ks ≡ es ++ more)
  exchanges_grow [] h es = ([], sym (append-nil es))
  exchanges_grow (k ∷ ks) h es = go (exchange_in c h.now k) (λ us. exchanges_grow ks (after h k) us)
    where
      go : (o : Option Exchange) → ((us : List Exchange) → (more : List Exchange) × (exchanges_from c (after h k).now us ks ≡ us ++ more))
          → (more : List Exchange) × (exchanges_from c (after h k).now (push es o) ks ≡ es ++ more)
      go none f = f es
      go (some e) f = let r = f (es ++ e ∷ []) in (e ∷ r.0, r.1 ∙ append_assoc es (e ∷ []) r.0)

  -- the half of a whole run is the half of its beginning
  half_front : (l : Framing) (x : Share) (qs more : List Asked) → HalfAtMost l x (qs ++ more) → HalfAtMost l x qs
  half_front l x qs more half f = omega (arith, half f, total_append (offer_in l f) qs more)

  half_so_far : (l : Framing) (x : Share) (ks : List Call) (h : History) (es : List Exchange) → HalfAtMost l x (asks (exchanges_from c h.now es ks)) → HalfAtMost l x (asks es)
  half_so_far l x ks h es half =
      let g = exchanges_grow ks h es in
      half_front l x (asks es) (asks g.0) (subst (HalfAtMost l x) (ap asks g.1 ∙ map_append (λ (e : Exchange). e.asked) es g.0) half)

  abbrev OwnSoFar : Framing → Share → List Exchange → Type 0
  OwnSoFar l x es = es ≡ own_exchanges l x (asks es)

  own_snoc : (l : Framing) (x : Share) (es : List Exchange) (e : Exchange) (a : Asked) → e.asked ≡ a → OwnSoFar l x es → e ≡ own_answer l x es a → OwnSoFar l x (es ++ e ∷ [])
  own_snoc l x es e a i O k =
      ap (λ (d : Exchange). es ++ d ∷ []) k
      ∙ ap (λ (ds : List Exchange). ds ++ own_answer l x ds a ∷ []) O
      ∙ sym (told_snoc l x [] (asks es) a)
      ∙ ap (λ (b : Asked). own_exchanges l x (asks es ++ b ∷ [])) (sym i)
      ∙ ap (own_exchanges l x) (sym (map_append (λ (d : Exchange). d.asked) es (e ∷ [])))

  own_call : (h : History) (I : Invariant h) (es : List Exchange) → GrantedAre h.accepted es → (l : Framing) (x : Share)
      → (stands h.now.connections c ≡ true → (h.now.link ≡ l) × (figures h.now c ≡ x))
      → (k : Call) → HalfAtMost l x (asks (push es (exchange_in c h.now k))) → OwnSoFar l x es → OwnSoFar l x (push es (exchange_in c h.now k))
  own_call h I es G l x alike (link m) half O = O
  own_call h I es G l x alike (admit y) half O = O
  own_call h I es G l x alike (notice len tag) half O = subst (λ (o : Option Exchange). OwnSoFar l x (push es o)) (sym (notice_silent h.now len tag)) O
  own_call h I es G l x alike tick half O = O
  own_call h I es G l x alike (offer d len tag) half O = go (eqb d c && stands h.now.connections c) refl half
    where
      s : State
      s = h.now

      go : (b : Bool) → (eqb d c && stands h.now.connections c) ≡ b
          → HalfAtMost l x (asks (push es (cond b (some (told h.now d len tag (verdict (offer d len tag) h.now))) none)))
          → OwnSoFar l x (push es (cond b (some (told h.now d len tag (verdict (offer d len tag) h.now))) none))
      go false q f = O
      go true q f =
          let p = and_true (eqb d c) (stands h.now.connections c) q in
          let same_d : d ≡ c = eqb-true d c p.0 in
          let a : Asked = record { at = h.now.clock; len = len; tag = tag; stamp = none } in
          let e = told h.now d len tag (verdict (offer d len tag) h.now) in
          let half_now : HalfAtMost l x (asks es ++ a ∷ []) = subst (HalfAtMost l x) (map_append (λ (u : Exchange). u.asked) es (e ∷ [])) f in
          own_snoc l x es e a refl O
          (ap (λ (j : ℕ). told h.now j len tag (verdict (offer j len tag) h.now)) same_d
          ∙ own_told h I es G len tag p.1
          (subst (λ (y : Share). HalfAtMost h.now.link y (asks es ++ a ∷ [])) (sym (alike p.1).1)
          (subst (λ (m : Framing). HalfAtMost m x (asks es ++ a ∷ [])) (sym (alike p.1).0) half_now))
          ∙ ap (λ (y : Share). own_answer h.now.link y es a) (alike p.1).1
          ∙ ap (λ (m : Framing). own_answer m x es a) (alike p.1).0)

  pub told_by_own : (ks : List Call) (h : History) (es : List Exchange) → Invariant h → GrantedAre h.accepted es
      → HalfAtMost (run_from h ks).now.link (figures (run_from h ks).now c) (asks (exchanges_from c h.now es ks))
      → OwnSoFar (run_from h ks).now.link (figures (run_from h ks).now c) es
      → OwnSoFar (run_from h ks).now.link (figures (run_from h ks).now c) (exchanges_from c h.now es ks)
  told_by_own [] h es I G half O = O
  told_by_own (k ∷ ks) h es I G half O =
      let l = (run_from h (k ∷ ks)).now.link in
      let x = figures (run_from h (k ∷ ks)).now c in
      told_by_own ks (after h k) (push es (exchange_in c h.now k)) (keeps h k I) (call_granted h es G k) half
      (own_call h I es G l x
      (λ standing. let r = stays c (k ∷ ks) h I (stands_below h.now.connections c standing) in (sym r.same_link, sym r.alike))
      k (half_so_far l x ks (after h k) (push es (exchange_in c h.now k)) half) O)

-- the number of the notices is no connection's
pub no_connection_asks : (c : ℕ) → c ≡ notice_number → (ks : List Call) (h : History) (es : List Exchange) → Invariant h → exchanges_from c h.now es ks ≡ es
no_connection_asks c n [] h es I = refl
no_connection_asks c n (k ∷ ks) h es I =
    no_connection_asks c n ks (after h k) (push es (exchange_in c h.now k)) (keeps h k I) ∙ ap (push es) (silent k)
  where
    by : (d : ℕ) (e : Exchange) → cond (eqb d c && stands h.now.connections c) (some e) none ≡ none
    by d e = go (eqb d c) (stands h.now.connections c) refl
      where
        go : (b standing : Bool) → stands h.now.connections c ≡ standing → cond (b && standing) (some e) none ≡ none
        go false standing i = refl
        go true false i = refl
        go true true i = absurd (few_connections h.now I.sound c (stands_below h.now.connections c i) n)

    silent : (k : Call) → exchange_in c h.now k ≡ none
    silent (link l) = refl
    silent (admit x) = refl
    silent (offer d len tag) = by d (told h.now d len tag (verdict (offer d len tag) h.now))
    silent (notice len tag) = by notice_number (record { asked = record { at = h.now.clock; len = len; tag = tag; stamp = none }; verdict = (answer (notice len tag) h.now).verdict; eligibility = (answer (notice len tag) h.now).number })
    silent tick = refl

-- ---- its own offers never bring it 12

own_not_12 : (l : Framing) (x : Share) (es : List Exchange) (a : Asked) → own_verdict l x es a ≡ 12 → ⊥
own_not_12 l x es a e = go (within 1 l.largest a.len) (leb clock_end a.at) (ltb x.units (taken_so_far l a.at es + cost l a.len)) e
  where
    go : (right ended over : Bool) → ◌≡◌ {A = ℕ} (cond (not right) 11 (cond ended 13 (cond over 19 0))) 12 → ⊥
    go false ended over i = omega arith
    go true true over i = omega arith
    go true false true i = omega arith
    go true false false i = omega arith

pub never_12 : (l : Framing) (x : Share) (qs : List Asked) (es : List Exchange) → All (λ (e : Exchange). e.verdict ≡ 12 → ⊥) es → All (λ (e : Exchange). e.verdict ≡ 12 → ⊥) (told_after l x es qs)
never_12 l x [] es h = h
never_12 l x (a ∷ qs) es h = never_12 l x qs (es ++ own_answer l x es a ∷ []) (all_snoc (λ (e : Exchange). e.verdict ≡ 12 → ⊥) es (own_answer l x es a) h (own_not_12 l x es a))
