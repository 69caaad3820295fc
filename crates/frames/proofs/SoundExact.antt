-- The test of a sound state is true exactly of a sound state.
use Prim.Native.Nat.{ℕ, ◌≤◌, ◌<◌}
use native.Mathlib.Omega.{arith}
use mathlib.Core.Path.{◌≡◌, refl, sym, ap, ◌∙◌}
use mathlib.Core.Bool.{Bool, true, false, cond, ◌&&◌, ◌||◌}
use mathlib.Core.Logic.{◌↔◌}
use mathlib.Core.List.{List, [], ◌∷◌}
use lib.Dec.{leb, eqb}
use lib.ListN.{length}
use borrow.Author.Tests.{leb-true, le-leb, eqb-true, eqb-false, eq-eqb, ne_eqb}
use Rattle.rules.specs.declared.Packet.{Packet}
use Rattle.rules.specs.declared.Notice.{Notice}
use Rattle.rules.specs.Words.{All, Pairs, within, every, each}
use Rattle.rules.specs.Limits.{max_connections, clock_end, notice_number}
use Rattle.rules.specs.Service.{of}
use Rattle.rules.specs.SoundLine.{wire_sound}
use Rattle.rules.proofs.Lists.{all_map, all_zip}
use Rattle.rules.proofs.Sums.{cond_is}
use Rattle.rules.proofs.Rows.{nil_of}
use Rattle.rules.proofs.WireLaws.{packet_number}
use Rattle.rules.proofs.WireTest.{wire_true, wire_intro}
use Rattle.rules.proofs.Tests.{never, and_true, and_intro, or_true, or_intro, within_true, within_intro, every_true, every_intro, each_true, each_intro}
use Rattle.frames.specs.Model.{Framing, Share, State, wire, fresh, figures}
use Rattle.frames.specs.Admission.{framing_within, share_within, stands, frame_sum}
use Rattle.frames.specs.Service.{next_frame, used}
use Rattle.frames.specs.SoundState.{Fits, Dated, Heads, SoundWithLink, Sound}
use Rattle.frames.specs.SoundTest.{nothing_used, admissions_sound, row_sound, never_falls, share_sound, rows_sound, heads, in_turn_sound, sound}
use Rattle.frames.proofs.SoundTick.{rows_sized}
use Rattle.frames.proofs.Names.{no_framing, NotAfter}

-- ---- with no link set

blank_framing : (T most q : ℕ) → T ≡ 0 → most ≡ 0 → q ≡ 0 → ◌≡◌ {A = Framing} (record { frame = T; largest = most; silence = q }) no_framing
blank_framing T most q e f g = rw (e, f, g)

blank_state : (l : Framing) (cs : List Share) (t : ℕ) (ps : List Packet) (ns : List Notice) (w u q : ℕ)
    → l ≡ no_framing → cs ≡ [] → t ≡ 0 → ps ≡ [] → ns ≡ [] → w ≡ 0 → u ≡ 0 → q ≡ 0
    → ◌≡◌ {A = State} (record { link = l; connections = cs; clock = t; held = ps; notices = ns; serving = w; to_go = u; silent = q }) fresh
blank_state l cs t ps ns w u q a b c d e f g h = rw (a, b, c, d, e, f, g, h)

module _ (s : State) where
  fresh_of : s.link.frame ≡ 0 → nothing_used s ≡ true → s ≡ fresh
  unfolding nothing_used
  fresh_of z h =
      let a = and_true (eqb s.link.largest 0 && eqb s.link.silence 0) _ h in
      let l = and_true (eqb s.link.largest 0) (eqb s.link.silence 0) a.0 in
      let c = and_true (eqb (length s.connections) 0) _ a.1 in
      let e = and_true (eqb s.clock 0) _ c.1 in
      let f = and_true (eqb (length s.held) 0) _ e.1 in
      let n = and_true (eqb (length s.notices) 0) _ f.1 in
      let g = and_true (eqb s.serving 0) _ n.1 in
      let u = and_true (eqb s.to_go 0) (eqb s.silent 0) g.1 in
      blank_state s.link s.connections s.clock s.held s.notices s.serving s.to_go s.silent
      (blank_framing s.link.frame s.link.largest s.link.silence z (eqb-true _ 0 l.0) (eqb-true _ 0 l.1))
      (nil_of s.connections (eqb-true _ 0 c.0))
      (eqb-true _ 0 e.0)
      (nil_of s.held (eqb-true _ 0 f.0))
      (nil_of s.notices (eqb-true _ 0 n.0))
      (eqb-true _ 0 g.0)
      (eqb-true _ 0 u.0)
      (eqb-true _ 0 u.1)

nothing_of_fresh : nothing_used fresh ≡ true
unfolding nothing_used
nothing_of_fresh = refl

-- ---- the rows

row_true : (l : Framing) (cs : List Share) (t : ℕ) (p : Packet) → row_sound l cs t p ≡ true → Fits l cs p × Dated l.frame t p
row_true l cs t p h =
    let a = and_true (stands cs p.connection) _ h in
    let b = and_true (within 1 l.largest p.len) _ a.1 in
    let c = and_true (leb p.arrival t) (eqb p.eligibility (next_frame l.frame p.arrival)) b.1 in
    let w = within_true 1 l.largest p.len b.0 in
    (record { standing = a.0; some_len = w.0; len_le = w.1 }, record { arrived = leb-true _ _ c.0; next_start = eqb-true _ _ c.1 })

row_intro : (l : Framing) (cs : List Share) (t : ℕ) (p : Packet) → Fits l cs p → Dated l.frame t p → row_sound l cs t p ≡ true
row_intro l cs t p f d =
    and_intro (stands cs p.connection) _ f.standing
    (and_intro (within 1 l.largest p.len) _ (within_intro 1 l.largest p.len f.some_len f.len_le)
    (and_intro (leb p.arrival t) (eqb p.eligibility (next_frame l.frame p.arrival)) (le-leb _ _ d.arrived) (eq-eqb _ _ d.next_start)))

-- the one pass says it of any two rows
falls_true : (low : ℕ) (ps : List Packet) → never_falls low ps ≡ true → All (λ p. low ≤ p.eligibility) ps × Pairs NotAfter ps
falls_true low [] h = (tt, tt)
falls_true low (p ∷ ps) h =
    let a = and_true (leb low p.eligibility) (never_falls p.eligibility ps) h in
    let b = falls_true p.eligibility ps a.1 in
    let i : low ≤ p.eligibility = leb-true low p.eligibility a.0 in
    ((i, all_map (λ q k. omega arith) ps b.0), (b.0, b.1))

falls_intro : (low : ℕ) (ps : List Packet) → All (λ p. low ≤ p.eligibility) ps → Pairs NotAfter ps → never_falls low ps ≡ true
falls_intro low [] a h = refl
falls_intro low (p ∷ ps) a h = and_intro (leb low p.eligibility) (never_falls p.eligibility ps) (le-leb _ _ a.0) (falls_intro p.eligibility ps h.0 h.1)

from_zero : (ps : List Packet) → All (λ p. 0 ≤ p.eligibility) ps
from_zero [] = tt
from_zero (p ∷ ps) = (omega arith, from_zero ps)

heads_true : (c : ℕ) (ps : List Packet) → heads c ps ≡ true → Heads c ps
heads_true c [] h = never h
heads_true c (p ∷ ps) h = eqb-true p.connection c h

heads_intro : (c : ℕ) (ps : List Packet) → Heads c ps → heads c ps ≡ true
heads_intro c [] h = absurd h
heads_intro c (p ∷ ps) h = eq-eqb p.connection c h

-- ---- with a link set

module _ (s : State) where
  turn_true : in_turn_sound s ≡ true → 1 ≤ s.to_go → (s.serving ≡ notice_number → ⊥) → Heads s.serving s.held
  unfolding in_turn_sound
  turn_true h some_to_go away =
      heads_true s.serving s.held
      (or_true (eqb s.serving notice_number) (heads s.serving s.held)
      (or_true (eqb s.to_go 0) (eqb s.serving notice_number || heads s.serving s.held) h (ne_eqb s.to_go 0 (λ e. omega arith)))
      (ne_eqb s.serving notice_number away))

  turn_intro : (1 ≤ s.to_go → (s.serving ≡ notice_number → ⊥) → Heads s.serving s.held) → in_turn_sound s ≡ true
  unfolding in_turn_sound
  turn_intro f =
      or_intro (eqb s.to_go 0) (eqb s.serving notice_number || heads s.serving s.held)
      (λ i. or_intro (eqb s.serving notice_number) (heads s.serving s.held)
      (λ j. heads_intro s.serving s.held (f (some_of s.to_go (eqb-false s.to_go 0 i)) (eqb-false s.serving notice_number j))))
    where
      some_of : (u : ℕ) → (u ≡ 0 → ⊥) → 1 ≤ u
      some_of u n = omega (arith, n)

  abbrev all_tests : Bool
  all_tests = admissions_sound s && (rows_sound s && (wire_sound (λ _. false) s.link.largest s.link.silence s.clock (wire s) && in_turn_sound s))

  linked_true : all_tests ≡ true → SoundWithLink s
  unfolding admissions_sound rows_sound
  linked_true h =
      let x = and_true (admissions_sound s) _ h in
      let y = and_true (rows_sound s) _ x.1 in
      let z = and_true (wire_sound (λ _. false) s.link.largest s.link.silence s.clock (wire s)) (in_turn_sound s) y.1 in
      let a = and_true (framing_within s.link) _ x.0 in
      let b = and_true (leb (length s.connections) max_connections) _ a.1 in
      let d = and_true (every (length s.connections) (λ c. share_within (figures s c))) _ b.1 in
      let e = and_true (leb (frame_sum s.link s.connections) s.link.frame) _ d.1 in
      let f = and_true (leb s.clock clock_end) _ y.0 in
      let g = and_true (each (row_sound s.link s.connections s.clock) s.held) _ f.1 in
      let i = and_true (never_falls 0 s.held) _ g.1 in
      let rows = all_map (λ p k. row_true s.link s.connections s.clock p k) s.held (each_true (row_sound s.link s.connections s.clock) s.held g.0) in
      let own : (j : ℕ) → j < length s.connections → (leb (length (of j s.held)) (figures s j).places ≡ true) × (leb (used s.link s.clock j s.held) (figures s j).units ≡ true)
      = λ j l. and_true _ _ (every_true (length s.connections) (share_sound s) i.1 j l) in
      record {
        link_in = a.0;
        shares_in = every_true (length s.connections) (λ c. share_within (figures s c)) d.0;
        few = leb-true _ _ b.0;
        units_le = leb-true _ _ e.0;
        places_le = leb-true _ _ e.1;
        clock_le = leb-true _ _ f.0;
        fit = all_map (λ p k. k.0) s.held rows;
        dated = all_map (λ p k. k.1) s.held rows;
        in_order = (falls_true 0 s.held i.0).1;
        room = λ j l. leb-true _ _ (own j l).0;
        use_le = λ j l. leb-true _ _ (own j l).1;
        line = wire_true (λ _. false) s.link.largest s.link.silence s.clock (wire s) z.0;
        in_turn = turn_true z.1;
      }

  linked_intro : SoundWithLink s → all_tests ≡ true
  unfolding admissions_sound rows_sound
  linked_intro S =
      and_intro (admissions_sound s) _
      (and_intro (framing_within s.link) _ S.link_in
      (and_intro (leb (length s.connections) max_connections) _ (le-leb _ _ S.few)
      (and_intro (every (length s.connections) (λ c. share_within (figures s c))) _ (every_intro (length s.connections) (λ c. share_within (figures s c)) S.shares_in)
      (and_intro (leb (frame_sum s.link s.connections) s.link.frame) _ (le-leb _ _ S.units_le) (le-leb _ _ S.places_le)))))
      (and_intro (rows_sound s) _
      (and_intro (leb s.clock clock_end) _ (le-leb _ _ S.clock_le)
      (and_intro (each (row_sound s.link s.connections s.clock) s.held) _
      (each_intro (row_sound s.link s.connections s.clock) s.held
      (all_zip (λ p f d. row_intro s.link s.connections s.clock p f d) s.held S.fit S.dated))
      (and_intro (never_falls 0 s.held) _ (falls_intro 0 s.held (from_zero s.held) S.in_order)
      (every_intro (length s.connections) (share_sound s) (λ j l. and_intro _ _ (le-leb _ _ (S.room j l)) (le-leb _ _ (S.use_le j l)))))))
      (and_intro (wire_sound (λ _. false) s.link.largest s.link.silence s.clock (wire s)) (in_turn_sound s)
      (wire_intro (λ _. false) s.link.largest s.link.silence s.clock (wire s)
      (packet_number (λ _. false) s.link.largest s.link.silence s.clock (wire s) S.line (rows_sized s S)) S.line)
      (turn_intro S.in_turn)))

  pub exact : sound s ≡ true ↔ Sound s
  unfolding sound
  exact = (to, from)
    where
      to : sound s ≡ true → Sound s
      to h = record {
        with_no_link = λ z. fresh_of s z (sym (cond_is (nothing_used s) all_tests (eq-eqb s.link.frame 0 z)) ∙ h);
        with_one = λ n. linked_true (sym (cond_is (nothing_used s) all_tests (ne_eqb s.link.frame 0 n)) ∙ h);
      }

      from : Sound s → sound s ≡ true
      from S = go (eqb s.link.frame 0) refl
        where
          go : (t : Bool) → eqb s.link.frame 0 ≡ t → cond t (nothing_used s) all_tests ≡ true
          go true i = ap nothing_used (S.with_no_link (eqb-true _ 0 i)) ∙ nothing_of_fresh
          go false i = linked_intro (S.with_one (eqb-false _ 0 i))
