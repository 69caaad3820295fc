-- A tick on a sound state leaves a sound one.
use Prim.Native.Nat.{ℕ, zero, suc, ◌+◌, ◌≤◌, ◌<◌}
use native.Mathlib.Omega.{arith}
use mathlib.Core.Path.{◌≡◌, refl, sym, ap, ◌∙◌, subst}
use mathlib.Core.Bool.{Bool, true, false, cond}
use mathlib.Core.List.{List, [], ◌∷◌}
use mathlib.Core.Option.{Option, none, some}
use lib.Dec.{leb}
use lib.ListN.{length}
use borrow.Author.Tests.{leb-true, leb-false, lt-leb, eq-eqb}
use Rattle.rules.specs.declared.Packet.{Packet}
use Rattle.rules.specs.declared.Notice.{Notice}
use Rattle.rules.specs.Words.{All, Pairs}
use Rattle.rules.specs.Limits.{clock_end, notice_number}
use Rattle.rules.specs.Service.{of, first, without, Wire, on_line, takes, begins, begun, sends, sent}
use Rattle.rules.specs.SoundLine.{WireSound}
use Rattle.rules.proofs.Lists.{all_map, all_every, all_sub, Sub, total_le, total_sub}
use Rattle.rules.proofs.Sums.{cond_is}
use Rattle.rules.proofs.Rows.{none_some, some_inj, sub_of}
use Rattle.rules.proofs.WireLaws.{Picks, RowFits, begun_sound, sent_cases, sent_sound}
use Rattle.frames.specs.Model.{State, wire, with_wire, Answer}
use Rattle.frames.specs.Service.{newly, first_eligible, ticked}
use Rattle.frames.specs.SoundState.{Fits, Dated, Heads, SoundWithLink}
use Rattle.frames.proofs.RowLaws.{pairs_sub, length_sub}
use Rattle.frames.proofs.Figures.{FramingFacts, framing_facts, newly_later, stands_below}
use Rattle.frames.proofs.Names.{NotAfter, ticked_is}
use Rattle.frames.proofs.Names.{chosen}

-- ---- the choice is the first row or none

pub none_eligible : (t : ℕ) (rs : List Packet) → All (λ p. t < p.eligibility) rs → first_eligible t rs ≡ none
none_eligible t [] h = refl
none_eligible t (r ∷ rs) h = cond_is (some r) (first_eligible t rs) (lt-leb r.eligibility t h.0) ∙ none_eligible t rs h.1

module _ (t : ℕ) where
  abbrev FirstOrNone : List Packet → Option Packet → Type 0
  FirstOrNone rs o = Picks t rs o × ((p : Packet) → o ≡ some p → Heads p.connection rs)

  pub first_or_none : (rs : List Packet) → Pairs NotAfter rs → FirstOrNone rs (first_eligible t rs)
  first_or_none [] h = (tt, λ p e. absurd (none_some e))
  first_or_none (r ∷ rs) h = go (leb r.eligibility t) refl
    where
      go : (b : Bool) → leb r.eligibility t ≡ b → FirstOrNone (r ∷ rs) (cond b (some r) (first_eligible t rs))
      go true e = (
        (leb-true _ _ e, cond_is (some r) _ (eq-eqb r.connection r.connection refl)),
        λ p i. ap (λ (q : Packet). q.connection) (some_inj i),
      )
      go false e =
          let late : All (λ p. t < p.eligibility) rs = all_map (λ p k. omega (arith, leb-false r.eligibility t e)) rs h.0 in
          subst (FirstOrNone (r ∷ rs)) (sym (none_eligible t rs late)) ((leb-false _ _ e, late), λ p i. absurd (none_some i))

-- where the first row of all is of connection c, it is the one that leaves
pub heads_first : (c : ℕ) (rs : List Packet) (p : Packet) → Heads c rs → first c rs ≡ some p → rs ≡ p ∷ without c rs
heads_first c [] p h e = absurd h
heads_first c (r ∷ rs) p h e =
    let t = eq-eqb r.connection c h in
    ap (λ (q : Packet). q ∷ rs) (some_inj (sym (cond_is (some r) (first c rs) t) ∙ e)) ∙ ap (λ (l : List Packet). p ∷ l) (sym (cond_is rs (r ∷ without c rs) t))

module _ (s : State) (S : SoundWithLink s) where
  pub facts : FramingFacts s.link
  facts = framing_facts s.link S.link_in

  pub below : All (λ p. p.connection < length s.connections) s.held
  below = all_map (λ p f. stands_below s.connections p.connection f.standing) s.held S.fit

  pub rows_sized : All (RowFits s.link.largest) s.held
  rows_sized = all_map (λ p f. (λ e. omega (arith, S.few, stands_below s.connections p.connection f.standing), f.some_len, f.len_le)) s.held S.fit

  pub picks : Picks s.clock s.held (chosen s)
  picks = (first_or_none s.clock s.held S.in_order).0

  -- the line after step 1
  abbrev pub ready : Wire
  ready = begun (chosen s) none (wire s)

  pub ready_sound : WireSound (λ _. false) s.link.largest s.link.silence s.clock ready
  ready_sound = begun_sound (λ _. false) s.link.largest s.link.silence s.clock (wire s) S.line rows_sized (chosen s) none picks tt

  -- what is in service is the first row of all
  abbrev InTurn : Wire → Type 0
  InTurn w = 1 ≤ w.to_go → (w.serving ≡ notice_number → ⊥) → Heads w.serving w.held

  begins_in_turn : (u r : ℕ) → s.to_go ≡ u → InTurn (on_line (wire s) (begins (chosen s) none (wire s) u r).0 (begins (chosen s) none (wire s) u r).1)
  begins_in_turn zero zero e = go (chosen s) refl s.notices
    where
      go : (o : Option Packet) → chosen s ≡ o → (ns : List Notice) → InTurn (on_line (wire s) (takes o ns none).0 (takes o ns none).1)
      go (some p) i ns h n = (first_or_none s.clock s.held S.in_order).1 p i
      go none i [] h n = absurd (omega arith)
      go none i (m ∷ ns) h n = absurd (n refl)
  begins_in_turn zero (suc r) e = λ h n. absurd (omega arith)
  begins_in_turn (suc u) r e = λ h n. S.in_turn (omega arith) n

  pub ready_in_turn : InTurn ready
  ready_in_turn = begins_in_turn s.to_go s.silent refl

  sent_in_turn : InTurn (sends s.link.silence sent ready ready.to_go).wire
  sent_in_turn =
      sent_cases (λ _. false) s.link.largest s.link.silence s.clock ready ready_sound rows_sized sent (λ x. InTurn x.wire)
      (λ e h n. absurd (omega arith))
      (λ r e h n. absurd (omega arith))
      (λ r ns i e h n. absurd (omega arith))
      (λ u e k h n. ready_in_turn (omega arith) n)

  -- the line and some of the rows, a tick later
  sound_later : s.clock < clock_end → (w : Wire) → WireSound (λ _. false) s.link.largest s.link.silence (s.clock + 1) w → Sub w.held s.held → InTurn w → SoundWithLink (with_wire s (s.clock + 1) w)
  sound_later running w W sub turn = record {
    link_in = S.link_in;
    shares_in = S.shares_in;
    few = S.few;
    units_le = S.units_le;
    places_le = S.places_le;
    clock_le = omega (arith, running);
    fit = all_sub (Fits s.link s.connections) sub S.fit;
    dated = all_sub (Dated s.link.frame (s.clock + 1)) sub (all_map (λ p d. record { arrived = omega (arith, d.arrived); next_start = d.next_start }) s.held S.dated);
    in_order = pairs_sub NotAfter sub S.in_order;
    room = λ c l. omega (arith, S.room c l, length_sub (sub_of c sub));
    use_le = λ c l.
        omega (
          arith,
          S.use_le c l,
          total_sub (newly s.link s.clock) (sub_of c sub),
          total_le (newly s.link (s.clock + 1)) (newly s.link s.clock) (of c w.held) (all_every (λ p. newly_later s.link s.clock p) (of c w.held)),
        );
    line = W;
    in_turn = turn;
  }

  pub sound_ticked : s.clock < clock_end → SoundWithLink (ticked s).next
  sound_ticked running =
      let k = sent_sound (λ _. false) s.link.largest s.link.silence s.clock ready ready_sound rows_sized in
      subst (λ (a : Answer). SoundWithLink a.next) (sym (ticked_is s))
      (sound_later running (sends s.link.silence sent ready ready.to_go).wire k.0 k.1 sent_in_turn)
