-- A call on a sound state, reachable or not, leaves a sound one.
use Prim.Native.Nat.{ℕ, ◌≤◌, ◌<◌}
use native.Mathlib.Omega.{arith}
use mathlib.Core.Path.{◌≡◌, refl, sym, ap, subst, ◌∙◌}
use mathlib.Core.Bool.{true, false}
use mathlib.Core.Logic.{◌⊎◌, inl, inr, ⊎_elim}
use mathlib.Core.List.{List, [], ◌∷◌, ◌++◌}
use lib.ListN.{length, length-append}
use Rattle.rules.specs.declared.Packet.{Packet}
use Rattle.rules.specs.declared.Notice.{Notice}
use Rattle.rules.specs.Words.{All, total}
use Rattle.rules.specs.Model.{first_notice}
use Rattle.rules.specs.Service.{of}
use Rattle.rules.specs.SoundLine.{Waits, PacketOn, NoticeOn, WireSound}
use Rattle.rules.proofs.Lists.{all_map, all_snoc, pairs_snoc, total_snoc}
use Rattle.rules.proofs.Sums.{same}
use Rattle.rules.proofs.Rows.{first_append, of_snoc_same, of_snoc_other}
use Rattle.rules.proofs.Notices.{first_notice_is, of_none}
use Rattle.frames.specs.Model.{Framing, Share, State, Call, link, admit, offer, notice, tick, wire, fresh, figures, Answer}
use Rattle.frames.specs.Admission.{framing_within, share_within}
use Rattle.frames.specs.Service.{newly, used, ticked}
use Rattle.frames.specs.SoundState.{Fits, Dated, Heads, SoundWithLink, Sound}
use Rattle.frames.specs.Calls.{verdict, done, answer}
use Rattle.frames.proofs.FrameLaws.{next_after, next_mono}
use Rattle.frames.proofs.Figures.{framing_facts, newly_yes, sum_is, length_snoc, nth_snoc, fits_old}
use Rattle.frames.proofs.Verdicts.{settled, link_done, AdmitDone, admit_done, OfferDone, offer_done, NoticeDone, notice_done, tick_done}
use Rattle.frames.proofs.SoundTick.{facts, below, sound_ticked}
use Rattle.frames.proofs.Names.{NotAfter, linked, joined, packet, placed, new_notice, noted, ticked_is}

pub linked_sound : (s : State) → (s.link.frame ≡ 0 → ⊥) → SoundWithLink s → Sound s
linked_sound s n S = record { with_no_link = λ z. absurd (n z); with_one = λ _. S }

-- ---- an admission

module _ (s : State) (S : SoundWithLink s) (x : Share) (D : AdmitDone s x) where
  no_rows : of (length s.connections) s.held ≡ []
  no_rows = of_none (length s.connections) s.held (all_map (λ p l e. omega arith) s.held (below s S))

  sound_joined : SoundWithLink (joined s x)
  sound_joined = record {
    link_in = S.link_in;
    shares_in = nth_snoc s.connections x (λ _ c. share_within c ≡ true) S.shares_in D.share_in;
    few = omega (arith, length_snoc s.connections x, D.few);
    units_le = D.units_le;
    places_le = D.places_le;
    clock_le = S.clock_le;
    fit = all_map (fits_old s.connections x s.link) s.held S.fit;
    dated = S.dated;
    in_order = S.in_order;
    room = nth_snoc s.connections x (λ c f. length (of c s.held) ≤ f.places) S.room (rw no_rows (omega arith));
    use_le = nth_snoc s.connections x (λ c f. used s.link s.clock c s.held ≤ f.units) S.use_le (rw no_rows (omega arith));
    line = S.line;
    in_turn = S.in_turn;
  }

-- ---- a notice

module _ (s : State) (S : SoundWithLink s) (len tag : ℕ) (D : NoticeDone s len) where
  -- the first notice stays the first
  still_first : NoticeOn (wire s) → NoticeOn (wire (noted s len tag))
  still_first r = record {
    it = r.it;
    is_first =
        let k = first_notice_is s.notices r.it r.is_first in
        ap (λ (ns : List Notice). first_notice (ns ++ new_notice s len tag ∷ [])) k.1;
    is_notice = r.is_notice;
    some_to_go = r.some_to_go;
    to_go_le = r.to_go_le;
  }

  noted_line : WireSound (λ _. false) s.link.largest s.link.silence s.clock (wire (noted s len tag))
  noted_line =
      let W = S.line in
      record {
        few_notices = omega (arith, D.room, length-append s.notices (new_notice s len tag ∷ []));
        notices_fit = all_snoc (Waits s.link.largest s.clock) s.notices (new_notice s len tag) W.notices_fit (record { some_len = D.some_len; len_le = D.len_le; arrived = omega arith });
        line = ⊎_elim (λ z. inl z) (λ k. inr (⊎_elim (λ r. inl r) (λ r. inr (still_first r)) k)) W.line;
        silent_le = W.silent_le;
        silent_alone = W.silent_alone;
      }

  sound_noted : SoundWithLink (noted s len tag)
  sound_noted = record {
    link_in = S.link_in;
    shares_in = S.shares_in;
    few = S.few;
    units_le = S.units_le;
    places_le = S.places_le;
    clock_le = S.clock_le;
    fit = S.fit;
    dated = S.dated;
    in_order = S.in_order;
    room = S.room;
    use_le = S.use_le;
    line = noted_line;
    in_turn = S.in_turn;
  }

-- ---- an offer

heads_append : (c : ℕ) (rs qs : List Packet) → Heads c rs → Heads c (rs ++ qs)
heads_append c [] qs h = absurd h
heads_append c (r ∷ rs) qs h = h

module _ (s : State) (S : SoundWithLink s) (c len tag : ℕ) (D : OfferDone s c len) where
  abbrev it : Packet
  it = packet s c len tag

  first_still : PacketOn (λ _. false) s.clock (wire s) → PacketOn (λ _. false) s.clock (wire (placed s c len tag))
  first_still r = record {
    it = r.it;
    is_first = first_append s.serving s.held (it ∷ []) r.it r.is_first;
    eligible = r.eligible;
    some_to_go = r.some_to_go;
    to_go_le = r.to_go_le;
  }

  placed_line : WireSound (λ _. false) s.link.largest s.link.silence s.clock (wire (placed s c len tag))
  placed_line =
      let W = S.line in
      record {
        few_notices = W.few_notices;
        notices_fit = W.notices_fit;
        line = ⊎_elim (λ z. inl z) (λ k. inr (⊎_elim (λ r. inl (first_still r)) (λ r. inr r) k)) W.line;
        silent_le = W.silent_le;
        silent_alone = W.silent_alone;
      }

  -- no row is eligible later
  not_after : All (λ p. NotAfter p it) s.held
  not_after = all_map (λ p d. omega (arith, d.next_start, next_mono s.link.frame (facts s S).some_frame p.arrival s.clock d.arrived)) s.held S.dated

  placed_room : (d : ℕ) → d < length s.connections → (c ≡ d) ⊎ (c ≡ d → ⊥) → length (of d (s.held ++ it ∷ [])) ≤ (figures s d).places
  placed_room d l (inl e) =
      subst (λ (j : ℕ). length (of j (s.held ++ it ∷ [])) ≤ (figures s j).places) e
      (omega (arith, D.room, ap length (of_snoc_same c s.held it refl), length-append (of c s.held) (it ∷ [])))
  placed_room d l (inr e) = omega (arith, S.room d l, ap length (of_snoc_other d s.held it e))

  placed_use : (d : ℕ) → d < length s.connections → (c ≡ d) ⊎ (c ≡ d → ⊥) → used s.link s.clock d (s.held ++ it ∷ []) ≤ (figures s d).units
  placed_use d l (inl e) =
      subst (λ (j : ℕ). used s.link s.clock j (s.held ++ it ∷ []) ≤ (figures s j).units) e
      (omega (
        arith,
        D.units_left,
        ap (total (newly s.link s.clock)) (of_snoc_same c s.held it refl),
        total_snoc (newly s.link s.clock) (of c s.held) it,
        newly_yes s.link s.clock it (next_after s.link.frame (facts s S).some_frame s.clock),
      ))
  placed_use d l (inr e) = omega (arith, S.use_le d l, ap (total (newly s.link s.clock)) (of_snoc_other d s.held it e))

  sound_placed : SoundWithLink (placed s c len tag)
  sound_placed = record {
    link_in = S.link_in;
    shares_in = S.shares_in;
    few = S.few;
    units_le = S.units_le;
    places_le = S.places_le;
    clock_le = S.clock_le;
    fit = all_snoc (Fits s.link s.connections) s.held it S.fit (record { standing = D.standing; some_len = D.some_len; len_le = D.len_le });
    dated = all_snoc (Dated s.link.frame s.clock) s.held it S.dated (record { arrived = omega arith; next_start = refl });
    in_order = pairs_snoc NotAfter s.held it S.in_order not_after;
    room = λ d l. placed_room d l (same c d);
    use_le = λ d l. placed_use d l (same c d);
    line = placed_line;
    in_turn = λ h n. heads_append s.serving s.held (it ∷ []) (S.in_turn h n);
  }

-- ---- a link

sound_first : (l : Framing) → framing_within l ≡ true → SoundWithLink (linked fresh l)
sound_first l ok = record {
  link_in = ok;
  shares_in = λ c k. absurd (omega arith);
  few = omega arith;
  units_le = omega (arith, sum_is l [], (framing_facts l ok).largest_le);
  places_le = omega arith;
  clock_le = omega arith;
  fit = tt;
  dated = tt;
  in_order = tt;
  room = λ c k. absurd (omega arith);
  use_le = λ c k. absurd (omega arith);
  line = record { few_notices = omega arith; notices_fit = tt; line = inl (refl, refl); silent_le = omega arith; silent_alone = λ n. refl };
  in_turn = λ h n. absurd (omega arith);
}

-- ---- every call

pub done_sound : (k : Call) (s : State) → Sound s → verdict k s ≡ 0 → Sound (done k s).next
done_sound (link l) s S e =
    let d = link_done s l e in
    subst (λ (r : State). Sound (linked r l)) (sym (S.with_no_link d.unset))
    (linked_sound (linked fresh l) (λ z. omega (arith, (framing_facts l d.link_in).some_frame)) (sound_first l d.link_in))
done_sound (admit x) s S e = let d = admit_done s x e in linked_sound (joined s x) d.set (sound_joined s (S.with_one d.set) x d)
done_sound (offer c len tag) s S e = let d = offer_done s c len tag e in linked_sound (placed s c len tag) d.set (sound_placed s (S.with_one d.set) c len tag d)
done_sound (notice len tag) s S e = let d = notice_done s len tag e in linked_sound (noted s len tag) d.set (sound_noted s (S.with_one d.set) len tag d)
done_sound tick s S e =
    let d = tick_done s e in
    linked_sound (ticked s).next (λ z. d.set (sym (ap (λ (a : Answer). a.next.link.frame) (ticked_is s)) ∙ z)) (sound_ticked s (S.with_one d.set) d.running)

pub kept : (k : Call) (s : State) → Sound s → Sound (answer k s).next
kept k s S = settled (λ a. Sound a.next) k s (verdict k s) (done_sound k s S) (λ _. S)
