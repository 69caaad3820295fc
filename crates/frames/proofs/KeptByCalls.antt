-- A link, an admission, an offer and a notice keep the invariant: no packet that is eligible comes or goes.
use Prim.Native.Nat.{ℕ, ◌+◌, ◌≤◌, ◌<◌}
use native.Mathlib.Omega.{arith}
use mathlib.Core.Path.{◌≡◌, refl, sym, ap, ◌∙◌, subst}
use mathlib.Core.Bool.{false, not}
use mathlib.Core.Logic.{◌⊎◌, inl, inr}
use mathlib.Core.List.{List, [], ◌∷◌, ◌++◌, map, append_assoc}
use lib.Dec.{eqb}
use borrow.Author.Tests.{ne_eqb}
use Rattle.rules.specs.declared.Packet.{Packet}
use Rattle.rules.specs.Words.{All, total}
use Rattle.rules.specs.Limits.{notice_number}
use Rattle.rules.specs.Model.{notice_packet}
use Rattle.rules.specs.Service.{of}
use Rattle.rules.specs.SoundLine.{wire_left, WireIdle, PacketOn, NoticeOn}
use Rattle.rules.proofs.Lists.{all_map, all_snoc, total_snoc, filter_snoc_off}
use Rattle.rules.proofs.Rows.{first_append, of_append, map_append}
use Rattle.rules.proofs.Notices.{either_order}
use Rattle.rules.proofs.Invariant.{whats}
use Rattle.frames.specs.Model.{Framing, Share, State, wire, fresh}
use Rattle.frames.specs.SoundState.{SoundWithLink, Sound}
use Rattle.frames.proofs.FrameLaws.{next_after}
use Rattle.frames.proofs.RowLaws.{filter_snoc_on}
use Rattle.rules.proofs.WireLaws.{carried, carried_none, carried_is, carried_notice}
use Rattle.frames.proofs.Figures.{stands_below}
use Rattle.frames.proofs.Verdicts.{OfferDone}
use Rattle.frames.proofs.SoundTick.{facts, rows_sized}
use Rattle.frames.proofs.Invariant.{due, demand, frame_end, Invariant, due_no}
use Rattle.frames.proofs.Names.{linked, joined, packet, placed, new_notice, noted, History, in_hub, of_connections}

module _ (h : History) (I : Invariant h) where
  open h use {now as s, accepted as all, departed as gone}

  -- ---- a link: nothing is held and nothing has left

  pub linked_keeps : (l : Framing) → s ≡ fresh → Sound (linked s l) → Invariant (record { accepted = all; departed = gone; now = linked s l })
  linked_keeps l e sound_then = record {
    sound = sound_then;
    recent = subst (All (λ p. frame_end (linked s l) ≤ p.eligibility + l.frame)) (sym (ap (λ (r : State). r.held) e)) tt;
    work = λ more. absurd (omega (arith, ap (total (due l s.clock)) (ap (λ (r : State). r.held) e)));
    conserved = I.conserved;
    offered = I.offered;
    on_time = all_map (λ d k n. absurd (omega (arith, (k n).past, (k n).not_early, ap (λ (r : State). r.clock) e))) gone I.on_time;
  }

  -- ---- an admission

  pub joined_keeps : (x : Share) → Sound (joined s x) → Invariant (record { accepted = all; departed = gone; now = joined s x })
  joined_keeps x sound_then = record { sound = sound_then; recent = I.recent; work = I.work; conserved = I.conserved; offered = I.offered; on_time = I.on_time }

  -- ---- a notice

  same_left : (r : State) → r.to_go ≡ s.to_go → r.silent ≡ s.silent → r.link ≡ s.link → wire_left r.link.silence (wire r) ≡ wire_left s.link.silence (wire s)
  unfolding wire_left
  same_left r e f g = rw (e, f, g) refl

  pub noted_keeps : (len tag : ℕ) → Sound (noted s len tag)
      → Invariant (record { accepted = all ++ notice_packet (new_notice s len tag) ∷ []; departed = gone; now = noted s len tag })
  noted_keeps len tag sound_then = record {
    sound = sound_then;
    recent = I.recent;
    work = λ more. omega (arith, I.work more, same_left (noted s len tag) refl refl refl);
    conserved = λ d.
        of_append d all (p ∷ [])
        ∙ ap (λ (l : List Packet). l ++ of d (p ∷ [])) (I.conserved d)
        ∙ append_assoc (of d (whats gone)) (of d (in_hub s)) (of d (p ∷ []))
        ∙ ap (λ (l : List Packet). of d (whats gone) ++ l) (sym (of_append d (in_hub s) (p ∷ [])) ∙ ap (of d) waits);
    offered = filter_snoc_off (λ r. not (eqb r.connection notice_number)) all p refl ∙ I.offered;
    on_time = I.on_time;
  }
    where
      p : Packet
      p = notice_packet (new_notice s len tag)

      waits : in_hub s ++ notice_packet (new_notice s len tag) ∷ [] ≡ in_hub (noted s len tag)
      waits =
          append_assoc s.held (map notice_packet s.notices) (notice_packet (new_notice s len tag) ∷ [])
          ∙ ap (λ (l : List Packet). s.held ++ l) (sym (map_append notice_packet s.notices (new_notice s len tag ∷ [])))

  -- ---- an offer: it is eligible at the end of this frame only

  module _ (S : SoundWithLink s) (c len tag : ℕ) (D : OfferDone s c len) (R : SoundWithLink (placed s c len tag)) where
    abbrev p : Packet
    p = packet s c len tag

    level : c ≡ notice_number → ⊥
    level e = omega (arith, S.few, stands_below s.connections c D.standing)

    pos : 0 < s.link.frame
    pos = (facts s S).some_frame

    abbrev d : Packet → ℕ
    d = due s.link s.clock

    same_carried : WireIdle (wire s) ⊎ (PacketOn (λ _. false) s.clock (wire s) ⊎ NoticeOn (wire s)) → carried d (wire (placed s c len tag)) ≡ carried d (wire s)
    same_carried (inl z) = carried_none d (wire (placed s c len tag)) z.0 ∙ sym (carried_none d (wire s) z.0)
    same_carried (inr (inl r)) =
        carried_is d (wire (placed s c len tag)) r.it r.some_to_go (first_append s.serving s.held (p ∷ []) r.it r.is_first)
        ∙ sym (carried_is d (wire s) r.it r.some_to_go r.is_first)
    same_carried (inr (inr r)) =
        carried_notice (λ _. false) s.link.largest s.link.silence s.clock d (wire (placed s c len tag)) (rows_sized (placed s c len tag) R) r.is_notice
        ∙ sym (carried_notice (λ _. false) s.link.largest s.link.silence s.clock d (wire s) (rows_sized s S) r.is_notice)

    same_demand : demand (placed s c len tag) ≡ demand s
    same_demand = omega (arith, total_snoc d s.held p, due_no s.link s.clock p (next_after s.link.frame pos s.clock))

    -- the new packet stands before the notices, which bear another number
    waits : (i : ℕ) → of i (in_hub s) ++ of i (p ∷ []) ≡ of i (in_hub (placed s c len tag))
    waits i =
        let new = p ∷ [] in
        let ns = map notice_packet s.notices in
        ap (λ (l : List Packet). l ++ of i new) (of_append i s.held ns)
        ∙ append_assoc (of i s.held) (of i ns) (of i new)
        ∙ ap (λ (l : List Packet). of i s.held ++ l) (either_order i p s.notices level)
        ∙ sym (append_assoc (of i s.held) (of i new) (of i ns))
        ∙ ap (λ (l : List Packet). l ++ of i ns) (sym (of_append i s.held new))
        ∙ sym (of_append i (s.held ++ new) ns)

    pub placed_keeps : Sound (placed s c len tag) → Invariant (record { accepted = all ++ packet s c len tag ∷ []; departed = gone; now = placed s c len tag })
    placed_keeps sound_then = record {
      sound = sound_then;
      recent = all_snoc (λ r. frame_end s ≤ r.eligibility + s.link.frame) s.held p I.recent (omega arith);
      work = λ more.
          omega (arith, I.work (omega (arith, same_demand)), same_demand, same_carried S.line.line, same_left (placed s c len tag) refl refl refl);
      conserved = λ i.
          of_append i all (p ∷ [])
          ∙ ap (λ (l : List Packet). l ++ of i (p ∷ [])) (I.conserved i)
          ∙ append_assoc (of i (whats gone)) (of i (in_hub s)) (of i (p ∷ []))
          ∙ ap (λ (l : List Packet). of i (whats gone) ++ l) (waits i);
      offered =
          filter_snoc_on (λ r. not (eqb r.connection notice_number)) all p (ap not (ne_eqb c notice_number level))
          ∙ ap (λ (l : List Packet). l ++ p ∷ []) I.offered
          ∙ append_assoc (of_connections (whats gone)) s.held (p ∷ []);
      on_time = I.on_time;
    }
