-- An accepted notice keeps the invariant: no packet of a level moves, and what is on the line stays.
use Prim.Native.Nat.{ℕ}
use native.Mathlib.Omega.{arith}
use mathlib.Core.Path.{◌≡◌, refl, sym, ap, ◌∙◌}
use mathlib.Core.Logic.{inl, inr}
use mathlib.Core.List.{List, [], ◌∷◌, ◌++◌, map, append_assoc}
use Rattle.rules.specs.Model.{Packet, Notice, State, notice_packet, first_notice}
use Rattle.rules.specs.Service.{of}
use Rattle.rules.proofs.Doings.{noted}
use Rattle.rules.specs.Runs.{History, in_hub}
use Rattle.rules.proofs.Rows.{of_append, map_append}
use Rattle.rules.proofs.Notices.{first_notice_is}
use Rattle.rules.proofs.Line.{left_same}
use Rattle.rules.proofs.Busy.{NoticeOnLine, Line, Busy}
use Rattle.rules.proofs.Invariant.{whats, Steady, Invariant}

module _ (s : State) (len tag : ℕ) where
  abbrev new : Notice
  new = record { len = len; tag = tag; arrival = s.clock }

  -- the notice in service is still the first
  noted_notice : NoticeOnLine s → NoticeOnLine (noted s len tag)
  noted_notice n =
      let r = n.in_service in
      let f = first_notice_is s.notices r.it r.is_first in
      record {
        in_service = record {
          it = r.it;
          is_first = ap (λ (ns : List Notice). first_notice (ns ++ new ∷ [])) f.1;
          is_notice = r.is_notice;
          some_to_go = r.some_to_go;
          to_go_le = r.to_go_le;
        };
        short = n.short;
        alone = n.alone;
      }

  noted_line : Line s → Line (noted s len tag)
  noted_line (inl z) = inl z
  noted_line (inr (inl r)) = inr (inl r)
  noted_line (inr (inr n)) = inr (inr (noted_notice n))

  noted_busy : (acc : List Packet) (m x : ℕ) → Busy s acc m x s.clock → Busy (noted s len tag) acc m x s.clock
  noted_busy acc m x B = record {
    from = B.from;
    started = B.started;
    since = B.since;
    work = omega (arith, B.work, left_same s (noted s len tag) refl refl refl);
    in_time = B.in_time;
  }

module _ (h : History) (I : Invariant h) where
  open h use {now as s, accepted as all, departed as gone, present as acc}

  pub noted_keeps : (len tag : ℕ) → Steady (all ++ notice_packet (new s len tag) ∷ []) gone acc (noted s len tag)
  noted_keeps len tag = record {
    regular = record { fit = I.steady.regular.fit; spaced = I.steady.regular.spaced; remembered = I.steady.regular.remembered; part = I.steady.regular.part };
    line = noted_line s len tag I.steady.line;
    busy = λ m x low high. noted_busy s len tag acc m x (I.steady.busy m x low high);
    punctual = I.steady.punctual;
    conserved = λ d.
        of_append d all (p ∷ [])
        ∙ ap (λ (l : List Packet). l ++ of d (p ∷ [])) (I.steady.conserved d)
        ∙ append_assoc (of d (whats gone)) (of d (in_hub s)) (of d (p ∷ []))
        ∙ ap (λ (l : List Packet). of d (whats gone) ++ l) (sym (of_append d (in_hub s) (p ∷ [])) ∙ ap (of d) waits);
  }
    where
      p : Packet
      p = notice_packet (new s len tag)

      waits : in_hub s ++ notice_packet (new s len tag) ∷ [] ≡ in_hub (noted s len tag)
      waits =
          append_assoc s.held (map notice_packet s.notices) (notice_packet (new s len tag) ∷ [])
          ∙ ap (λ (l : List Packet). s.held ++ l) (sym (map_append notice_packet s.notices (new s len tag ∷ [])))
