-- An accepted offer keeps the invariant: the new packet is spaced from its connection's earlier ones, and not eligible before now.
use Prim.Native.Nat.{ℕ, ◌+◌, ◌≤◌, ◌<◌}
use native.Mathlib.Omega.{arith}
use mathlib.Core.Path.{◌≡◌, refl, sym, ap, ◌∙◌, subst}
use mathlib.Core.Bool.{true}
use mathlib.Core.Logic.{◌⊎◌, inl, inr}
use mathlib.Core.List.{List, [], ◌∷◌, ◌++◌, map, append_assoc}
use mathlib.Core.Option.{Option, none, some}
use lib.ListN.{length, get_or, set}
use lib.Seq.{get_or-set_same, get_or-set_other}
use borrow.Author.Tests.{ne_eqb}
use Rattle.rules.specs.Words.{upto}
use Rattle.rules.specs.Limits.{notice_number, max_remembered}
use Rattle.rules.specs.Model.{Past, no_past, Packet, State, past, figures, notice_packet, with_connections, with_held}
use Rattle.rules.specs.Admission.{owned, burst, cost, ahead}
use Rattle.rules.specs.Service.{earliest, remember, Spaced, of, eligibilities, first}
use Rattle.rules.proofs.Doings.{level_of}
use Rattle.rules.specs.SoundState.{Fits}
use Rattle.rules.proofs.LineWords.{InService}
use Rattle.rules.specs.Calls.{eligibility_now, packet}
use Rattle.rules.proofs.Doings.{placed}
use Rattle.rules.specs.Runs.{History, in_hub, bound_of}
use Rattle.rules.proofs.Lists.{all_snoc, sub_snoc, total_snoc}
use Rattle.rules.proofs.Sums.{same, cond_is, upto_yes}
use Rattle.rules.proofs.Keys.{Ahead, keyed}
use Rattle.rules.proofs.Rows.{first_append, of_append, eligibilities_snoc_same, eligibilities_snoc_other}
use Rattle.rules.proofs.Notices.{first_behind, either_order}
use Rattle.rules.proofs.Memory.{memory, memory_snoc}
use Rattle.rules.proofs.Spacing.{snoc_spaced}
use Rattle.rules.proofs.Stamps.{Timely, timely}
use Rattle.rules.proofs.Standing.{stands_owned, stands_below}
use Rattle.rules.proofs.Line.{left_same}
use Rattle.rules.proofs.Verdicts.{near_by, OfferDone}
use Rattle.rules.proofs.Window.{weight}
use Rattle.rules.proofs.Busy.{due, served, Line, Regular, Busy, served_idle, served_is, served_notice}
use Rattle.rules.proofs.Invariant.{whats, Steady, Invariant, facts_of, some_bound, connections_few}

-- ---- the line and the levels: a packet that is not eligible before now is added behind

module _ (s : State) (acc : List Packet) (p : Packet) (hs : List Past) (level : p.connection ≡ notice_number → ⊥) where
  abbrev behind : State
  behind = with_held (with_connections s s.connections hs) (s.held ++ p ∷ [])

  behind_service : InService s → InService behind
  behind_service r = record {
    it = r.it;
    is_first = first_append s.serving s.held (p ∷ []) r.it r.is_first;
    eligible = r.eligible;
    some_to_go = r.some_to_go;
    to_go_le = r.to_go_le;
  }

  -- the notice in service is still no held packet's
  still_alone : s.serving ≡ notice_number → first s.serving s.held ≡ none → first s.serving (s.held ++ p ∷ []) ≡ none
  still_alone e a =
      first_behind s.serving s.held (p ∷ []) a
      ∙ cond_is (some p) none (ne_eqb p.connection s.serving (λ i. level (i ∙ e)))

  behind_line : Line s → Line behind
  behind_line (inl z) = inl z
  behind_line (inr (inl r)) = inr (inl (behind_service r))
  behind_line (inr (inr n)) = inr (inr (record { in_service = n.in_service; short = n.short; alone = still_alone n.in_service.is_notice n.alone }))

  behind_served : (m e : ℕ) → Line s → served behind m e s.clock ≡ served s m e s.clock
  unfolding behind_service
  behind_served m e (inl z) = served_idle behind m e s.clock z.0 ∙ sym (served_idle s m e s.clock z.0)
  behind_served m e (inr (inr n)) = served_notice behind m e s.clock (still_alone n.in_service.is_notice n.alone) ∙ sym (served_notice s m e s.clock n.alone)
  behind_served m e (inr (inl r)) = served_is behind m e s.clock (behind_service r) ∙ sym (served_is s m e s.clock r)

  behind_busy : (m e : ℕ) → s.clock ≤ p.eligibility → Line s → Busy s acc m e s.clock → Busy behind (acc ++ p ∷ []) m e s.clock
  behind_busy m e late l B = record {
    from = B.from;
    started = B.started;
    since =
        all_snoc (λ q. Ahead m e (level_of s q.connection) q.eligibility → q.eligibility ≤ s.clock → B.from ≤ q.eligibility) s.held p B.since
        (λ a i. omega (arith, B.started));
    work =
        omega (
          arith,
          B.work,
          total_snoc (due s.link s.connections m e s.clock) s.held p,
          total_snoc (weight s.link s.connections m e B.from s.clock) acc p,
          ap (λ (x : ℕ). keyed m e (level_of s p.connection) p.eligibility x)
              (upto_yes B.from p.eligibility (upto p.eligibility s.clock (cost s.link p.len)) (omega (arith, B.started))),
          behind_served m e l,
          left_same s behind refl refl refl,
        );
    in_time = B.in_time;
  }

-- ---- the packets accepted

module _ (s : State) (acc : List Packet) (c len tag : ℕ) (st : Option ℕ) (entry : c < length s.pasts) (R : Regular s acc) (D : OfferDone s c len st)
    (few : burst (figures s c) ≤ max_remembered) (T : Timely (figures s c) (ahead s.link (figures s c)) (past s c) s.clock (eligibility_now s c st)) where
  p : Packet
  p = packet s c len tag st

  new : Past
  new = remember (past s c) (eligibility_now s c st)

  below : owned s.connections c ≡ true
  below = stands_owned s c D.standing

  spaced_placed : (d : ℕ) → owned s.connections d ≡ true → (c ≡ d) ⊎ (c ≡ d → ⊥) → Spaced (figures s d) (eligibilities d (acc ++ p ∷ []))
  unfolding p
  spaced_placed d l (inl e) =
      subst (λ (j : ℕ). Spaced (figures s j) (eligibilities j (acc ++ p ∷ []))) e
      (rw (eligibilities_snoc_same c acc p refl)
      (snoc_spaced (figures s c) few (eligibilities c acc) (eligibility_now s c st) (R.spaced c below)
      (subst (λ (h : Past). earliest (figures s c) h ≤ eligibility_now s c st) (R.remembered c below) T.paced.0)))
  spaced_placed d l (inr e) = rw (eligibilities_snoc_other d acc p e) (R.spaced d l)

  remembered_placed : (d : ℕ) → owned s.connections d ≡ true → (c ≡ d) ⊎ (c ≡ d → ⊥) → get_or (set s.pasts c new) d no_past ≡ memory (eligibilities d (acc ++ p ∷ []))
  unfolding p new
  remembered_placed d l (inl e) =
      subst (λ (j : ℕ). get_or (set s.pasts c new) j no_past ≡ memory (eligibilities j (acc ++ p ∷ []))) e
      (get_or-set_same s.pasts c new no_past entry
      ∙ ap (λ (h : Past). remember h (eligibility_now s c st)) (R.remembered c below)
      ∙ sym (memory_snoc (eligibilities c acc) (eligibility_now s c st))
      ∙ ap memory (sym (eligibilities_snoc_same c acc p refl)))
  remembered_placed d l (inr e) =
      get_or-set_other s.pasts c d new no_past (λ i. e (sym i))
      ∙ R.remembered d l
      ∙ ap memory (sym (eligibilities_snoc_other d acc p e))

  placed_regular : Regular (placed s c len tag st) (acc ++ packet s c len tag st ∷ [])
  unfolding p new
  placed_regular = record {
    fit = all_snoc (Fits s.connections) acc p R.fit (record { owner = below; some_len = D.some_len; len_le = D.len_le });
    spaced = λ d l. spaced_placed d l (same c d);
    remembered = λ d l. remembered_placed d l (same c d);
    part = sub_snoc p R.part;
  }

module _ (h : History) (I : Invariant h) where
  open h use {now as s, accepted as all, departed as gone, present as acc}

  pub placed_keeps : (c len tag : ℕ) (st : Option ℕ) → c < length s.pasts → OfferDone s c len st
      → Steady (all ++ packet s c len tag st ∷ []) gone (acc ++ packet s c len tag st ∷ []) (placed s c len tag st)
  placed_keeps c len tag st e D = record {
    regular = placed_regular s acc c len tag st e I.steady.regular D few_burst in_step;
    line = behind_line s acc p hs level I.steady.line;
    busy = λ m x low high. behind_busy s acc p hs level m x in_step.not_before I.steady.line (I.steady.busy m x low high);
    punctual =
        let B = (facts_of s I.sound).each c (stands_owned s c D.standing) in
        all_snoc (λ q. s.clock + 1 ≤ q.eligibility + bound_of s q.connection) s.held (packet s c len tag st) I.steady.punctual
        (omega (arith, in_step.not_before, some_bound s I.sound (level_of s c) B.low_level B.high_level));
    conserved = λ d.
        of_append d all (p ∷ [])
        ∙ ap (λ (l : List Packet). l ++ of d (p ∷ [])) (I.steady.conserved d)
        ∙ append_assoc (of d (whats gone)) (of d (in_hub s)) (of d (p ∷ []))
        ∙ ap (λ (l : List Packet). of d (whats gone) ++ l) (waits d);
  }
    where
      p : Packet
      p = packet s c len tag st

      hs : List Past
      hs = set s.pasts c (remember (past s c) (eligibility_now s c st))

      level : c ≡ notice_number → ⊥
      level i = omega (arith, stands_below s c D.standing, connections_few s I.sound)

      few_burst : burst (figures s c) ≤ max_remembered
      few_burst = ((facts_of s I.sound).each c (stands_owned s c D.standing)).burst_le

      in_step : Timely (figures s c) (ahead s.link (figures s c)) (past s c) s.clock (eligibility_now s c st)
      in_step = timely s.link (figures s c) (past s c) s.clock st ((facts_of s I.sound).each c (stands_owned s c D.standing)) D.suited D.in_time (near_by s c st D.near)

      -- the new packet stands before the notices, which bear another number
      waits : (d : ℕ) → of d (in_hub s) ++ of d (packet s c len tag st ∷ []) ≡ of d (in_hub (placed s c len tag st))
      waits d =
          let new = packet s c len tag st ∷ [] in
          let ns = map notice_packet s.notices in
          ap (λ (l : List Packet). l ++ of d new) (of_append d s.held ns)
          ∙ append_assoc (of d s.held) (of d ns) (of d new)
          ∙ ap (λ (l : List Packet). of d s.held ++ l) (either_order d (packet s c len tag st) s.notices level)
          ∙ sym (append_assoc (of d s.held) (of d new) (of d ns))
          ∙ ap (λ (l : List Packet). l ++ of d ns) (sym (of_append d s.held new))
          ∙ sym (of_append d (s.held ++ new) ns)
