-- An offer that is accepted on a sound state leaves a sound one.
use Prim.Native.Nat.{ℕ, ◌≤◌, ◌<◌}
use native.Mathlib.Omega.{arith}
use mathlib.Core.Path.{◌≡◌, refl, sym, ap, ◌∙◌, subst}
use mathlib.Core.Bool.{true, false, true≢false}
use mathlib.Core.Logic.{◌⊎◌, inl, inr, ⊎_elim}
use mathlib.Core.List.{[], ◌∷◌, ◌++◌}
use mathlib.Core.Option.{Option}
use lib.ListN.{length, get_or, set, length-append, length-set}
use lib.Seq.{get_or-set_same, get_or-set_other}
use Rattle.rules.specs.Model.{Past, no_past, Packet, State, past, figures, closed_at}
use Rattle.rules.specs.Admission.{owned, reservation, ahead}
use Rattle.rules.specs.Service.{of, eligibilities, remember}
use Rattle.rules.specs.SoundState.{Fits, Dated, Queue, Orderly}
use Rattle.rules.proofs.LineWords.{InService}
use Rattle.rules.specs.Calls.{eligibility_now, packet}
use Rattle.rules.proofs.Doings.{placed}
use Rattle.rules.proofs.Lists.{all_snoc}
use Rattle.rules.proofs.Sums.{same}
use Rattle.rules.proofs.Rows.{first_append, of_snoc_same, of_snoc_other, eligibilities_snoc_same, eligibilities_snoc_other}
use Rattle.rules.proofs.Stamps.{Timely, timely}
use Rattle.rules.proofs.Standing.{owned_below, stands_owned, stands_open}
use Rattle.rules.proofs.SoundTick.{facts, regulated}
use Rattle.rules.proofs.Queue.{queue_chained, chained_queue, chained_snoc}
use Rattle.rules.proofs.Verdicts.{near_by, OfferDone}

module _ (s : State) (S : Orderly s) (c len tag : ℕ) (st : Option ℕ) (D : OfferDone s c len st) where
  below : owned s.connections c ≡ true
  below = stands_owned s c D.standing

  entry : c < length s.pasts
  entry = omega (arith, S.one_past_each, S.numbers, owned_below s.connections c below)

  in_step : Timely (figures s c) (ahead s.link (figures s c)) (past s c) s.clock (eligibility_now s c st)
  in_step = timely s.link (figures s c) (past s c) s.clock st (facts s S c below) D.suited D.in_time (near_by s c st D.near)

  new : Past
  new = remember (past s c) (eligibility_now s c st)

  p : Packet
  p = packet s c len tag st

  queue_placed : (d : ℕ) → owned s.connections d ≡ true → (c ≡ d) ⊎ (c ≡ d → ⊥)
      → Queue (figures s d) (ahead s.link (figures s d)) s.clock (get_or (set s.pasts c new) d no_past) (eligibilities d (s.held ++ p ∷ []))
  unfolding new p
  queue_placed d l (inl e) =
      subst (λ (j : ℕ). Queue (figures s j) (ahead s.link (figures s j)) s.clock (get_or (set s.pasts c new) j no_past) (eligibilities j (s.held ++ p ∷ []))) e
      (rw (eligibilities_snoc_same c s.held p refl, get_or-set_same s.pasts c new no_past entry)
      (chained_queue (figures s c) (regulated s S c below) (ahead s.link (figures s c)) s.clock new (eligibilities c s.held ++ eligibility_now s c st ∷ [])
      (chained_snoc (figures s c) (ahead s.link (figures s c)) s.clock (past s c) (eligibilities c s.held) (eligibility_now s c st) in_step.paced (queue_chained (figures s c) (regulated s S c below) (ahead s.link (figures s c)) s.clock (past s c) (eligibilities c s.held) (S.queue c below)))))
  queue_placed d l (inr e) =
      rw (eligibilities_snoc_other d s.held p e, get_or-set_other s.pasts c d new no_past (λ i. e (sym i))) (S.queue d l)

  -- c is not free
  other : (d : ℕ) → owned s.connections d ≡ false → c ≡ d → ⊥
  other d o e = true≢false (sym below ∙ ap (owned s.connections) e ∙ o)

  room_placed : (d : ℕ) → owned s.connections d ≡ true → (c ≡ d) ⊎ (c ≡ d → ⊥) → length (of d (s.held ++ p ∷ [])) ≤ reservation s.link (figures s d)
  unfolding p
  room_placed d l (inl e) =
      subst (λ (j : ℕ). length (of j (s.held ++ p ∷ [])) ≤ reservation s.link (figures s j)) e
      (omega (arith, D.room, ap length (of_snoc_same c s.held p refl), length-append (of c s.held) (p ∷ [])))
  room_placed d l (inr e) = omega (arith, S.room d l, ap length (of_snoc_other d s.held p e))

  behind : InService s → InService (placed s c len tag st)
  behind r = record {
    it = r.it;
    is_first = first_append s.serving s.held (packet s c len tag st ∷ []) r.it r.is_first;
    eligible = r.eligible;
    some_to_go = r.some_to_go;
    to_go_le = r.to_go_le;
  }

  pub sound_placed : Orderly (placed s c len tag st)
  unfolding new p
  sound_placed = record {
    link_in = S.link_in;
    levels_in = S.levels_in;
    figures_in = S.figures_in;
    numbers = S.numbers;
    one_past_each = length-set s.pasts c _ ∙ S.one_past_each;
    one_mark_each = S.one_mark_each;
    free_blank = λ d l o.
        let f = S.free_blank d l o in
        (f.0, get_or-set_other s.pasts c d new no_past (λ e. other d o (sym e)) ∙ f.1, f.2);
    tested = S.tested;
    reserved_le = S.reserved_le;
    clock_le = S.clock_le;
    fit = all_snoc (Fits s.connections) s.held p S.fit (record { owner = below; some_len = D.some_len; len_le = D.len_le });
    dated = all_snoc (Dated s.clock) s.held p S.dated (record { arrived = omega arith; not_before = in_step.not_before });
    room = λ d l. room_placed d l (same c d);
    queue = λ d l. queue_placed d l (same c d);
    line = record {
      few_notices = S.line.few_notices;
      notices_fit = S.line.notices_fit;
      line = ⊎_elim (λ z. inl z) (λ k. inr (⊎_elim (λ r. inl (behind r)) (λ r. inr r) k)) S.line.line;
      silent_le = S.line.silent_le;
      silent_alone = S.line.silent_alone;
    };
    closed_empty = λ d k. of_snoc_other d s.held p (λ e. true≢false (sym k ∙ ap (closed_at s) (sym e) ∙ stands_open s c D.standing)) ∙ S.closed_empty d k;
  }
