-- An admission and a link keep the invariant: no packet moves, and old connections keep their figures.
use Prim.Native.Nat.{ℕ, ◌+◌, ◌≤◌, ◌<◌}
use native.Mathlib.Omega.{arith}
use mathlib.Core.Path.{◌≡◌, refl, sym, ap, ◌∙◌, subst}
use mathlib.Core.Bool.{false, true≢false}
use mathlib.Core.Logic.{inl, inr}
use mathlib.Core.List.{List, []}
use lib.ListN.{length}
use Rattle.rules.specs.Words.{upto}
use Rattle.rules.specs.Model.{Link, Connection, no_past, Packet, State, fresh, past}
use Rattle.rules.specs.Admission.{owned, free_number, joining, bound, cost}
use Rattle.rules.specs.Service.{Spaced, of, eligibilities}
use Rattle.rules.specs.SoundState.{Fits, Sound}
use Rattle.rules.proofs.Doings.{linked, joined, marked}
use Rattle.rules.specs.Runs.{History, bound_of}
use Rattle.rules.proofs.Lists.{All, all_map, all_zip, total, total_eq}
use Rattle.rules.proofs.Keys.{Ahead, keyed}
use Rattle.rules.proofs.Rows.{first_all}
use Rattle.rules.proofs.Memory.{memory}
use Rattle.rules.proofs.Spacing.{spaced_nil}
use Rattle.rules.proofs.Notices.{of_none}
use Rattle.rules.proofs.Standing.{level_free, free_is, nth_old, nth_joined, fits_old}
use Rattle.rules.proofs.Line.{left_same}
use Rattle.rules.proofs.Window.{weight, between}
use Rattle.rules.proofs.SoundTick.{served_on, serving_owned}
use Rattle.rules.proofs.SoundKept.{early_joined}
use Rattle.rules.proofs.Busy.{due, served, Free, Line, Regular, fit_held, Busy, served_idle, served_at, served_is, served_notice}
use Rattle.rules.proofs.BusyTick.{restart}
use Rattle.rules.proofs.Invariant.{Steady, Invariant, facts_of, some_window, free_below_largest}

-- ---- an admission

module _ (s : State) (acc : List Packet) (x : Connection) (room : free_number s.connections < length s.connections) (new_past : past s (free_number s.connections) ≡ no_past) (R : Regular s acc) where
  same_due : (m e t : ℕ) (p : Packet) → Fits s.connections p → due s.link (joining s.connections x) m e t p ≡ due s.link s.connections m e t p
  same_due m e t p f =
      ap (λ (c : Connection). keyed m e c.level p.eligibility (upto p.eligibility t (cost s.link p.len)))
      (nth_old s.connections x room p.connection f.owner)

  same_weight : (m e b t : ℕ) (p : Packet) → Fits s.connections p → weight s.link (joining s.connections x) m e b t p ≡ weight s.link s.connections m e b t p
  same_weight m e b t p f =
      ap (λ (c : Connection). keyed m e c.level p.eligibility (between b t (cost s.link p.len) p))
      (nth_old s.connections x room p.connection f.owner)

  was_free : owned s.connections (free_number s.connections) ≡ false
  was_free = level_free s.connections (free_number s.connections) (free_is s.connections room)

  -- the new connection has no packet yet
  none_yet : of (free_number s.connections) acc ≡ []
  none_yet = of_none (free_number s.connections) acc (all_map (λ p f e. true≢false (sym f.owner ∙ ap (owned s.connections) e ∙ was_free)) acc R.fit)

  joined_regular : Regular (joined s x) acc
  joined_regular = record {
    fit = all_map (fits_old s.connections x room) acc R.fit;
    spaced = nth_joined s.connections x room (λ c f. Spaced f (eligibilities c acc)) R.spaced (rw none_yet (spaced_nil x));
    remembered = nth_joined s.connections x room (λ c f. past s c ≡ memory (eligibilities c acc)) R.remembered (rw none_yet new_past);
    part = R.part;
  }

  joined_served : (m e : ℕ) → Line s → served (joined s x) m e s.clock ≡ served s m e s.clock
  joined_served m e (inl z) = served_idle (joined s x) m e s.clock z.0 ∙ sym (served_idle s m e s.clock z.0)
  joined_served m e (inr (inr n)) = served_notice (joined s x) m e s.clock n.alone ∙ sym (served_notice s m e s.clock n.alone)
  joined_served m e (inr (inl r)) =
      served_at (joined s x) m e s.clock r.it r.some_to_go r.is_first
      ∙ same_due m e s.clock r.it (first_all s.serving (Fits s.connections) s.held r.it r.is_first (fit_held s acc R))
      ∙ sym (served_is s m e s.clock r)

  joined_busy : (m e : ℕ) → Line s → Busy s acc m e s.clock → Busy (joined s x) acc m e s.clock
  joined_busy m e l B = record {
    from = B.from;
    started = B.started;
    since =
        all_zip
        (λ p f k a i.
        k (subst (λ (c : Connection). Ahead m e c.level p.eligibility) (nth_old s.connections x room p.connection f.owner) a) i)
        s.held (fit_held s acc R) B.since;
    work =
        omega (
          arith,
          B.work,
          total_eq (due s.link (joining s.connections x) m e s.clock) (due s.link s.connections m e s.clock) s.held (all_map (same_due m e s.clock) s.held (fit_held s acc R)),
          total_eq (weight s.link (joining s.connections x) m e B.from s.clock) (weight s.link s.connections m e B.from s.clock) acc (all_map (same_weight m e B.from s.clock) acc R.fit),
          joined_served m e l,
          left_same s (joined s x) refl refl refl,
        );
    in_time = B.in_time;
  }

module _ (h : History) (I : Invariant h) where
  open h use {now as s, accepted as all, departed as gone, present as acc}

  pub joined_keeps : (x : Connection) → free_number s.connections < length s.connections → past s (free_number s.connections) ≡ no_past → Steady all gone acc (joined s x)
  joined_keeps x room e = record {
    regular = joined_regular s acc x room e I.steady.regular;
    line = joined_line I.steady.line;
    busy = λ m k low high. joined_busy s acc x room e I.steady.regular m k I.steady.line (I.steady.busy m k low high);
    punctual =
        all_zip
        (λ p f k.
        subst (λ (c : Connection). s.clock + 1 ≤ p.eligibility + bound s.link c.level) (sym (nth_old s.connections x room p.connection f.owner)) k)
        s.held (fit_held s acc I.steady.regular) I.steady.punctual;
    conserved = I.steady.conserved;
  }
    where
      joined_line : Line s → Line (joined s x)
      joined_line (inl z) = inl z
      joined_line (inr (inl r)) = inr (inl (served_on (λ i. sym (early_joined s x room s.serving (serving_owned s (fit_held s acc I.steady.regular) r)) ∙ i) r))
      joined_line (inr (inr n)) = inr (inr (record { in_service = n.in_service; short = n.short; alone = n.alone }))

  -- ---- a link: nothing is held and nothing was accepted

  pub linked_keeps : (l : Link) → s ≡ fresh → Sound (linked s l) → Steady all gone acc (linked s l)
  linked_keeps l e T = record {
    regular = R;
    line = inl free;
    busy = λ m k low high.
        restart new acc m k s.clock (fit_held new acc R)
        (ap (λ (ps : List Packet). total (due l s.connections m k s.clock) ps) (ap (λ (r : State). r.held) e))
        (free_below_largest new (facts_of new T) free (omega arith))
        (some_window new T m low high);
    punctual = subst (All (λ p. s.clock + 1 ≤ p.eligibility + bound_of new p.connection)) (sym (ap (λ (r : State). r.held) e)) tt;
    conserved = I.steady.conserved;
  }
    where
      free : Free (linked s l)
      free = (ap (λ (r : State). r.to_go) e, omega (arith, ap (λ (r : State). r.silent) e))

      new : State
      new = linked s l

      R : Regular (linked s l) acc
      R = record { fit = I.steady.regular.fit; spaced = I.steady.regular.spaced; remembered = I.steady.regular.remembered; part = I.steady.regular.part }

  -- ---- a close: the mark is nobody's concern

  pub marked_keeps : (c : ℕ) → Steady all gone acc (marked s c)
  marked_keeps c = record {
    regular = record { fit = I.steady.regular.fit; spaced = I.steady.regular.spaced; remembered = I.steady.regular.remembered; part = I.steady.regular.part };
    line = marked_line I.steady.line;
    busy = λ m k low high.
        let B = I.steady.busy m k low high in
        record { from = B.from; started = B.started; since = B.since; work = omega (arith, B.work, left_same s (marked s c) refl refl refl); in_time = B.in_time };
    punctual = I.steady.punctual;
    conserved = I.steady.conserved;
  }
    where
      marked_line : Line s → Line (marked s c)
      marked_line (inl z) = inl z
      marked_line (inr (inl r)) = inr (inl r)
      marked_line (inr (inr n)) = inr (inr (record { in_service = n.in_service; short = n.short; alone = n.alone }))
