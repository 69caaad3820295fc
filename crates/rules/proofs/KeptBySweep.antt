-- Freeing a number keeps the invariant (document 02, R-8): its packets were all eligible before any busy stretch that still runs.
use Prim.Native.Nat.{ℕ, ◌+◌, ◌≤◌, ◌<◌}
use native.Mathlib.Omega.{arith}
use mathlib.Core.Path.{◌≡◌, refl, sym, ap, ◌∙◌, subst}
use mathlib.Core.Bool.{Bool, true, false, cond, true≢false}
use mathlib.Core.Logic.{inl, inr}
use mathlib.Core.List.{List, [], ◌∷◌, map}
use lib.Dec.{eqb}
use borrow.Author.Tests.{leb-true, eqb-true}
use Rattle.rules.specs.Words.{upto, filter}
use Rattle.rules.specs.Limits.{max_connections}
use Rattle.rules.specs.Model.{Connection, Past, Packet, State, nth, figures}
use Rattle.rules.specs.Admission.{owned, bound, window, charge_time, cost}
use Rattle.rules.specs.Service.{remember, remember_all, Spaced, of, eligibilities, charge_over, expired, swept}
use Rattle.rules.proofs.Doings.{level_of}
use Rattle.rules.specs.SoundState.{Fits, Orderly}
use Rattle.rules.specs.Runs.{Departure, bound_of}
use Rattle.rules.proofs.Lists.{All, Pairs, all_map, all_zip, all_filter, sub_filter, total_eq, total_filter}
use Rattle.rules.proofs.Sums.{upto_no}
use Rattle.rules.proofs.Keys.{Ahead, keyed, keyed_le}
use Rattle.rules.proofs.Rows.{first_all, from_of, all_of_map}
use Rattle.rules.proofs.Memory.{memory}
use Rattle.rules.proofs.Spacing.{spaced_rises}
use Rattle.rules.proofs.Figures.{link_facts, window_charged}
use Rattle.rules.proofs.Line.{left_same}
use Rattle.rules.proofs.Standing.{owned_below, expired_closed, kept_figures, kept_past, swept_owner, swept_was, swept_stays}
use Rattle.rules.proofs.SoundTick.{facts, served_on}
use Rattle.rules.proofs.SoundSwept.{held_stay, early_swept, fits_swept, sound_swept}
use Rattle.rules.proofs.SoundKept.{linked_sound}
use Rattle.rules.proofs.Window.{between, weight}
use Rattle.rules.proofs.Busy.{due, served, Line, Regular, Busy, served_idle, served_at, served_is, served_notice}
use Rattle.rules.proofs.Invariant.{Steady, Invariant}

-- ---- once the last packet's time is over, so is that of all before it

over_all : (d t : ℕ) (m : Past) (e : ℕ) (es : List ℕ) → Pairs (λ a b. a < b) (e ∷ es) → charge_over d t (remember_all m (e ∷ es)) ≡ true → All (λ a. a + d ≤ t) (e ∷ es)
unfolding remember
over_all d t m e [] p c = (leb-true (e + d) t c, tt)
over_all d t m e (f ∷ es) p c =
    let k = over_all d t (remember m e) f es p.1 c in
    (omega (arith, p.0.0, k.0), k)

over_memory : (d t : ℕ) (es : List ℕ) → Pairs (λ a b. a < b) es → charge_over d t (memory es) ≡ true → All (λ a. a + d ≤ t) es
over_memory d t [] p c = tt
over_memory d t (e ∷ es) p c = over_all d t [] e es p c

-- the packets of c are all kept
pub of_filter : (c : ℕ) (f : Packet → Bool) → ((p : Packet) → p.connection ≡ c → f p ≡ true) → (ps : List Packet) → of c (filter f ps) ≡ of c ps
of_filter c f k [] = refl
of_filter c f k (p ∷ ps) = go (f p) refl (eqb p.connection c) refl (of_filter c f k ps)
  where
    go : (a : Bool) → f p ≡ a → (b : Bool) → eqb p.connection c ≡ b → of c (filter f ps) ≡ of c ps
        → of c (cond a (p ∷ filter f ps) (filter f ps)) ≡ cond b (p ∷ of c ps) (of c ps)
    go true i b j ih = ap (λ (t : Bool). cond t (p ∷ of c (filter f ps)) (of c (filter f ps))) j ∙ ap (λ (l : List Packet). cond b (p ∷ l) l) ih
    go false i true j ih = absurd (true≢false (sym (k p (eqb-true p.connection c j)) ∙ i))
    go false i false j ih = ih

module _ (s : State) (S : Orderly s) (acc : List Packet) (R : Regular s acc) where
  abbrev stay : Packet → Bool
  stay p = owned (swept s).connections p.connection

  below : (c : ℕ) → owned s.connections c ≡ true → c < max_connections
  below c o = omega (arith, S.numbers, owned_below s.connections c o)

  -- the accepted packets of a number that is freed are a largest bound old
  pub freed_old : (c : ℕ) → owned s.connections c ≡ true → expired s c ≡ true → All (λ e. e + charge_time s.link ≤ s.clock) (eligibilities c acc)
  freed_old c o e =
      over_memory (charge_time s.link) s.clock (eligibilities c acc)
      (spaced_rises (figures s c) (facts s S c o).some_gap (eligibilities c acc) (R.spaced c o))
      (subst (λ (h : Past). charge_over (charge_time s.link) s.clock h ≡ true) (R.remembered c o) (expired_closed s c e).1)

  swept_same : (p : Packet) → Fits s.connections p → expired s p.connection ≡ false → nth (swept s).connections p.connection ≡ nth s.connections p.connection
  swept_same p f e = kept_figures s p.connection (below p.connection f.owner) e

  held_owned : All (λ p. stay p ≡ true) s.held
  held_owned = all_zip (λ p f e. swept_stays s p.connection (below p.connection f.owner) f.owner e) s.held S.fit (held_stay s S)

  same_eligibilities : (c : ℕ) → owned (swept s).connections c ≡ true → eligibilities c (filter stay acc) ≡ eligibilities c acc
  same_eligibilities c o =
      ap (λ (ps : List Packet). map (λ p. p.eligibility) ps) (of_filter c stay (λ p e. ap (owned (swept s).connections) e ∙ o) acc)

  pub swept_regular : Regular (swept s) (filter stay acc)
  swept_regular = record {
    fit = all_map (λ p k. fits_swept s S p k.1 (swept_owner s p.connection k.0).1) (filter stay acc) (all_filter (Fits s.connections) stay acc R.fit);
    spaced = λ c o.
        let k = swept_owner s c o in
        subst (λ (x : Connection). Spaced x (eligibilities c (filter stay acc))) (sym (kept_figures s c k.0 k.1))
        (subst (Spaced (figures s c)) (sym (same_eligibilities c o)) (R.spaced c (swept_was s c o)));
    remembered = λ c o.
        let k = swept_owner s c o in
        kept_past s c k.0 k.1 ∙ R.remembered c (swept_was s c o) ∙ ap memory (sym (same_eligibilities c o));
    part = sub_filter stay R.part held_owned;
  }

  swept_line : Line s → Line (swept s)
  swept_line (inl z) = inl z
  swept_line (inr (inl r)) = inr (inl (served_on (λ e. sym (early_swept s S r) ∙ e) r))
  swept_line (inr (inr n)) = inr (inr (record { in_service = n.in_service; short = n.short; alone = n.alone }))

  same_due : (m x : ℕ) (p : Packet) → Fits s.connections p → expired s p.connection ≡ false → due s.link (swept s).connections m x s.clock p ≡ due s.link s.connections m x s.clock p
  same_due m x p f e = ap (λ (c : Connection). keyed m x c.level p.eligibility (upto p.eligibility s.clock (cost s.link p.len))) (swept_same p f e)

  swept_served : (m x : ℕ) → Line s → served (swept s) m x s.clock ≡ served s m x s.clock
  swept_served m x (inl z) = served_idle (swept s) m x s.clock z.0 ∙ sym (served_idle s m x s.clock z.0)
  swept_served m x (inr (inr n)) = served_notice (swept s) m x s.clock n.alone ∙ sym (served_notice s m x s.clock n.alone)
  swept_served m x (inr (inl r)) =
      served_at (swept s) m x s.clock r.it r.some_to_go r.is_first
      ∙ same_due m x r.it (first_all s.serving (Fits s.connections) s.held r.it r.is_first S.fit)
      (first_all s.serving (λ p. expired s p.connection ≡ false) s.held r.it r.is_first (held_stay s S))
      ∙ sym (served_is s m x s.clock r)

  -- those of the freed numbers weigh nothing in a stretch that is no longer than a window
  module _ (m x b : ℕ) (low : 1 ≤ m) (high : m ≤ s.link.levels) (fresh_enough : s.clock + 1 ≤ b + window s.link m) where
    gone_weight : (p : Packet) → p.eligibility + charge_time s.link ≤ s.clock → weight s.link s.connections m x b s.clock p ≡ 0
    gone_weight p old =
        omega (
          arith,
          keyed_le m x (nth s.connections p.connection).level p.eligibility (between b s.clock (cost s.link p.len) p),
          upto_no b p.eligibility (upto p.eligibility s.clock (cost s.link p.len)) (omega (arith, window_charged s.link (link_facts s.link S.link_in) m low high)),
        )

    weigh : (c : ℕ) → owned s.connections c ≡ true → expired s c ≡ true → All (λ p. p.connection ≡ c → weight s.link s.connections m x b s.clock p ≡ 0) acc
    weigh c o e =
        from_of c (λ p. weight s.link s.connections m x b s.clock p ≡ 0) acc
        (all_map (λ p k. gone_weight p k) (of c acc) (all_of_map (λ p. p.eligibility) (λ a. a + charge_time s.link ≤ s.clock) (of c acc) (freed_old c o e)))

    -- each one as its own number says
    weights : (ps : List Packet) → All (Fits s.connections) ps
        → ((c : ℕ) → owned s.connections c ≡ true → expired s c ≡ true → All (λ p. p.connection ≡ c → weight s.link s.connections m x b s.clock p ≡ 0) ps)
        → All (λ p. (stay p ≡ true → weight s.link s.connections m x b s.clock p ≤ weight s.link (swept s).connections m x b s.clock p)
        × (stay p ≡ false → weight s.link s.connections m x b s.clock p ≡ 0)) ps
    weights [] f k = tt
    weights (p ∷ ps) f k = (
      (
        λ o. omega (arith, ap (λ (c : Connection). keyed m x c.level p.eligibility (between b s.clock (cost s.link p.len) p)) (swept_same p f.0 (swept_owner s p.connection o).1)),
        λ o. off o (expired s p.connection) refl,
      ),
      weights ps f.1 (λ c o e. (k c o e).1),
    )
      where
        off : stay p ≡ false → (y : Bool) → expired s p.connection ≡ y → weight s.link s.connections m x b s.clock p ≡ 0
        off o true e = (k p.connection f.0.owner e).0 refl
        off o false e = absurd (true≢false (sym (swept_stays s p.connection (below p.connection f.0.owner) f.0.owner e) ∙ o))

  pub swept_busy : (m x : ℕ) → 1 ≤ m → m ≤ s.link.levels → Line s → Busy s acc m x s.clock → Busy (swept s) (filter stay acc) m x s.clock
  swept_busy m x low high l B = record {
    from = B.from;
    started = B.started;
    since =
        all_zip since_then s.held (all_zip (λ p f e. (f, e)) s.held S.fit (held_stay s S)) B.since;
    work =
        omega (
          arith,
          B.work,
          total_eq (due s.link (swept s).connections m x s.clock) (due s.link s.connections m x s.clock) s.held
              (all_zip (λ p f e. same_due m x p f e) s.held S.fit (held_stay s S)),
          total_filter (weight s.link s.connections m x B.from s.clock) (weight s.link (swept s).connections m x B.from s.clock) stay acc
              (weights m x B.from low high B.in_time acc R.fit (weigh m x B.from low high B.in_time)),
          swept_served m x l,
          left_same s (swept s) refl refl refl,
        );
    in_time = B.in_time;
  }
    where
      since_then : (p : Packet) → Fits s.connections p × (expired s p.connection ≡ false)
          → (Ahead m x (level_of s p.connection) p.eligibility → p.eligibility ≤ s.clock → B.from ≤ p.eligibility)
          → Ahead m x (level_of (swept s) p.connection) p.eligibility → p.eligibility ≤ s.clock → B.from ≤ p.eligibility
      since_then p f k a e = k (subst (λ (c : Connection). Ahead m x c.level p.eligibility) (swept_same p f.0 f.1) a) e

-- each held packet's bound stays
module _ (s : State) (S : Orderly s) (acc : List Packet) (R : Regular s acc) where
  swept_punctual : All (λ p. s.clock + 1 ≤ p.eligibility + bound_of s p.connection) s.held
      → All (λ p. s.clock + 1 ≤ p.eligibility + bound_of (swept s) p.connection) s.held
  swept_punctual t = all_zip one s.held (all_zip (λ p f e. (f, e)) s.held S.fit (held_stay s S)) t
    where
      one : (p : Packet) → Fits s.connections p × (expired s p.connection ≡ false) → s.clock + 1 ≤ p.eligibility + bound_of s p.connection
          → s.clock + 1 ≤ p.eligibility + bound_of (swept s) p.connection
      one p f k = subst (λ (c : Connection). s.clock + 1 ≤ p.eligibility + bound s.link c.level) (sym (swept_same s S acc R p f.0 f.1)) k

pub sweep_keeps : (all : List Packet) (gone : List Departure) (acc : List Packet) (s : State) → (s.link.levels ≡ 0 → ⊥) → Orderly s → Steady all gone acc s
    → Invariant (record { accepted = all; departed = gone; present = filter (λ p. owned (swept s).connections p.connection) acc; now = swept s })
sweep_keeps all gone acc s set S T = record {
  sound = linked_sound (swept s) set (sound_swept s S);
  steady = record {
    regular = swept_regular s S acc T.regular;
    line = swept_line s S acc T.regular T.line;
    busy = λ m x low high. swept_busy s S acc T.regular m x low high T.line (T.busy m x low high);
    punctual = swept_punctual s S acc T.regular T.punctual;
    conserved = T.conserved;
  };
}
