-- Freeing the numbers whose charge is over leaves a sound state (document 02, R-8); marking one closed is what it starts from.
use Prim.Native.Nat.{ℕ, ◌*◌, ◌≤◌, ◌<◌}
use native.Mathlib.Omega.{arith}
use mathlib.Core.Path.{◌≡◌, refl, sym, ap, ◌∙◌, subst}
use mathlib.Core.Bool.{Bool, true, false, cond, true≢false}
use mathlib.Core.Logic.{◌⊎◌, inl, inr, ⊎_elim}
use mathlib.Core.List.{List, [], ◌∷◌}
use lib.Dec.{eqb}
use lib.ListN.{length, length-set, get_or-eq_default}
use lib.Seq.{get_or-set_other}
use borrow.Author.Tests.{eq-eqb}
use Rattle.rules.specs.Words.{upto, sum}
use Rattle.rules.specs.Limits.{max_connections}
use Rattle.rules.specs.Model.{Connection, Past, Packet, State, no_connection, nth, past, figures, closed_at}
use Rattle.rules.specs.Admission.{owned, stands, level_within, figures_within, bound, count, reservation, reserved, cost, span, level_sum, goes_early, ahead}
use Rattle.rules.specs.Service.{of, eligibilities, early_at, expired, swept}
use Rattle.rules.specs.SoundState.{Fits, Queue, Orderly, SoundWithLink}
use Rattle.rules.proofs.Doings.{FreeNumber}
use Rattle.rules.proofs.LineWords.{InService}
use Rattle.rules.proofs.Doings.{marked}
use Rattle.rules.proofs.Lists.{All, all_map, all_zip}
use Rattle.rules.proofs.Sums.{split, same, cond_is, sum_le, upto_le}
use Rattle.rules.proofs.Rows.{nil_of, first_all, first_of}
use Rattle.rules.proofs.Count.{count_none}
use Rattle.rules.proofs.Figures.{reservation_is, sum_is}
use Rattle.rules.proofs.SoundTick.{served_on, serving_owned}
use Rattle.rules.proofs.Standing.{owned_below, owned_same, stands_owned, swept_length, swept_pasts_length, swept_marks_length, expired_closed, swept_unexpired, kept_figures, kept_past, kept_closed, freed_figures, freed_past, freed_closed, swept_owner, swept_was, swept_stays}

-- each packet is one of its connection's
still_there : (ps : List Packet) → All (λ p. of p.connection ps ≡ [] → ⊥) ps
still_there [] = tt
still_there (p ∷ ps) = (
  λ e. let z : ◌≡◌ {A = ℕ} 0 1 = cc (sym (cond_is (p ∷ of p.connection ps) (of p.connection ps) (eq-eqb p.connection p.connection refl)) ∙ e) in omega arith,
  all_map (λ q k e. k (shorter q e)) ps (still_there ps),
)
  where
    shorter : (q : Packet) → of q.connection (p ∷ ps) ≡ [] → of q.connection ps ≡ []
    shorter q e = go (eqb p.connection q.connection) e
      where
        go : (b : Bool) → cond b (p ∷ of q.connection ps) (of q.connection ps) ≡ [] → of q.connection ps ≡ []
        go true e = let z : ◌≡◌ {A = ℕ} 0 1 = cc e in absurd (omega arith)
        go false e = e

module _ (s : State) (S : Orderly s) where
  -- no held packet's number is freed
  pub held_stay : All (λ p. expired s p.connection ≡ false) s.held
  held_stay = all_map (λ p k. one p k (expired s p.connection) refl) s.held (still_there s.held)
    where
      one : (p : Packet) → (of p.connection s.held ≡ [] → ⊥) → (b : Bool) → expired s p.connection ≡ b → expired s p.connection ≡ false
      one p k true e = absurd (k (S.closed_empty p.connection (expired_closed s p.connection e).0))
      one p k false e = e

  below : (c : ℕ) → owned s.connections c ≡ true → c < max_connections
  below c o = omega (arith, S.numbers, owned_below s.connections c o)

  pub fits_swept : (p : Packet) → Fits s.connections p → expired s p.connection ≡ false → Fits (swept s).connections p
  fits_swept p f e =
      let l = below p.connection f.owner in
      record {
        owner = swept_stays s p.connection l f.owner e;
        some_len = f.some_len;
        len_le = subst (λ (x : Connection). p.len ≤ x.size) (sym (kept_figures s p.connection l e)) f.len_le;
      }

  -- the packet in service may go early if it might before
  pub early_swept : InService s → early_at (swept s) s.serving ≡ early_at s s.serving
  early_swept r =
      let i = first_of s.serving s.held r.it r.is_first in
      ap (goes_early s.link)
      (kept_figures s s.serving (below s.serving (serving_owned s S.fit r))
      (ap (expired s) (sym i) ∙ first_all s.serving (λ p. expired s p.connection ≡ false) s.held r.it r.is_first held_stay))

  -- the sums do not grow
  sum_swept : (f : Connection → ℕ) → f no_connection ≡ 0 → sum (length (swept s).connections) (λ c. f (nth (swept s).connections c)) ≤ sum (length s.connections) (λ c. f (nth s.connections c))
  sum_swept f z =
      subst (λ (n : ℕ). sum n (λ c. f (nth (swept s).connections c)) ≤ sum (length s.connections) (λ c. f (nth s.connections c))) (S.numbers ∙ sym (swept_length s))
      (sum_le (length s.connections) {f = λ c. f (nth (swept s).connections c)} {g = λ c. f (nth s.connections c)}
      (λ c l. one c (omega (arith, S.numbers)) (expired s c) refl))
    where
      one : (c : ℕ) → c < max_connections → (b : Bool) → expired s c ≡ b → f (nth (swept s).connections c) ≤ f (nth s.connections c)
      one c l true e = omega (arith, ap f (freed_figures s c l e))
      one c l false e = omega (arith, ap f (kept_figures s c l e))

  share : ℕ → ℕ → Connection → ℕ
  share m i x = upto x.level m (count x (span s.link m i x.level) * cost s.link x.size)

  share_none : (m i : ℕ) → share m i no_connection ≡ 0
  unfolding share
  share_none m i =
      omega (
        arith,
        upto_le 0 m (count no_connection (span s.link m i 0) * cost s.link 0),
        ap (λ (k : ℕ). k * cost s.link 0) (count_none (span s.link m i 0)),
      )

  sum_le_swept : (m i : ℕ) → level_sum s.link (swept s).connections m i ≤ level_sum s.link s.connections m i
  unfolding share
  sum_le_swept m i = omega (arith, sum_is s.link (swept s).connections m i, sum_is s.link s.connections m i, sum_swept (share m i) (share_none m i))

  reserved_le_swept : reserved s.link (swept s).connections ≤ reserved s.link s.connections
  reserved_le_swept = sum_swept (reservation s.link) (reservation_is s.link no_connection ∙ count_none (bound s.link 0))

  closed_below : (c : ℕ) → closed_at (swept s) c ≡ true → c < max_connections
  closed_below c k =
      ⊎_elim
      (λ l. absurd (true≢false (sym k ∙ get_or-eq_default (swept s).closed false {n = c} (omega (arith, swept_marks_length s)))))
      (λ l. l)
      (split max_connections c)

  orderly_swept : Orderly (swept s)
  orderly_swept = record {
    link_in = S.link_in;
    levels_in = λ c o.
        let k = swept_owner s c o in
        subst (λ (x : Connection). level_within s.link x ≡ true) (sym (kept_figures s c k.0 k.1)) (S.levels_in c (swept_was s c o));
    figures_in = λ c o.
        let k = swept_owner s c o in
        subst (λ (x : Connection). figures_within s.link x ≡ true) (sym (kept_figures s c k.0 k.1)) (S.figures_in c (swept_was s c o));
    numbers = swept_length s;
    one_past_each = swept_pasts_length s;
    one_mark_each = swept_marks_length s;
    free_blank = λ c l o. blank c l o (expired s c) refl;
    tested = λ m low high i k. omega (arith, sum_le_swept m i, S.tested m low high i k);
    reserved_le = omega (arith, reserved_le_swept, S.reserved_le);
    clock_le = S.clock_le;
    fit = all_zip (λ p f e. fits_swept p f e) s.held S.fit held_stay;
    dated = S.dated;
    room = λ c o.
        let k = swept_owner s c o in
        subst (λ (x : Connection). length (of c s.held) ≤ reservation s.link x) (sym (kept_figures s c k.0 k.1)) (S.room c (swept_was s c o));
    queue = λ c o.
        let k = swept_owner s c o in
        subst (λ (x : Connection). Queue x (ahead s.link x) s.clock (past (swept s) c) (eligibilities c s.held)) (sym (kept_figures s c k.0 k.1))
        (subst (λ (h : Past). Queue (figures s c) (ahead s.link (figures s c)) s.clock h (eligibilities c s.held)) (sym (kept_past s c k.0 k.1)) (S.queue c (swept_was s c o)));
    line = record {
      few_notices = S.line.few_notices;
      notices_fit = S.line.notices_fit;
      line = ⊎_elim (λ z. inl z) (λ k. inr (⊎_elim (λ r. inl (served_on (λ e. sym (early_swept r) ∙ e) r)) (λ n. inr n) k)) S.line.line;
      silent_le = S.line.silent_le;
      silent_alone = S.line.silent_alone;
    };
    closed_empty = λ c k. empty c (closed_below c k) k (expired s c) refl;
  }
    where
      blank : (c : ℕ) → c < max_connections → owned (swept s).connections c ≡ false → (b : Bool) → expired s c ≡ b → FreeNumber (swept s) c
      blank c l o true e = (freed_figures s c l e, freed_past s c l e, freed_closed s c l e)
      blank c l o false e =
          let f = S.free_blank c l (sym (owned_same s.connections (swept s).connections c (kept_figures s c l e)) ∙ o) in
          (kept_figures s c l e ∙ f.0, kept_past s c l e ∙ f.1, kept_closed s c l e ∙ f.2)

      empty : (c : ℕ) → c < max_connections → closed_at (swept s) c ≡ true → (b : Bool) → expired s c ≡ b → of c s.held ≡ []
      empty c l k true e = absurd (true≢false (sym k ∙ freed_closed s c l e))
      empty c l k false e = S.closed_empty c (sym (kept_closed s c l e) ∙ k)

  pub sound_swept : SoundWithLink (swept s)
  sound_swept = record { orderly = orderly_swept; charged = λ c l. swept_unexpired s c l }

  -- a connection that stands and holds nothing is marked
  pub orderly_marked : (c : ℕ) → stands s c ≡ true → length (of c s.held) < 1 → Orderly (marked s c)
  orderly_marked c up empty = record {
    link_in = S.link_in;
    levels_in = S.levels_in;
    figures_in = S.figures_in;
    numbers = S.numbers;
    one_past_each = S.one_past_each;
    one_mark_each = length-set s.closed c true ∙ S.one_mark_each;
    free_blank = λ d l o.
        let f = S.free_blank d l o in
        (f.0, f.1, get_or-set_other s.closed c d true false (λ e. true≢false (sym (stands_owned s c up) ∙ ap (owned s.connections) (sym e) ∙ o)) ∙ f.2);
    tested = S.tested;
    reserved_le = S.reserved_le;
    clock_le = S.clock_le;
    fit = S.fit;
    dated = S.dated;
    room = S.room;
    queue = S.queue;
    line = record {
      few_notices = S.line.few_notices;
      notices_fit = S.line.notices_fit;
      line = S.line.line;
      silent_le = S.line.silent_le;
      silent_alone = S.line.silent_alone;
    };
    closed_empty = λ d k. none d k (same d c);
  }
    where
      none : (d : ℕ) → closed_at (marked s c) d ≡ true → (d ≡ c) ⊎ (d ≡ c → ⊥) → of d s.held ≡ []
      none d k (inl e) = subst (λ (j : ℕ). of j s.held ≡ []) (sym e) (nil_of (of c s.held) (omega arith))
      none d k (inr e) = S.closed_empty d (sym (get_or-set_other s.closed c d true false (λ i. e i)) ∙ k)
