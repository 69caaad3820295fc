-- No packet leaves before its eligibility plus its length whose connection's packets may not go early (document 02, R-9 and R-11).
use Prim.Native.Nat.{ℕ, zero, suc, ◌+◌, ◌≤◌, ◌<◌}
use native.Mathlib.Omega.{arith}
use mathlib.Core.Path.{◌≡◌, refl, sym, ap, ◌∙◌, subst}
use mathlib.Core.Bool.{Bool, true, false, cond, true≢false}
use mathlib.Core.Logic.{◌⊎◌, inl, inr, ⊎_elim}
use mathlib.Core.List.{List, [], ◌∷◌}
use mathlib.Core.Option.{Option, none, some}
use lib.Dec.{eqb}
use lib.ListN.{length, get_or}
use lib.Seq.{get_or-set_other}
use Rattle.rules.specs.Limits.{max_connections, notice_number}
use Rattle.rules.specs.Model.{Link, Connection, Packet, Notice, State, Call, link, admit, offer, notice, close, tick, nth, figures, closed_at, with_line}
use Rattle.rules.specs.Admission.{owned, bound, goes_early}
use Rattle.rules.specs.Service.{of, first, early_at, chosen, stand_by, takes, ticked}
use Rattle.rules.proofs.Doings.{level_of}
use Rattle.rules.proofs.HubTick.{line_after_start, started_state, packet_departs, notice_departs, after_unit}
use Rattle.rules.specs.SoundState.{Fits, Orderly, Sound}
use Rattle.rules.specs.Calls.{verdict, packet, done, answer}
use Rattle.rules.proofs.Doings.{marked}
use Rattle.rules.specs.Runs.{History, after, run_from, nothing_yet, run, bound_of}
use Rattle.rules.proofs.Lists.{All, all_map}
use Rattle.rules.proofs.Rows.{none_some, some_inj, first_all, first_of, first_append, of_first}
use Rattle.rules.proofs.Notices.{of_none, first_behind}
use Rattle.rules.proofs.Standing.{owned_below, stands_below, nth_old, open_unexpired, kept_figures}
use Rattle.rules.proofs.Choice.{Chosen}
use Rattle.rules.proofs.Verdicts.{settled, link_done, admit_done, offer_done, close_done, tick_done}
use Rattle.rules.proofs.Line.{stands_by, tick_leaves}
use Rattle.rules.proofs.SoundTick.{choice_holds}
use Rattle.rules.proofs.Invariant.{Invariant, connections_few}
use Rattle.rules.proofs.KeptByTick.{InTime, ticked_in_time}
use Rattle.rules.proofs.Every.{keeps, fresh_invariant}
use Rattle.rules.proofs.Busy.{Line}

-- what is in service and may not go early has been eligible for as many ticks as it has sent units; `may`: whether a number's packets may
abbrev BegunBy : (ℕ → Bool) → State → Type 0
BegunBy may s = (p : Packet) → 1 ≤ s.to_go → first s.serving s.held ≡ some p → may p.connection ≡ false → p.eligibility + p.len ≤ s.clock + s.to_go

abbrev pub Begun : State → Type 0
Begun s = BegunBy (early_at s) s

-- ---- a number that holds a packet keeps its figures, and the link is as it was: so its bound stays, and whether its packets may go early

module _ (s : State) (S : Sound s) (c : ℕ) (holds : length (of c s.held) < 1 → ⊥) where
  unlinked : s.link.levels ≡ 0 → ⊥
  unlinked z = holds (omega (arith, ap (λ (r : State). length (of c r.held)) (S.with_no_link z)))

  has_owner : owned s.connections c ≡ true
  has_owner = go (owned s.connections c) refl
    where
      go : (b : Bool) → owned s.connections c ≡ b → owned s.connections c ≡ true
      go true o = o
      go false o =
          absurd
          (holds
          (omega (
            arith,
            ap length (of_none c s.held (all_map (λ p f e. true≢false (sym f.owner ∙ ap (owned s.connections) e ∙ o)) s.held (S.with_one unlinked).orderly.fit)),
          )))

  open_yet : closed_at s c ≡ false
  open_yet = go (closed_at s c) refl
    where
      go : (b : Bool) → closed_at s c ≡ b → closed_at s c ≡ false
      go true k = absurd (holds (omega (arith, ap length ((S.with_one unlinked).orderly.closed_empty c k))))
      go false k = k

  below : c < max_connections
  below = omega (arith, (S.with_one unlinked).orderly.numbers, owned_below s.connections c has_owner)

  figures_stay : (k : Call) → verdict k s ≡ 0 → ((done k s).next.link ≡ s.link) × (figures (done k s).next c ≡ figures s c)
  figures_stay (link l) e = absurd (unlinked (link_done s l e).unset)
  figures_stay (admit x) e = (refl, nth_old s.connections x (omega (arith, (S.with_one unlinked).orderly.numbers, (admit_done s x e).free)) c has_owner)
  figures_stay (offer d len tag st) e = (refl, refl)
  figures_stay (notice len tag) e = (refl, refl)
  figures_stay (close d) e = (
    refl,
    kept_figures (marked s d) c below
        (open_unexpired (marked s d) c
        (get_or-set_other s.closed d c true false (λ i. holds (subst (λ (j : ℕ). length (of j s.held) < 1) (sym i) (close_done s d e).empty)) ∙ open_yet)),
  )
  figures_stay tick e =
      let L = tick_leaves s in (
        L.link,
        kept_figures (ticked s).next c below (open_unexpired (ticked s).next c (ap (λ (ms : List Bool). get_or ms c false) L.closed ∙ open_yet))
            ∙ ap (λ (cs : List Connection). nth cs c) L.connections,
      )

  pub early_stays : (k : Call) → verdict k s ≡ 0 → early_at (done k s).next c ≡ early_at s c
  early_stays k e = let f = figures_stay k e in ap (λ (l : Link). goes_early l (figures (done k s).next c)) f.0 ∙ ap (goes_early s.link) f.1

  pub bound_stays : (k : Call) → verdict k s ≡ 0 → bound_of (done k s).next c ≡ bound_of s c
  bound_stays k e =
      let f = figures_stay k e in
      ap (λ (l : Link). bound l (figures (done k s).next c).level) f.0 ∙ ap (λ (x : Connection). bound s.link x.level) f.1

-- while something is in service after a tick, what was held is
held_yet : (s : State) (u : ℕ) → 1 ≤ (after_unit s u).next.to_go → (after_unit s u).next.held ≡ s.held
held_yet s zero l = absurd (omega arith)
held_yet s (suc zero) l = go (eqb s.serving notice_number) s.notices l
  where
    go : (b : Bool) (ns : List Notice) → 1 ≤ (cond b (notice_departs s ns) (packet_departs s)).next.to_go → (cond b (notice_departs s ns) (packet_departs s)).next.held ≡ s.held
    go true [] l = absurd (omega arith)
    go true (n ∷ ns) l = absurd (omega arith)
    go false ns l = absurd (omega arith)
held_yet s (suc (suc u)) l = refl

-- a number whose first packet there is holds one
pub holds_first : (c : ℕ) (ps : List Packet) (p : Packet) → first c ps ≡ some p → length (of p.connection ps) < 1 → ⊥
holds_first c ps p e l =
    omega (arith, ap length (of_first c ps p e), subst (λ (j : ℕ). length (of j ps) < 1) (first_of c ps p e) l)

-- ---- a tick

module _ (s : State) (S : Orderly s) (B : Begun s) where
  no_notices : All (λ p. p.connection ≡ notice_number → ⊥) s.held
  no_notices = all_map (λ p f e. omega (arith, S.numbers, owned_below s.connections p.connection f.owner)) s.held S.fit

  start_begun : (u q : ℕ) → s.to_go ≡ u → s.silent ≡ q → BegunBy (early_at s) (with_line s (line_after_start s u q).0 (line_after_start s u q).1 s.silent)
  start_begun zero zero e f = go (chosen s) (choice_holds s S) s.notices (stand_by s) refl
    where
      go : (o : Option Packet) → Chosen (level_of s) s.clock s.held o → (ns : List Notice) (b : Option Packet) → stand_by s ≡ b
          → BegunBy (early_at s) (with_line s (takes o ns b).0 (takes o ns b).1 s.silent)
      go (some p) k ns b j q l i f = let r : p ≡ q = some_inj (sym k.2 ∙ i) in omega (arith, k.0, ap (λ (x : Packet). x.eligibility) r, ap (λ (x : Packet). x.len) r)
      go none k [] none j q l i f = absurd (omega arith)
      go none k [] (some p) j q l i f =
          let e = stands_by s p j in
          absurd (true≢false (sym e.0 ∙ ap (λ (x : Packet). early_at s x.connection) (some_inj (sym e.1 ∙ i)) ∙ f))
      go none k (n ∷ ns) b j q l i f = absurd (first_all notice_number (λ p. p.connection ≡ notice_number → ⊥) s.held q i no_notices (first_of notice_number s.held q i))
  start_begun zero (suc q) e f = λ p l i m. absurd (omega arith)
  start_begun (suc u) q e f = λ p l i m. subst (λ (v : ℕ). p.eligibility + p.len ≤ s.clock + v) e (B p (omega arith) i m)

  -- what departs, if anything does: a notice, or not too early
  abbrev NotEarly : Option Packet → Type 0
  NotEarly o = (p : Packet) → o ≡ some p → (p.connection ≡ notice_number) ⊎ ((early_at s p.connection ≡ false → p.eligibility + p.len ≤ s.clock + 1) × (owned s.connections p.connection ≡ true))

  unit_begun : (w u : ℕ) → BegunBy (early_at s) (with_line s w u s.silent) → BegunBy (early_at s) (after_unit (with_line s w u s.silent) u).next × NotEarly (after_unit (with_line s w u s.silent) u).departed
  unit_begun w zero b = (λ p l i m. absurd (omega arith), λ p i. absurd (none_some i))
  unit_begun w (suc zero) b = go (eqb w notice_number) s.notices
    where
      r : State
      r = with_line s w 1 s.silent

      go : (t : Bool) (ns : List Notice)
          → BegunBy (early_at s) (cond t (notice_departs (with_line s w 1 s.silent) ns) (packet_departs (with_line s w 1 s.silent))).next
          × NotEarly (cond t (notice_departs (with_line s w 1 s.silent) ns) (packet_departs (with_line s w 1 s.silent))).departed
      go true [] = (λ p l i m. absurd (omega arith), λ p i. absurd (none_some i))
      go true (n ∷ ns) = (λ p l i m. absurd (omega arith), λ p i. inl (sym (ap (λ (x : Packet). x.connection) (some_inj i))))
      go false ns = (λ p l i m. absurd (omega arith), λ p i. inr (λ m. b p (omega arith) i m, (first_all w (Fits s.connections) s.held p i S.fit).owner))
  unit_begun w (suc (suc u)) b = (λ p l i m. omega (arith, b p (omega arith) i m), λ p i. absurd (none_some i))

  pub ticked_begun : BegunBy (early_at s) (ticked s).next × NotEarly (ticked s).departed
  ticked_begun = unit_begun (line_after_start s s.to_go s.silent).0 (line_after_start s s.to_go s.silent).1 (start_begun s.to_go s.silent refl refl)

-- ---- any call

module _ (h : History) (I : Invariant h) (B : Begun h.now) where
  open h use {now as s, present as acc}

  placed_begun : (c len tag : ℕ) (st : Option ℕ) → verdict (offer c len tag st) s ≡ 0 → BegunBy (early_at s) (done (offer c len tag st) s).next
  placed_begun c len tag st e q l i m = go I.steady.line
    where
      p : Packet
      p = packet s c len tag st

      level : c ≡ notice_number → ⊥
      level i = omega (arith, stands_below s c (offer_done s c len tag st e).standing, connections_few s I.sound)

      go : Line s → q.eligibility + q.len ≤ s.clock + s.to_go
      go (inl z) = absurd (omega (arith, z.0))
      go (inr (inl r)) = B q l (r.is_first ∙ sym (first_append s.serving s.held (packet s c len tag st ∷ []) r.it r.is_first) ∙ i) m
      go (inr (inr n)) =
          let k = sym (first_behind s.serving s.held (packet s c len tag st ∷ []) n.alone) ∙ i in
          absurd
          (level
          (sym (first_all s.serving (λ x. x.connection ≡ c) (packet s c len tag st ∷ []) q k (refl, tt))
          ∙ first_of s.serving (packet s c len tag st ∷ []) q k
          ∙ n.in_service.is_notice))

  -- what is in service afterwards may go early exactly if it might before
  begun_after : (k : Call) → verdict k s ≡ 0 → (r : State) → BegunBy (early_at s) r → (p : Packet) → (length (of p.connection s.held) < 1 → ⊥)
      → 1 ≤ r.to_go → first r.serving r.held ≡ some p → early_at (done k s).next p.connection ≡ false → p.eligibility + p.len ≤ r.clock + r.to_go
  begun_after k e r b p holds l i f = b p l i (sym (early_stays s I.sound p.connection holds k e) ∙ f)

  done_begun : (k : Call) → verdict k s ≡ 0 → Begun (done k s).next
  done_begun (link l) e = λ p u i f. absurd (omega (arith, ap (λ (r : State). r.to_go) (I.sound.with_no_link (link_done s l e).unset)))
  done_begun (admit x) e = λ p u i f. begun_after (admit x) e s B p (holds_first s.serving s.held p i) u i f
  done_begun (offer c len tag st) e = placed_begun c len tag st e
  done_begun (notice len tag) e = B
  done_begun (close c) e = λ p u i f. begun_after (close c) e s B p (holds_first s.serving s.held p i) u i f
  done_begun tick e = λ p u i f.
      begun_after tick e (ticked s).next (ticked_begun s (I.sound.with_one (tick_done s e).set).orderly B).0 p
      (holds_first (ticked s).next.serving s.held p (ap (first (ticked s).next.serving) (sym (held_yet (started_state s) (started_state s).to_go u)) ∙ i)) u i f

  pub call_begun : (k : Call) → Begun (after h k).now
  call_begun k = settled (λ a. Begun a.next) k s (verdict k s) (done_begun k) (λ _. B)

  -- what departs, if anything does: a notice, or a connection's, not too early and not too late
  abbrev pub WellTimed : Packet → Type 0
  WellTimed p = (p.connection ≡ notice_number) ⊎ ((owned s.connections p.connection ≡ true) × (early_at s p.connection ≡ false → p.eligibility + p.len ≤ s.clock + 1) × (s.clock + 1 ≤ p.eligibility + bound_of s p.connection))

  pub well_timed_done : (k : Call) → verdict k s ≡ 0 → (p : Packet) → (done k s).departed ≡ some p → WellTimed p
  well_timed_done (link l) e p i = absurd (none_some i)
  well_timed_done (admit x) e p i = absurd (none_some i)
  well_timed_done (offer c len tag st) e p i = absurd (none_some i)
  well_timed_done (notice len tag) e p i = absurd (none_some i)
  well_timed_done (close c) e p i = absurd (none_some i)
  well_timed_done tick e p i =
      let O = (I.sound.with_one (tick_done s e).set).orderly in
      ⊎_elim (λ z. inl z) (λ low. ⊎_elim (λ z. inl z) (λ high. inr (low.1, low.0, high)) (subst (InTime s) i (ticked_in_time h I O))) ((ticked_begun s O B).1 p i)

  pub well_timed : (k : Call) (p : Packet) → (answer k s).departed ≡ some p → WellTimed p
  well_timed k p = settled (λ a. a.departed ≡ some p → WellTimed p) k s (verdict k s) (λ e i. well_timed_done k e p i) (λ _ i. absurd (none_some i))

-- ---- over a run

pub fresh_begun : Begun nothing_yet.now
fresh_begun p l i m = absurd (omega arith)

begun_from : (ks : List Call) (h : History) → Invariant h → Begun h.now → Begun (run_from h ks).now
begun_from [] h I B = B
begun_from (k ∷ ks) h I B = begun_from ks (after h k) (keeps h k I) (call_begun h I B k)

pub begun : (ks : List Call) → Begun (run ks).now
begun ks = begun_from ks nothing_yet fresh_invariant fresh_begun
