-- The stand-by queue (document 02, R-11): when a packet goes early, that the line does not idle, verdict 18, how far past the clock eligibilities can lie, and that all
-- is as it was where it is off.
use Prim.Native.Nat.{ℕ, zero, suc, ◌+◌, ◌≤◌, ◌<◌}
use native.Mathlib.Omega.{arith}
use mathlib.Core.Path.{◌≡◌, refl, sym, ap, ◌∙◌, subst}
use mathlib.Core.Bool.{Bool, true, false, cond, not, true≢false}
use mathlib.Core.Logic.{⊎_elim, ◌↔◌}
use mathlib.Core.List.{List, [], ◌∷◌}
use mathlib.Core.Option.{Option, none, some}
use lib.Dec.{leb, eqb}
use lib.ListN.{length}
use borrow.Author.Tests.{ltb-true, lt-ltb, lt-leb, leb-false, eqb-false}
use Rattle.rules.specs.Words.{within, first_number}
use Rattle.rules.specs.Limits.{clock_end, notice_number}
use Rattle.rules.specs.Model.{Link, Connection, Past, Packet, Notice, State, offer, past, figures}
use Rattle.rules.specs.Admission.{link_within, owned, stamped, reservation, stand_by_on, distance, ahead}
use Rattle.rules.specs.Service.{untimely_by, of, eligibilities, first, chosen, first_early, early_at, stand_by, takes}
use Rattle.rules.proofs.Doings.{level_of}
use Rattle.rules.proofs.HubTick.{line_after_start, started_state}
use Rattle.rules.specs.SoundState.{departed_of, Beyond, Queue, Fits, Waits, Orderly, Sound}
use Rattle.rules.proofs.LineWords.{InService}
use Rattle.rules.specs.SoundTest.{sound}
use Rattle.rules.specs.Calls.{heard, eligibility_now, too_far, verdicts, verdict}
use Rattle.rules.specs.WithoutStandBy.{only_link_within, only_takes, only_start, OnlyBeyond, OnlyQueue, OnlyInService, only_verdicts}
use Rattle.rules.specs.Runs.{allowed}
use Rattle.rules.proofs.Lists.{All, all_map}
use Rattle.rules.proofs.Sums.{same, cond_is}
use Rattle.rules.proofs.Tests.{never, and_true, and_intro}
use Rattle.rules.proofs.Rows.{none_some, some_inj, first_all, first_of}
use Rattle.rules.proofs.Standing.{owned_below, stands_owned}
use Rattle.rules.proofs.Figures.{early_parts, early_made, never_off, never_stamped, ahead_on, ahead_off}
use Rattle.rules.proofs.Choice.{Chosen}
use Rattle.rules.proofs.Verdicts.{heard_parts}
use Rattle.rules.proofs.Line.{stands_by}
use Rattle.rules.proofs.SoundTick.{choice_holds, facts, regulated}
use Rattle.rules.proofs.SoundExact.{exact}
use Rattle.rules.proofs.Queue.{queue_chained, chained_ahead, chained_allowed}
use Rattle.rules.proofs.Room.{allowance_near, near_stamp, offer_verdict}

-- p stands by (document 02, R-11): the queue is on, the packet's connection is of the first kind, no held packet of such a connection was offered before it, no held packet is eligible and no notice waits
pub record StandsBy (s : State) (p : Packet) : Type 0 where
  pub is_on : stand_by_on s.link ≡ true
  pub first_kind : stamped (figures s p.connection) ≡ false
  pub it_is : stand_by s ≡ some p
  pub none_eligible : All (λ q. s.clock < q.eligibility) s.held
  pub no_notice : s.notices ≡ []

-- ---- which packet goes early

module _ (s : State) (S : Orderly s) where
  -- no held packet bears the notices' number
  no_packet : (p : Packet) → first notice_number s.held ≡ some p → ⊥
  no_packet p e =
      omega (
        arith,
        S.numbers,
        first_of notice_number s.held p e,
        owned_below s.connections p.connection (first_all notice_number (Fits s.connections) s.held p e S.fit).owner,
      )

  taken_early : (p : Packet) → s.clock < p.eligibility → (o : Option Packet) → Chosen (level_of s) s.clock s.held o
      → (ns : List Notice) → s.notices ≡ ns → (b : Option Packet) → stand_by s ≡ b
      → 1 ≤ (takes o ns b).1 → first (takes o ns b).0 s.held ≡ some p → StandsBy s p
  taken_early p late (some q) k ns i b j l e = absurd (omega (arith, k.0, ap (λ (x : Packet). x.eligibility) (some_inj (sym k.2 ∙ e))))
  taken_early p late none k (n ∷ ns) i b j l e = absurd (no_packet p e)
  taken_early p late none k [] i none j l e = absurd (omega arith)
  taken_early p late none k [] i (some q) j l e =
      let y = stands_by s q j in
      let r : q ≡ p = some_inj (sym y.1 ∙ e) in
      let f = early_parts s.link (figures s p.connection) (subst (λ (x : Packet). early_at s x.connection ≡ true) r y.0) in
      record { is_on = f.0; first_kind = f.1; it_is = j ∙ ap some r; none_eligible = k; no_notice = i }

  early_start : (p : Packet) → s.clock < p.eligibility → (u q : ℕ) → u ≡ 0 → 1 ≤ (line_after_start s u q).1 → first (line_after_start s u q).0 s.held ≡ some p → StandsBy s p
  early_start p late zero zero z l e = taken_early p late (chosen s) (choice_holds s S) s.notices refl (stand_by s) refl l e
  early_start p late zero (suc q) z l e = absurd (omega arith)
  early_start p late (suc u) q z l e = absurd (omega arith)

  -- ---- it does not idle

  takes_some : (stand_by s ≡ none → ⊥) → (o : Option Packet) → Chosen (level_of s) s.clock s.held o
      → (ns : List Notice) → s.notices ≡ ns → (b : Option Packet) → stand_by s ≡ b → 1 ≤ (takes o ns b).1
  takes_some h (some p) k ns i b j = (first_all p.connection (Fits s.connections) s.held p k.2 S.fit).some_len
  takes_some h none k (n ∷ ns) i b j = (subst (All (Waits s.link.largest s.clock)) i S.line.notices_fit).0.some_len
  takes_some h none k [] i (some p) j = (first_all p.connection (Fits s.connections) s.held p (stands_by s p j).1 S.fit).some_len
  takes_some h none k [] i none j = absurd (h j)

  some_start : (stand_by s ≡ none → ⊥) → (u q : ℕ) → u ≡ 0 → q ≡ 0 → 1 ≤ (line_after_start s u q).1
  some_start h zero zero z y = takes_some h (chosen s) (choice_holds s S) s.notices refl (stand_by s) refl
  some_start h zero (suc q) z y = absurd (omega arith)
  some_start h (suc u) q z y = absurd (omega arith)

  -- ---- how far past the clock

  near_ahead : stand_by_on s.link ≡ true → (c : ℕ) → owned s.connections c ≡ true
      → All (λ e. e ≤ s.clock + distance s.link (figures s c)) (eligibilities c s.held) × All (λ e. e ≤ s.clock + distance s.link (figures s c)) (past s c)
  near_ahead on c o = go (stamped (figures s c)) refl
    where
      go : (b : Bool) → stamped (figures s c) ≡ b
          → All (λ e. e ≤ s.clock + distance s.link (figures s c)) (eligibilities c s.held) × All (λ e. e ≤ s.clock + distance s.link (figures s c)) (past s c)
      go false i =
          chained_ahead (figures s c) (distance s.link (figures s c)) s.clock (past s c) (eligibilities c s.held)
          (queue_chained (figures s c) (regulated s S c o) (some (distance s.link (figures s c))) s.clock (past s c) (eligibilities c s.held)
          (subst (λ (b : Option ℕ). Queue (figures s c) b s.clock (past s c) (eligibilities c s.held)) (ahead_on s.link (figures s c) (early_made s.link (figures s c) on i)) (S.queue c o)))
      go true i =
          let k =
          chained_allowed (figures s c) s.clock i (past s c) (eligibilities c s.held)
          (queue_chained (figures s c) (regulated s S c o) none s.clock (past s c) (eligibilities c s.held)
          (subst (λ (b : Option ℕ). Queue (figures s c) b s.clock (past s c) (eligibilities c s.held)) (ahead_off s.link (figures s c) (never_stamped s.link (figures s c) i)) (S.queue c o)))
          in
          let l = allowance_near s.link (figures s c) (facts s S c o) i in
          (all_map (λ e r. omega arith) (eligibilities c s.held) k.0, all_map (λ e r. omega arith) (past s c) k.1)

-- where none stands by no held packet may go early
none_early : (may : ℕ → Bool) (ps : List Packet) → first_early may ps ≡ none → All (λ p. may p.connection ≡ false) ps
none_early may [] e = tt
none_early may (p ∷ ps) e = go (may p.connection) refl e (λ k. none_early may ps k)
  where
    go : (b : Bool) → may p.connection ≡ b → cond b (some p) (first_early may ps) ≡ none → (first_early may ps ≡ none → All (λ q. may q.connection ≡ false) ps)
        → All (λ q. may q.connection ≡ false) (p ∷ ps)
    go true i e ih = absurd (none_some (sym e))
    go false i e ih = (i, ih e)

-- ---- with or without a link

pub comes_last : (s : State) (p : Packet) → Sound s → s.to_go ≡ 0 → 1 ≤ (started_state s).to_go → first (started_state s).serving s.held ≡ some p → s.clock < p.eligibility → StandsBy s p
comes_last s p S z l e late =
    ⊎_elim
    (λ n. absurd (none_some (sym (ap (λ (r : State). first (started_state s).serving r.held) (S.with_no_link n)) ∙ e)))
    (λ n. early_start s (S.with_one n).orderly p late s.to_go s.silent z l e)
    (same s.link.levels 0)

unset_off : (s : State) → Sound s → stand_by_on s.link ≡ true → s.link.levels ≡ 0 → ⊥
unfolding stand_by_on
unset_off s S on n = true≢false (sym on ∙ ap (λ (r : State). stand_by_on r.link) (S.with_no_link n))

pub never_idles : (s : State) → Sound s → stand_by_on s.link ≡ true → s.to_go ≡ 0 → s.silent ≡ 0 → (All (λ p. stamped (figures s p.connection) ≡ true) s.held → ⊥) → 1 ≤ (started_state s).to_go
never_idles s S on z y h =
    some_start s (S.with_one (unset_off s S on)).orderly
    (λ e. h (all_map (λ p k. kind p (stamped (figures s p.connection)) refl k) s.held (none_early (early_at s) s.held e)))
    s.to_go s.silent z y
  where
    kind : (p : Packet) (b : Bool) → stamped (figures s p.connection) ≡ b → early_at s p.connection ≡ false → stamped (figures s p.connection) ≡ true
    kind p true i k = i
    kind p false i k = absurd (true≢false (sym (early_made s.link (figures s p.connection) on i) ∙ k))

pub never_far : (s : State) → Sound s → stand_by_on s.link ≡ true → (c : ℕ) → owned s.connections c ≡ true
    → All (λ e. e ≤ s.clock + distance s.link (figures s c)) (eligibilities c s.held) × All (λ e. e ≤ s.clock + distance s.link (figures s c)) (past s c)
never_far s S on c o = near_ahead s (S.with_one (unset_off s S on)).orderly on c o

-- ---- verdict 18

module _ (s : State) (c : ℕ) (st : Option ℕ) where
  far_parts : too_far s c st ≡ true → (stand_by_on s.link ≡ true) × (s.clock + distance s.link (figures s c) < eligibility_now s c st)
  unfolding too_far
  far_parts e = let k = and_true (stand_by_on s.link) _ e in (k.0, ltb-true _ _ k.1)

  far_made : stand_by_on s.link ≡ true → s.clock + distance s.link (figures s c) < eligibility_now s c st → too_far s c st ≡ true
  unfolding too_far
  far_made i l = and_intro (stand_by_on s.link) _ i (lt-ltb _ _ l)

abbrev TooFarOffered : State → ℕ → ℕ → Option ℕ → Type 0
TooFarOffered s c len st =
    (allowed s c len st ≡ true)
    × (length (of c s.held) < reservation s.link (figures s c))
    × (s.clock < clock_end)
    × (untimely_by (figures s c) (past s c) s.clock st ≡ false)
    × (stand_by_on s.link ≡ true)
    × (s.clock + distance s.link (figures s c) < eligibility_now s c st)

pub eighteen : (c len tag : ℕ) (st : Option ℕ) (s : State) → Sound s → (s.link.levels ≡ 0 → ⊥)
    → verdict (offer c len tag st) s ≡ 18
    ↔ TooFarOffered s c len st
eighteen c len tag st s S linked =
    go (heard s c st) refl (within 1 (figures s c).size len) refl (leb (reservation s.link (figures s c)) (length (of c s.held))) refl
    (leb clock_end s.clock) refl (untimely_by (figures s c) (past s c) s.clock st) refl (too_far s c st) refl
    (offer_verdict s S linked c len tag st)
  where
    go : (hears : Bool) → heard s c st ≡ hears → (right : Bool) → within 1 (figures s c).size len ≡ right
        → (full : Bool) → leb (reservation s.link (figures s c)) (length (of c s.held)) ≡ full → (ended : Bool) → leb clock_end s.clock ≡ ended
        → (late : Bool) → untimely_by (figures s c) (past s c) s.clock st ≡ late → (far : Bool) → too_far s c st ≡ far
        → verdict (offer c len tag st) s ≡ cond hears (cond right (cond full 12 (cond ended 13 (cond late 17 (cond far 18 0)))) 11) 10
        → verdict (offer c len tag st) s ≡ 18 ↔ TooFarOffered s c len st
    go false i right j full k ended l late m far n v = (λ e. absurd (omega arith), λ r. never (sym i ∙ (and_true (heard s c st) _ r.0).0))
    go true i false j full k ended l late m far n v = (λ e. absurd (omega arith), λ r. never (sym j ∙ (and_true (heard s c st) _ r.0).1))
    go true i true j true k ended l late m far n v = (λ e. absurd (omega arith), λ r. never (sym (lt-leb _ _ r.1) ∙ k))
    go true i true j false k true l late m far n v = (λ e. absurd (omega arith), λ r. never (sym (lt-leb clock_end s.clock r.2) ∙ l))
    go true i true j false k false l true m far n v = (λ e. absurd (omega arith), λ r. never (sym r.3 ∙ m))
    go true i true j false k false l false m false n v = (λ e. absurd (omega arith), λ r. never (sym n ∙ far_made s c st r.4 r.5))
    go true i true j false k false l false m true n v = (
      λ e. (and_intro (heard s c st) _ i j, leb-false _ _ k, leb-false _ _ l, m, (far_parts s c st n).0, (far_parts s c st n).1),
      λ r. v,
    )

-- an offer with a stamp never gets it, on any state
pub stamps_never : (c len tag stamp : ℕ) (s : State) → verdict (offer c len tag (some stamp)) s ≡ 18 → ⊥
unfolding verdicts
stamps_never c len tag stamp s e = go (sound s) refl (eqb s.link.levels 0) refl _ e
  where
    sound_one : sound s ≡ true → eqb s.link.levels 0 ≡ false → ⊥
    sound_one i j =
        let S = (exact s).0 i in
        let n = eqb-false s.link.levels 0 j in
        let r = (eighteen c len tag (some stamp) s S n).0 e in
        let h = heard_parts s c (some stamp) (and_true (heard s c (some stamp)) _ r.0).0 in
        true≢false
        (sym (far_made s c (some stamp) r.4 r.5)
        ∙ near_stamp s c (some stamp) (facts s (S.with_one n).orderly c (stands_owned s c h.0)) h.1 h.1 r.3)

    go : (a : Bool) → sound s ≡ a → (b : Bool) → eqb s.link.levels 0 ≡ b → (rest : ℕ) → ◌≡◌ {A = ℕ} (cond (not a) 1 (cond b 2 rest)) 18 → ⊥
    go false i b j rest k = omega arith
    go true i true j rest k = omega arith
    go true i false j rest k = sound_one i j

-- ---- where it is off

pub link_only : (l : Link) → l.early ≡ 0 → (stand_by_on l ≡ false) × (link_within l ≡ only_link_within l)
unfolding link_within stand_by_on
link_only l e = (rw e refl, rw e refl)

off_none : (may : ℕ → Bool) → ((c : ℕ) → may c ≡ false) → (ps : List Packet) → first_early may ps ≡ none
off_none may f [] = refl
off_none may f (p ∷ ps) = cond_is (some p) (first_early may ps) (f p.connection) ∙ off_none may f ps

module _ (c : Connection) (t : ℕ) where
  beyond_only : (h es : List ℕ) → Beyond c none t h es → OnlyBeyond c t h es
  beyond_only h [] b = tt
  beyond_only h (e ∷ es) b = (b.0, beyond_only (e ∷ h) es b.1)

  only_beyond : (h es : List ℕ) → OnlyBeyond c t h es → Beyond c none t h es
  only_beyond h [] b = tt
  only_beyond h (e ∷ es) b = (b.0, only_beyond (e ∷ h) es b.1)

  queue_only : (h : Past) (es : List ℕ) → Queue c none t h es ↔ OnlyQueue c t h es
  queue_only h es = (
    λ q. record {
      few = q.few;
      last_rows = q.last_rows;
      rise = q.rise;
      left_eligible = all_map (λ e k. omega arith) (departed_of h es) q.left_eligible;
      beyond = beyond_only (departed_of h es) es q.beyond;
    },
    λ q. record {
      few = q.few;
      last_rows = q.last_rows;
      rise = q.rise;
      left_eligible = all_map (λ e k. omega arith) (departed_of h es) q.left_eligible;
      beyond = only_beyond (departed_of h es) es q.beyond;
    },
  )

module _ (s : State) (off : stand_by_on s.link ≡ false) where
  never_early : (c : ℕ) → early_at s c ≡ false
  never_early c = never_off s.link (figures s c) off

  pub start_only : (u q : ℕ) → line_after_start s u q ≡ only_start s u q
  start_only zero zero = ap (takes (chosen s) s.notices) (off_none (early_at s) never_early s.held) ∙ go (chosen s) s.notices
    where
      go : (o : Option Packet) (ns : List Notice) → takes o ns none ≡ only_takes o ns
      go (some p) ns = refl
      go none [] = refl
      go none (n ∷ ns) = refl
  start_only zero (suc q) = refl
  start_only (suc u) q = refl

  pub rows_only : (c : Connection) (t : ℕ) (h : Past) (es : List ℕ) → Queue c (ahead s.link c) t h es ↔ OnlyQueue c t h es
  rows_only c t h es = subst (λ (a : Option ℕ). Queue c a t h es ↔ OnlyQueue c t h es) (sym (ahead_off s.link c (never_off s.link c off))) (queue_only c t h es)

  pub service_only : InService s ↔ OnlyInService s.held s.serving s.to_go s.clock
  service_only = (
    λ r. record { it = r.it; is_first = r.is_first; eligible = r.eligible (never_early s.serving); some_to_go = r.some_to_go; to_go_le = r.to_go_le },
    λ r. record { it = r.it; is_first = r.is_first; eligible = λ _. r.eligible; some_to_go = r.some_to_go; to_go_le = r.to_go_le },
  )

  near_off : (c : ℕ) (st : Option ℕ) → too_far s c st ≡ false
  unfolding too_far
  near_off c st = rw off refl

  pub verdict_only : (c len tag : ℕ) (st : Option ℕ) → verdict (offer c len tag st) s ≡ first_number (only_verdicts c len st s)
  unfolding verdicts
  verdict_only c len tag st =
      ap
      (λ (far : Bool). cond (not (sound s)) 1
      (cond (eqb s.link.levels 0) 2
      (cond (not (heard s c st)) 10
      (cond (not (within 1 (figures s c).size len)) 11
      (cond (leb (reservation s.link (figures s c)) (length (of c s.held))) 12
      (cond (leb clock_end s.clock) 13 (cond (untimely_by (figures s c) (past s c) s.clock st) 17 (cond far 18 0))))))))
      (near_off c st)
