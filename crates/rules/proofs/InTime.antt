-- Demand 3, first sentence: no packet is held when its time is over, so by conservation it has left.
use Prim.Native.Nat.{ℕ, zero, suc, ◌+◌, ◌≤◌, ◌<◌}
use native.Mathlib.Omega.{arith}
use mathlib.Core.Path.{◌≡◌, refl, sym, ap, ◌∙◌, subst}
use mathlib.Core.Bool.{Bool, true, false, cond}
use mathlib.Core.Logic.{◌⊎◌}
use mathlib.Core.List.{List, [], ◌∷◌, ◌++◌, map, append-nil}
use mathlib.Core.Option.{some}
use lib.Dec.{eqb}
use lib.ListN.{length, get_elem?}
use Rattle.rules.specs.Limits.{notice_number}
use Rattle.rules.specs.Model.{Packet, notice_packet}
use Rattle.rules.specs.Admission.{owned}
use Rattle.rules.specs.Service.{of, early_at}
use Rattle.rules.specs.SoundState.{Fits, Orderly}
use Rattle.rules.specs.Runs.{Departure, History, departures, in_hub, bound_of}
use Rattle.rules.proofs.Lists.{All, all_map}
use Rattle.rules.proofs.Rows.{none_some, some_inj, nil_of, of_append, to_of, length_map}
use Rattle.rules.proofs.Notices.{of_notices}
use Rattle.rules.proofs.Invariant.{whats, Invariant}

-- ---- finding in a list

module _ {A : Type 0} (P : A → Type 0) where
  pub find_all : (xs : List A) (i : ℕ) (x : A) → All P xs → get_elem? xs i ≡ some x → P x
  find_all [] i x h e = absurd (none_some e)
  find_all (y ∷ ys) zero x h e = subst P (some_inj e) h.0
  find_all (y ∷ ys) (suc i) x h e = find_all ys i x h.1 e

-- ---- the departures of a connection

module _ (c : ℕ) where
  pub whats_departures : (ds : List Departure) → of c (whats ds) ≡ whats (departures c ds)
  whats_departures [] = refl
  whats_departures (d ∷ ds) = go (eqb d.what.connection c) (whats_departures ds)
    where
      go : (t : Bool) → of c (whats ds) ≡ whats (departures c ds)
          → cond t (d.what ∷ of c (whats ds)) (of c (whats ds)) ≡ whats (cond t (d ∷ departures c ds) (departures c ds))
      go true e = ap (λ (l : List Packet). d.what ∷ l) e
      go false e = e

-- for each number, what was accepted is what has left and then what waits, in order
pub conserved_lists : (h : History) → Invariant h → (c : ℕ) → of c h.accepted ≡ whats (departures c h.departed) ++ of c (in_hub h.now)
conserved_lists h I c = I.steady.conserved c ∙ ap (λ (l : List Packet). l ++ of c (in_hub h.now)) (whats_departures c h.departed)

-- of a connection only held packets wait
pub held_waits : (h : History) (c : ℕ) → (c ≡ notice_number → ⊥) → of c (in_hub h.now) ≡ of c h.now.held
held_waits h c n =
    of_append c h.now.held (map notice_packet h.now.notices)
    ∙ ap (λ (l : List Packet). of c h.now.held ++ l) (of_notices c h.now.notices n)
    ∙ append-nil (of c h.now.held)

-- no packet is held until its time is over
pub held_in_time : (h : History) → Invariant h → (c : ℕ) → owned h.now.connections c ≡ true → All (λ q. q.connection ≡ c → h.now.clock < q.eligibility + bound_of h.now c) h.now.held
held_in_time h I c below = all_map (λ q k e. omega (arith, ap (bound_of h.now) e)) h.now.held I.steady.punctual

-- ---- one packet of a connection, through any calls (document 02, R-8)

-- the departures only grow
pub departures_append : (c : ℕ) (ds es : List Departure) → departures c (ds ++ es) ≡ departures c ds ++ departures c es
departures_append c [] es = refl
departures_append c (d ∷ ds) es = go (eqb d.what.connection c) (departures_append c ds es)
  where
    go : (t : Bool) → departures c (ds ++ es) ≡ departures c ds ++ departures c es
        → cond t (d ∷ departures c (ds ++ es)) (departures c (ds ++ es)) ≡ cond t (d ∷ departures c ds) (departures c ds) ++ departures c es
    go true e = ap (λ (l : List Departure). d ∷ l) e
    go false e = e

pub find_more : {A : Type 0} (xs ys : List A) (i : ℕ) (x : A) → get_elem? xs i ≡ some x → get_elem? (xs ++ ys) i ≡ some x
find_more [] ys i x e = absurd (none_some e)
find_more (y ∷ xs) ys zero x e = e
find_more (y ∷ xs) ys (suc i) x e = find_more xs ys i x e

pub find_place : {A : Type 0} (xs ys : List A) (i : ℕ) (x : A) → length xs ≤ i → get_elem? (xs ++ ys) i ≡ some x → (j : ℕ) × (get_elem? ys j ≡ some x)
find_place [] ys i x l e = (i, e)
find_place (y ∷ xs) ys zero x l e = absurd (omega arith)
find_place (y ∷ xs) ys (suc i) x l e = find_place xs ys i x (omega arith) e

module _ (c i : ℕ) (p : Packet) (level : c ≡ notice_number → ⊥) (d : ℕ) (early : Bool) where
  -- it has left in time, and not before its eligibility plus its length unless it might go early
  abbrev pub GoneInTime : History → Type 0
  GoneInTime h = (f : ℕ) × (get_elem? (departures c h.departed) i ≡ some (record { what = p; finish = f })) × (f ≤ p.eligibility + d) × (early ≡ false → p.eligibility + p.len ≤ f)

  -- or it is still held, by the owner that it was accepted from: its bound is d, and its packets may go early only if that is said
  pub record Waits (h : History) : Type 0 where
    pub later_on : length (departures c h.departed) ≤ i
    pub is_there : get_elem? (of c h.accepted) i ≡ some p
    pub still_bound : bound_of h.now c ≡ d
    pub still_early : early ≡ false → early_at h.now c ≡ false

  abbrev pub Either : History → Type 0
  Either h = GoneInTime h ⊎ Waits h

  module _ (h : History) (I : Invariant h) (W : Waits h) where
    in_queue : (j : ℕ) × (get_elem? (of c h.now.held) j ≡ some p)
    in_queue =
        find_place (whats (departures c h.departed)) (of c h.now.held) i p
        (omega (arith, W.later_on, length_map (λ (x : Departure). x.what) (departures c h.departed)))
        (subst (λ (l : List Packet). get_elem? l i ≡ some p)
        (conserved_lists h I c ∙ ap (λ (l : List Packet). whats (departures c h.departed) ++ l) (held_waits h c level)) W.is_there)

    -- so its connection holds a packet, and has an owner
    pub holds_one : length (of c h.now.held) < 1 → ⊥
    holds_one l = let k = in_queue in absurd (none_some (sym (ap (λ (ps : List Packet). get_elem? ps k.0) (nil_of (of c h.now.held) (omega arith))) ∙ k.1))

    pub its_owner : Orderly h.now → owned h.now.connections c ≡ true
    its_owner O =
        let q = find_all (λ q. (q.connection ≡ c) × Fits h.now.connections q) (of c h.now.held) in_queue.0 p
        (to_of c (Fits h.now.connections) h.now.held (all_map (λ q f _. f) h.now.held O.fit)) in_queue.1 in
        subst (λ (j : ℕ). owned h.now.connections j ≡ true) q.0 q.1.owner

    -- and its time is not over
    pub not_over : owned h.now.connections c ≡ true → h.now.clock < p.eligibility + d
    not_over o =
        omega (
          arith,
          (find_all (λ q. (q.connection ≡ c) × (h.now.clock < q.eligibility + bound_of h.now c)) (of c h.now.held) in_queue.0 p
              (to_of c (λ q. h.now.clock < q.eligibility + bound_of h.now c) h.now.held (held_in_time h I c o)) in_queue.1
              ).1,
          W.still_bound,
        )
