-- Ticks in which nothing starts and nothing departs, by the line alone: how many they are in each case that the code tells apart, and what holds for so long.
use Prim.Native.Nat.{ℕ, zero, suc, ◌+◌, ◌-◌, ◌≤◌, ◌<◌}
use native.Mathlib.Omega.{arith}
use mathlib.Core.Path.{◌≡◌, refl, sym, ap, ◌∙◌}
use mathlib.Core.Bool.{Bool, true, false, not, cond, ◌&&◌}
use mathlib.Core.List.{List, [], ◌∷◌, map}
use mathlib.Core.Logic.{◌⊎◌, inl, inr}
use mathlib.Core.Option.{Option, none, some}
use lib.Dec.{eqb}
use lib.ListN.{length}
use borrow.Author.Tests.{eqb-true, eqb-false, eq-eqb, ne_eqb, not-true}
use Rattle.rules.specs.declared.Packet.{Packet}
use Rattle.rules.specs.declared.Notice.{Notice}
use Rattle.rules.specs.Words.{All}
use Rattle.rules.specs.Limits.{clock_end}
use Rattle.rules.specs.Service.{Wire as Line, QuietWire, passed_wire}
use Rattle.rules.proofs.Sums.{cond_is, cond_ind}
use Rattle.rules.proofs.Tests.{never, and_true}
use Rattle.rules.proofs.Lists.{all_map}
use Rattle.rules.proofs.Rows.{nil_of}
use Rattle.tables.specs.Places.{rows}
use Rattle.tables.specs.Notices.{notice_of, notices_in}
use Rattle.line.specs.declared.Wire.{Wire}
use Rattle.line.specs.Wires.{idle}
use Rattle.line.specs.Quiet.{eligible_from, quiet_for, quiet_line, if_linked, awaits, taken_for}

-- ---- in each case that the code tells apart: with the line w as v, and whether it waits for a packet as b

module _ (w : Wire) (t q : List ℕ) (o : Option Packet) (clock : ℕ) where
  abbrev For : ℕ → Type 0
  For k = k ≡ quiet_for w.to_go w.silent (rows t) (notices_in q) o clock

  taken : awaits w q ≡ false → For (taken_for w)
  taken n = go w.to_go w.silent (rows q) n
    where
      go : (u d : ℕ) (ps : List Packet) → ((eqb u 0 && eqb d 0) && eqb (length ps) 0) ≡ false
          → cond (eqb u 0) d (u - 1) ≡ quiet_for u d (rows t) (map notice_of ps) o clock
      go zero zero [] n = never (sym n)
      go zero zero (p ∷ ps) n = refl
      go zero (suc d) ps n = refl
      go (suc u) d ps n = let k : suc u - 1 ≡ u = omega arith in cond_is d (suc u - 1) (ne_eqb (suc u) 0 (λ z. omega arith)) ∙ k

  module _ (v : Wire) (e : v ≡ w) (b : Bool) (f : b ≡ awaits v q) where
    tells : b ≡ awaits w q
    tells = f ∙ ap (λ (x : Wire). awaits x q) e

    -- something is in service, a silence runs, or a notice waits
    pub goes_on : b ≡ false → (k : ℕ) → k ≡ taken_for v → For k
    goes_on n k i = i ∙ ap taken_for e ∙ taken (sym tells ∙ n)

    -- else it hangs on the packets alone
    pub awaited : b ≡ true → (k : ℕ) → k ≡ quiet_for 0 0 (rows t) [] o clock → For k
    awaited y k i =
        let a = and_true (idle w) (eqb (length (rows q)) 0) (sym tells ∙ y) in
        let c = and_true (eqb w.to_go 0) (eqb w.silent 0) a.0 in
        let u : w.to_go ≡ 0 = eqb-true w.to_go 0 c.0 in
        let d : w.silent ≡ 0 = eqb-true w.silent 0 c.1 in
        let n : notices_in q ≡ [] = ap (map notice_of) (nil_of (rows q) (eqb-true (length (rows q)) 0 a.1)) in
        rw (u, d, n) i

-- ---- for so long

pub eligible_from_le : (ps : List Packet) → eligible_from ps ≤ clock_end
eligible_from_le [] = omega arith
eligible_from_le (p ∷ ps) = omega (arith, eligible_from_le ps)

-- none of some packets is eligible before the tick t
abbrev pub NoneBefore : ℕ → List Packet → Type 0
NoneBefore t ps = All (λ p. t ≤ p.eligibility) ps

-- for k ticks from the tick t on, where o stands by: the line is idle, no packet is eligible, no notice waits and no packet stands by, or the line is silent, or
-- something is in service and keeps a unit to go
abbrev pub Still : ℕ → Option Packet → Line → ℕ → Type 0
Still t o l k = ((l.to_go ≡ 0) × (l.silent ≡ 0) × NoneBefore (t + k) l.held × (l.notices ≡ []) × (o ≡ none)) ⊎ (((l.to_go ≡ 0) × (k ≤ l.silent)) ⊎ (k < l.to_go))

-- the first eligibility is no later than any
all_later : (t : ℕ) (ps : List Packet) → t ≤ eligible_from ps → NoneBefore t ps
all_later t [] h = tt
all_later t (p ∷ ps) h = (omega arith, all_later t ps (omega arith))

module _ (t : ℕ) (o : Option Packet) (l : Line) (k : ℕ) where
  pub still_for : 0 < k → k ≤ quiet_for l.to_go l.silent l.held l.notices o t → Still t o l k
  still_for p h = go l.to_go refl l.silent refl l.notices refl o refl h
    where
      go : (u : ℕ) → l.to_go ≡ u → (d : ℕ) → l.silent ≡ d → (ns : List Notice) → l.notices ≡ ns → (b : Option Packet) → o ≡ b
          → k ≤ quiet_for u d l.held ns b t → Still t o l k
      go zero e zero f [] i none j h = inl (e, f, all_later (t + k) l.held (omega arith), i, j)
      go zero e zero f [] i (some r) j h = absurd (omega arith)
      go zero e zero f (n ∷ ns) i b j h = absurd (omega arith)
      go zero e (suc d) f ns i b j h = inr (inl (e, omega arith))
      go (suc u) e d f ns i b j h = inr (inr (omega arith))

  -- a tick later
  pub still_then : Still t o l (suc k) → Still (t + 1) o (passed_wire l 1) k
  still_then (inl (z, y, h, n, b)) = inl (omega arith, omega arith, all_map (λ p a. omega arith) l.held h, n, b)
  still_then (inr (inl (z, h))) = inr (inl (omega arith, omega arith))
  still_then (inr (inr h)) = inr (inr (omega arith))

  -- the first of them is a quiet tick of the rules
  pub quiet_wire : Still t o l (suc k) → QuietWire t o l
  quiet_wire (inl (z, y, h, n, b)) = inr (inr (z, y, n, all_map (λ p a. omega arith) l.held h, b))
  quiet_wire (inr (inl (z, h))) = inr (inl (z, omega arith))
  quiet_wire (inr (inr h)) = inl (omega arith)

-- ---- a state of either discipline: `Sound` says that it is sound, `set` is the number of its link that is 0 without one, `Rests` what else holds for k ticks

-- with the clock t, the line l and o standing by: for k ticks nothing happens, up to the clock's end
pub record Quiet (Sound Rests : Type 0) (set t : ℕ) (o : Option Packet) (l : Line) (k : ℕ) : Type 0 where
  pub sound_state : Sound
  pub with_link : set ≡ 0 → ⊥
  pub in_time : t + k ≤ clock_end
  pub still : Still t o l k
  pub rests : Rests

module _ {Sound Rests : Type 0} (set t : ℕ) (o : Option Packet) (l : Line) (k : ℕ) where
  pub quiet_by : Sound → (set ≡ 0 → ⊥) → Rests → 0 < k → k ≤ quiet_line t o l → Quiet Sound Rests set t o l k
  quiet_by s n r p h = record { sound_state = s; with_link = n; in_time = omega arith; still = still_for t o l k p (omega arith); rests = r }

  -- a tick later
  pub quiet_then : {Sound-now Rests-now : Type 0} → Quiet Sound-now Rests-now set t o l (suc k) → Sound → Rests → Quiet Sound Rests set (t + 1) o (passed_wire l 1) k
  quiet_then q s r = record { sound_state = s; with_link = q.with_link; in_time = omega (arith, q.in_time); still = still_then t o l k q.still; rests = r }

-- what a discipline makes of a clock and a line: after no tick, and after one more
module _ {S : Type 0} (put : ℕ → Line → S) (t : ℕ) (l : Line) where
  pub pass_none : put (t + 0) (passed_wire l 0) ≡ put t l
  pass_none =
      let e : t + 0 ≡ t = omega arith in
      let f : l.to_go - 0 ≡ l.to_go = omega arith in
      let g : l.silent - 0 ≡ l.silent = omega arith in
      rw (e, f, g)

  pub pass_one_more : (k : ℕ) → put (t + 1 + k) (passed_wire (passed_wire l 1) k) ≡ put (t + suc k) (passed_wire l (suc k))
  pass_one_more k =
      let e : t + 1 + k ≡ t + suc k = omega arith in
      let f : l.to_go - 1 - k ≡ l.to_go - suc k = omega arith in
      let g : l.silent - 1 - k ≡ l.silent - suc k = omega arith in
      rw (e, f, g)

-- ---- those that are passed over at once

-- they are no more than are left, and nothing happens in them: `Q k` says that k ticks are quiet
pub record Quiets (Q : ℕ → Type 0) (left k : ℕ) : Type 0 where
  pub few : k ≤ left
  pub quiet : Q k

-- none where the state is not sound or has no link
module _ (b : Bool) (set k : ℕ) where
  pub if_linked_quiets : (Q : ℕ → Type 0) (left : ℕ) → (b ≡ true → (set ≡ 0 → ⊥) → 0 < k → Quiets Q left k) → (if_linked b set k ≡ 0 → ⊥) → Quiets Q left (if_linked b set k)
  if_linked_quiets Q left f =
      cond_ind (λ m. (m ≡ 0 → ⊥) → Quiets Q left m) (b && not (eqb set 0))
      (λ e z. let a = and_true b (not (eqb set 0)) e in f a.0 (eqb-false set 0 (not-true _ a.1)) (omega (arith, z)))
      (λ _ z. absurd (z refl))

  module _ (ok : b ≡ true) where
    pub without_link : set ≡ 0 → 0 ≡ if_linked b set k
    without_link z = rw (ok, eq-eqb set 0 z)

    pub with_link : (set ≡ 0 → ⊥) → k ≡ if_linked b set k
    with_link n = rw (ok, ne_eqb set 0 n)
