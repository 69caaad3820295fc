-- How far the line is behind with the packets ahead of a key: the invariant of a busy stretch, and what it says of a packet that waits.
use Prim.Native.Nat.{ℕ, suc, ◌+◌, ◌-◌, ◌≤◌, ◌<◌}
use native.Mathlib.Omega.{arith}
use mathlib.Core.Path.{◌≡◌, refl, ap, ◌∙◌}
use mathlib.Core.Bool.{true, cond}
use mathlib.Core.Logic.{◌⊎◌, inl, inr}
use mathlib.Core.List.{List, [], ◌∷◌}
use mathlib.Core.Option.{Option, none, some}
use lib.Dec.{eqb}
use lib.ListN.{get_or}
use borrow.Author.Tests.{eq-eqb, ne_eqb}
use Rattle.rules.specs.Words.{upto}
use Rattle.rules.specs.Model.{Link, Connection, Past, no_past, Packet, State, nth}
use Rattle.rules.specs.Admission.{owned, bound, window, cost, load, load_by}
use Rattle.rules.specs.Service.{Spaced, eligibilities, first}
use Rattle.rules.proofs.Doings.{level_of}
use Rattle.rules.proofs.HubTick.{line_left}
use Rattle.rules.specs.SoundState.{Fits}
use Rattle.rules.proofs.LineWords.{InService, NoticeInService}
use Rattle.rules.proofs.Lists.{All, all_zip, all_sub, all_self, Sub, total, total_each}
use Rattle.rules.proofs.Sums.{split, same, cond_is, upto_yes, upto_no, upto_le}
use Rattle.rules.proofs.Rows.{total_without}
use Rattle.rules.proofs.Keys.{Ahead, keyed, keyed_yes, keyed_no, keyed_le, ahead_self}
use Rattle.rules.proofs.Memory.{memory}
use Rattle.rules.proofs.Figures.{ConnectionFacts, cost_pos}
use Rattle.rules.proofs.Line.{left_some}
use Rattle.rules.proofs.Window.{arrived, horizon, horizon_own, horizon_other, horizon_le, arrived_le}

-- ---- what is behind

-- the cost of p, if its key is ahead of (m, e) and it is eligible at t
abbrev pub due : Link → List Connection → ℕ → ℕ → ℕ → Packet → ℕ
due l cs m e t p = keyed m e (nth cs p.connection).level p.eligibility (upto p.eligibility t (cost l p.len))

-- the cost of all held packets ahead of (m, e) that are eligible at t, each counted whole
abbrev pub demand : State → ℕ → ℕ → ℕ → ℕ
demand s m e t = total (due s.link s.connections m e t) s.held

abbrev pub due_of : Link → List Connection → ℕ → ℕ → ℕ → Option Packet → ℕ
due_of l cs m e t none = 0
due_of l cs m e t (some p) = due l cs m e t p

-- the cost of the packet in service, if it is ahead of (m, e) and eligible at t: it stands on both sides of the balance, so that it does not matter whose it is.
-- One that was sent early counts from its eligibility on
abbrev pub served : State → ℕ → ℕ → ℕ → ℕ
served s m e t = upto 1 s.to_go (due_of s.link s.connections m e t (first s.serving s.held))

-- ---- what holds between calls

-- a notice in service: no longer than the largest packet, and no held packet's
pub record NoticeOnLine (s : State) : Type 0 where
  pub in_service : NoticeInService s
  pub short : in_service.it.len ≤ s.link.largest
  pub alone : first s.serving s.held ≡ none

-- nothing in service: no more silence is left than the link's
abbrev pub Free : State → Type 0
Free s = (s.to_go ≡ 0) × (s.silent ≤ s.link.silence)

-- a free line, or something in service
abbrev pub Line : State → Type 0
Line s = Free s ⊎ (InService s ⊎ NoticeOnLine s)

-- of the link and the connections
pub record Facts (l : Link) (cs : List Connection) : Type 0 where
  pub each : (c : ℕ) → owned cs c ≡ true → ConnectionFacts l (nth cs c)
  pub some_largest : 1 ≤ l.levels → l.silence < cost l l.largest
  pub some_bound : (m : ℕ) → 1 ≤ m → m ≤ l.levels → 0 < bound l m
  -- the sum within the window, and, from a bound to its window, the sums within β + 1 at the level itself and d + β at the more urgent ones
  pub tested : (m : ℕ) → 1 ≤ m → m ≤ l.levels → load l cs m (window l m) + cost l l.largest ≤ window l m
  pub finer : (m : ℕ) → 1 ≤ m → m ≤ l.levels → (β : ℕ) → bound l m + β < window l m
      → load_by l cs m (λ v. cond (eqb v m) (suc β) (bound l m + β)) + cost l l.largest ≤ bound l m + β

-- of the packets accepted so far, of which the held ones are a part in the same order
pub record RegularOf (cs : List Connection) (hs : List Past) (held acc : List Packet) : Type 0 where
  pub fit : All (Fits cs) acc
  pub spaced : (c : ℕ) → owned cs c ≡ true → Spaced (nth cs c) (eligibilities c acc)
  pub remembered : (c : ℕ) → owned cs c ≡ true → get_or hs c no_past ≡ memory (eligibilities c acc)
  pub part : Sub held acc

abbrev pub Regular : State → List Packet → Type 0
Regular s acc = RegularOf s.connections s.pasts s.held acc

pub fit_held : (s : State) (acc : List Packet) → Regular s acc → All (Fits s.connections) s.held
fit_held s acc R = all_sub (Fits s.connections) R.part R.fit

-- the line has been busy with what is ahead of (m, e) since `from` at least, seen at the horizon t: what is due, and what the line still owes to the packet in
-- service, is at most what came, less the ticks since. With e at t or later this is level m and all above it; with the eligibility of a packet of level m it is
-- what goes before that packet, and the packet itself
pub record Busy (s : State) (acc : List Packet) (m e t : ℕ) : Type 0 where
  pub from : ℕ
  pub started : from ≤ s.clock
  pub since : All (λ p. Ahead m e (level_of s p.connection) p.eligibility → p.eligibility ≤ t → from ≤ p.eligibility) s.held
  pub work : demand s m e t + line_left s + (s.clock + 1)
      ≤ cost s.link s.link.largest + from + arrived s.link s.connections m e from t acc + served s m e t
  pub in_time : s.clock + 1 ≤ from + window s.link m

-- ---- laws of `due`

module _ (l : Link) (cs : List Connection) (m e t : ℕ) (p : Packet) where
  due_yes : p.eligibility ≤ t → due l cs m e t p ≡ keyed m e (nth cs p.connection).level p.eligibility (cost l p.len)
  due_yes h = ap (λ (x : ℕ). keyed m e (nth cs p.connection).level p.eligibility x) (upto_yes p.eligibility t (cost l p.len) h)

  pub due_full : Ahead m e (nth cs p.connection).level p.eligibility → p.eligibility ≤ t → due l cs m e t p ≡ cost l p.len
  due_full a h = due_yes h ∙ keyed_yes m e (nth cs p.connection).level p.eligibility (cost l p.len) a

  -- where nothing is due, no eligible packet is ahead
  pub due_none : Fits cs p → due l cs m e t p ≡ 0 → Ahead m e (nth cs p.connection).level p.eligibility → p.eligibility ≤ t → ⊥
  due_none f z a h = omega (arith, cost_pos l p.len f.some_len, due_full a h)

  pub due_off : (p.eligibility ≤ t → Ahead m e (nth cs p.connection).level p.eligibility → ⊥) → due l cs m e t p ≡ 0
  due_off f = go (split p.eligibility t)
    where
      go : (p.eligibility ≤ t) ⊎ (t < p.eligibility) → due l cs m e t p ≡ 0
      go (inl h) = keyed_no m e (nth cs p.connection).level p.eligibility (upto p.eligibility t (cost l p.len)) (f h)
      go (inr h) =
          omega (
            arith,
            keyed_le m e (nth cs p.connection).level p.eligibility (upto p.eligibility t (cost l p.len)),
            upto_no p.eligibility t (cost l p.len) h,
          )

-- ---- the packet in service

module _ (s : State) (m e t : ℕ) where
  pub served_idle : s.to_go ≡ 0 → served s m e t ≡ 0
  served_idle z = upto_no 1 s.to_go (due_of s.link s.connections m e t (first s.serving s.held)) (omega arith)

  -- the packet in service counts in the demand
  pub served_at : (p : Packet) → 1 ≤ s.to_go → first s.serving s.held ≡ some p → served s m e t ≡ due s.link s.connections m e t p
  served_at p l i =
      upto_yes 1 s.to_go (due_of s.link s.connections m e t (first s.serving s.held)) l
      ∙ ap (due_of s.link s.connections m e t) i

  pub served_is : (r : InService s) → served s m e t ≡ due s.link s.connections m e t r.it
  served_is r = served_at r.it r.some_to_go r.is_first

  -- a notice does not
  pub served_notice : first s.serving s.held ≡ none → served s m e t ≡ 0
  served_notice i =
      omega (
        arith,
        upto_le 1 s.to_go (due_of s.link s.connections m e t (first s.serving s.held)),
        ap (due_of s.link s.connections m e t) i,
      )

  -- while something is due, at least one tick of work is left besides what is served
  owed : Line s → 0 < demand s m e t → served s m e t + 1 ≤ demand s m e t + line_left s
  owed (inl z) h = omega (arith, served_idle z.0)
  owed (inr (inr n)) h = omega (arith, served_notice n.alone)
  owed (inr (inl r)) h =
      omega (
        arith,
        served_is r,
        total_without s.serving (due s.link s.connections m e t) s.held r.it r.is_first,
        left_some s r.some_to_go,
      )

-- ---- time to spare

module _ (s : State) (acc : List Packet) (m e : ℕ) (low : 1 ≤ m) (high : m ≤ s.link.levels) (F : Facts s.link s.connections) (R : Regular s acc) where
  -- no more has come since then than a condition of level m counts
  came_le : (B : Busy s acc m e s.clock) (w : ℕ → ℕ) → ((v : ℕ) → horizon m e s.clock v < B.from + w v)
      → arrived s.link s.connections m e B.from s.clock acc ≤ load_by s.link s.connections m w
  came_le B w h = arrived_le s.link s.connections m e B.from s.clock w acc h (λ c i. (F.each c i).some_gap) R.fit R.spaced

  -- while something is due, there is a tick to spare in the window
  pub spare : Line s → (B : Busy s acc m e s.clock) → 0 < demand s m e s.clock → s.clock + 2 ≤ B.from + window s.link m
  spare l B h =
      omega (
        arith,
        B.work,
        B.in_time,
        owed s m e s.clock l h,
        F.tested m low high,
        came_le B (λ _. window s.link m) (λ v. omega (arith, horizon_le m e s.clock v, B.in_time)),
      )

-- a held packet that is eligible and not late now is not late in the next tick either: were it so, then with its own key, β ticks after `from`, and d + β ticks
-- gone, more would have come than the condition of β allows
module _ (s : State) (acc : List Packet) (F : Facts s.link s.connections) (R : Regular s acc) (l : Line s) where
  within_sight : (m x from β : ℕ) → x ≡ from + β → s.clock < from + (bound s.link m + β) → (v : ℕ)
      → horizon m x s.clock v < from + cond (eqb v m) (suc β) (bound s.link m + β)
  within_sight m x from β is h v = go (same v m)
    where
      go : (v ≡ m) ⊎ (v ≡ m → ⊥) → horizon m x s.clock v < from + cond (eqb v m) (suc β) (bound s.link m + β)
      go (inl i) = omega (arith, horizon_own m x s.clock v i, cond_is (suc β) (bound s.link m + β) (eq-eqb v m i))
      go (inr i) = omega (arith, horizon_other m x s.clock v i, cond_is (suc β) (bound s.link m + β) (ne_eqb v m i))

  not_late : (m x β : ℕ) → 1 ≤ m → m ≤ s.link.levels → (B : Busy s acc m x s.clock) → 0 < demand s m x s.clock
      → x ≡ B.from + β → s.clock + 1 ≡ x + bound s.link m → ⊥
  not_late m x β low high B h is now =
      let room : s.clock + 2 ≤ B.from + window s.link m = spare s acc m x low high F R l B h in
      let fine = F.finer m low high β (omega arith) in
      let came = came_le s acc m x low high F R B (λ v. cond (eqb v m) (suc β) (bound s.link m + β)) (within_sight m x B.from β is (omega arith)) in
      omega (arith, B.work, owed s m x s.clock l h)

  abbrev own_level : Packet → ℕ
  own_level p = level_of s p.connection

  abbrev own_bound : Packet → ℕ
  own_bound p = bound s.link (own_level p)

  module _ (busy : (m e : ℕ) → 1 ≤ m → m ≤ s.link.levels → Busy s acc m e s.clock) where
    facts_for : (p : Packet) → Fits s.connections p → ConnectionFacts s.link (nth s.connections p.connection)
    facts_for p f = F.each p.connection f.owner

    -- the busy stretch of p's own key
    own_busy : (p : Packet) → Fits s.connections p → Busy s acc (own_level p) p.eligibility s.clock
    own_busy p f = busy (own_level p) p.eligibility (facts_for p f).low_level (facts_for p f).high_level

    -- it says of q
    abbrev Says : Packet → Packet → Type 0
    Says p q =
        (f : Fits s.connections p)
        → (Ahead (own_level p) p.eligibility (own_level q) q.eligibility → q.eligibility ≤ s.clock → (own_busy p f).from ≤ q.eligibility)
        × (due s.link s.connections (own_level p) p.eligibility s.clock q ≤ demand s (own_level p) p.eligibility s.clock)

    says_all : (p : Packet) → All (Says p) s.held
    says_all p =
        with_fits s.held
        (λ f. (own_busy p f).since)
        (total_each (due s.link s.connections (own_level p) p.eligibility s.clock) s.held)
      where
        with_fits : (qs : List Packet)
            → ((f : Fits s.connections p) → All (λ q. Ahead (own_level p) p.eligibility (own_level q) q.eligibility → q.eligibility ≤ s.clock → (own_busy p f).from ≤ q.eligibility) qs)
            → All (λ q. due s.link s.connections (own_level p) p.eligibility s.clock q ≤ demand s (own_level p) p.eligibility s.clock) qs
            → All (Says p) qs
        with_fits [] g h = tt
        with_fits (q ∷ qs) g h = (λ f. ((g f).0, h.0), with_fits qs (λ f. (g f).1) h.1)

    one : (p : Packet) → Says p p → Fits s.connections p → s.clock + 1 ≤ p.eligibility + own_bound p → s.clock + 2 ≤ p.eligibility + own_bound p
    one p says f late = go (split p.eligibility s.clock) (split (s.clock + 2) (p.eligibility + own_bound p))
      where
        C : ConnectionFacts s.link (nth s.connections p.connection)
        C = facts_for p f

        self : Ahead (own_level p) p.eligibility (own_level p) p.eligibility
        self = ahead_self (own_level p) p.eligibility (own_level p) refl

        go : (p.eligibility ≤ s.clock) ⊎ (s.clock < p.eligibility)
            → (s.clock + 2 ≤ p.eligibility + own_bound p) ⊎ (p.eligibility + own_bound p < s.clock + 2)
            → s.clock + 2 ≤ p.eligibility + own_bound p
        go i (inl j) = j
        go (inr i) (inr j) = absurd (omega (arith, F.some_bound (own_level p) C.low_level C.high_level))
        go (inl i) (inr j) =
            absurd
            (not_late (own_level p) p.eligibility (p.eligibility - (own_busy p f).from) C.low_level C.high_level (own_busy p f)
            (omega (arith, (says f).1, cost_pos s.link p.len f.some_len, due_full s.link s.connections (own_level p) p.eligibility s.clock p self i))
            (omega (arith, (says f).0 self i)) (omega arith))

    -- so every held packet still has time
    pub held_spare : All (λ p. s.clock + 1 ≤ p.eligibility + own_bound p) s.held → All (λ p. s.clock + 2 ≤ p.eligibility + own_bound p) s.held
    held_spare punctual =
        all_zip (λ p f late. f late) s.held (all_zip one s.held (all_self Says s.held says_all) (fit_held s acc R)) punctual
