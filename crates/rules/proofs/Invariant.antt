-- THE INVARIANT of every history from fresh: what it says. That each call keeps it is proved in KeptByTick, KeptByAdmit, KeptByOffer and Every.
use Prim.Native.Nat.{ℕ, suc, ◌+◌, ◌≤◌, ◌<◌, min}
use native.Mathlib.Omega.{arith}
use mathlib.Core.Path.{◌≡◌, refl, sym, ap, ◌∙◌, subst}
use mathlib.Core.Bool.{Bool, true, false, cond}
use mathlib.Core.Logic.{inl, inr, ⊎_elim}
use mathlib.Core.List.{List, ◌++◌, map}
use lib.Dec.{eqb}
use lib.ListN.{length, length-replicate}
use Rattle.rules.specs.Limits.{max_connections, clock_end}
use Rattle.rules.specs.Model.{Link, Connection, no_connection, Packet, State, fresh}
use Rattle.rules.specs.Admission.{windowed, bound, window, cost, load_by, LevelHolds}
use Rattle.rules.specs.Service.{of}
use Rattle.rules.proofs.HubTick.{line_left}
use Rattle.rules.specs.SoundState.{Fits, SoundWithLink, Sound}
use Rattle.rules.specs.Runs.{Departure, History, in_hub, bound_of}
use Rattle.rules.proofs.Lists.{All}
use Rattle.rules.proofs.Sums.{same}
use Rattle.rules.proofs.Rows.{first_all}
use Rattle.rules.proofs.Tests.{never}
use Rattle.rules.proofs.SoundKept.{fresh_free}
use Rattle.rules.proofs.Figures.{window_none, conditions_own, some_condition, link_facts, silence_below, cost_mono, sum_is}
use Rattle.rules.proofs.SoundTick.{facts}
use Rattle.rules.proofs.Line.{left_silent, left_below, left_below_notice}
use Rattle.rules.proofs.Busy.{Free, Line, Facts, Regular, fit_held, Busy}

abbrev pub whats : List Departure → List Packet
whats ds = map (λ d. d.what) ds

-- what a history from fresh keeps, apart from the clause that `swept` sees to: all accepted packets, the departures, and the accepted packets of the present owners
pub record Steady (all : List Packet) (gone : List Departure) (acc : List Packet) (s : State) : Type 0 where
  -- the accepted packets of the present owners are spaced, what is remembered follows from them, and the held ones are a part of them
  pub regular : Regular s acc
  -- what is on the line
  pub line : Line s
  -- the line is no further behind, with the packets ahead of any key, than the level test of its level allows
  pub busy : (m e : ℕ) → 1 ≤ m → m ≤ s.link.levels → Busy s acc m e s.clock
  -- no packet is held beyond its time
  pub punctual : All (λ p. s.clock + 1 ≤ p.eligibility + bound_of s p.connection) s.held
  -- for each number accepted = departed followed by what waits
  pub conserved : (c : ℕ) → of c all ≡ of c (whats gone) ++ of c (in_hub s)

pub record Invariant (h : History) : Type 0 where
  -- the state is sound
  pub sound : Sound h.now
  pub steady : Steady h.accepted h.departed h.present h.now

-- ---- what a sound state says of link and connections

-- for β below w - d the more urgent levels are seen within d + β, which is less than w; a link without windows has no such β
sights : (l : Link) (cs : List Connection) (m β : ℕ) → bound l m + β < window l m → LevelHolds l cs m
    → load_by l cs m (λ v. cond (eqb v m) (suc β) (bound l m + β)) + cost l l.largest ≤ bound l m + β
sights l cs m β h H = go (windowed l) refl
  where
    go : (b : Bool) → windowed l ≡ b → load_by l cs m (λ v. cond (eqb v m) (suc β) (bound l m + β)) + cost l l.largest ≤ bound l m + β
    go false e = absurd (omega (arith, window_none l e m))
    go true e =
        let least : min (bound l m + β) (window l m) ≡ bound l m + β = omega arith in
        subst (λ (n : ℕ). load_by l cs m (λ v. cond (eqb v m) (suc β) n) + cost l l.largest ≤ bound l m + β) least
        (omega (arith, H (suc β) (omega (arith, conditions_own l e m)), sum_is l cs m (suc β)))

linked_facts : (s : State) → SoundWithLink s → Facts s.link s.connections
linked_facts s S = record {
  each = facts s S.orderly;
  some_largest = λ n. silence_below s.link s.link.largest (link_facts s.link S.orderly.link_in).some_largest;
  some_bound = λ m low high.
      let L = link_facts s.link S.orderly.link_in in
      omega (arith, L.largest_le m low high, silence_below s.link s.link.largest L.some_largest);
  tested = λ m low high. omega (arith, S.orderly.tested m low high 0 (some_condition s.link m), sum_is s.link s.connections m 0);
  finer = λ m low high β h. sights s.link s.connections m β h (S.orderly.tested m low high);
}

fresh_facts : Facts fresh.link fresh.connections
fresh_facts = record {
  each = λ c o. never (sym (fresh_free c) ∙ o);
  some_largest = λ n. absurd (omega arith);
  some_bound = λ m low high. absurd (omega arith);
  tested = λ m low high. absurd (omega arith);
  finer = λ m low high. absurd (omega arith);
}

pub facts_of : (s : State) → Sound s → Facts s.link s.connections
facts_of s S =
    ⊎_elim
    (λ z. subst (λ (r : State). Facts r.link r.connections) (sym (S.with_no_link z)) fresh_facts)
    (λ n. linked_facts s (S.with_one n))
    (same s.link.levels 0)

pub clock_le_end : (s : State) → Sound s → s.clock ≤ clock_end
clock_le_end s S =
    ⊎_elim (λ z. omega (arith, ap (λ (r : State). r.clock) (S.with_no_link z))) (λ n. (S.with_one n).orderly.clock_le) (same s.link.levels 0)

pub connections_few : (s : State) → Sound s → length s.connections ≤ max_connections
connections_few s S =
    ⊎_elim (λ z. omega (arith, ap (λ (r : State). length r.connections) (S.with_no_link z), length-replicate max_connections no_connection)) (λ n. omega (arith, (S.with_one n).orderly.numbers)) (same s.link.levels 0)

-- every bound leaves room for the largest packet, and so does every window
pub some_bound : (s : State) → Sound s → (m : ℕ) → 1 ≤ m → m ≤ s.link.levels → 0 < bound s.link m
some_bound s S m low high = (facts_of s S).some_bound m low high

pub some_window : (s : State) → Sound s → (m : ℕ) → 1 ≤ m → m ≤ s.link.levels → 0 < window s.link m
some_window s S m low high =
    let F = facts_of s S in
    omega (arith, F.tested m low high, F.some_largest (omega arith))

-- a silence is shorter than the largest packet takes
pub free_below_largest : (s : State) → Facts s.link s.connections → Free s → 1 ≤ s.link.levels → line_left s < cost s.link s.link.largest
free_below_largest s F z n = omega (arith, left_silent s z.0, z.1, F.some_largest n)

-- no more is on the line than the largest packet takes
pub left_le_largest : (s : State) (acc : List Packet) → Facts s.link s.connections → Regular s acc → Line s → 1 ≤ s.link.levels → line_left s ≤ cost s.link s.link.largest
left_le_largest s acc F R (inl z) n = omega (arith, free_below_largest s F z n)
left_le_largest s acc F R (inr (inr r)) n = omega (arith, left_below_notice s r.in_service, cost_mono s.link r.short)
left_le_largest s acc F R (inr (inl r)) n =
    let f : Fits s.connections r.it = first_all s.serving (Fits s.connections) s.held r.it r.is_first (fit_held s acc R) in
    omega (
      arith,
      left_below s r,
      cost_mono s.link f.len_le,
      cost_mono s.link (F.each r.it.connection f.owner).size_le,
    )
