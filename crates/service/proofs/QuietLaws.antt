-- Ticks in which nothing starts and nothing departs: what the rules answer to each, and the state after it.
use Prim.Native.Nat.{ℕ, zero, suc, ◌+◌, ◌≤◌, ◌<◌, min}
use native.Mathlib.Omega.{arith}
use mathlib.Core.Path.{◌≡◌, sym, subst}
use mathlib.Core.Bool.{Bool, true, false}
use mathlib.Core.List.{List, [], ◌∷◌}
use mathlib.Core.Option.{none}
use lib.ListN.{length, get_or}
use borrow.Author.Tests.{lt-leb}
use Rattle.rules.specs.Model.{Past, State, tick, Answer, past, closed_at, with_clock, with_line}
use Rattle.rules.specs.Admission.{charge_time}
use Rattle.rules.specs.SoundState.{SoundWithLink, Sound}
use Rattle.rules.specs.SoundTest.{sound}
use Rattle.rules.specs.Service.{stand_by, Wire as Line, wire, charge_over}
use Rattle.rules.proofs.HubTick.{tick_answer}
use Rattle.rules.specs.Calls.{answer}
use Rattle.rules.proofs.Quiet.{NobodyFreed}
use Rattle.rules.proofs.Tests.{never}
use Rattle.rules.proofs.Standing.{unexpired_charged}
use Rattle.rules.proofs.SoundExact.{exact}
use Rattle.rules.proofs.SoundKept.{kept}
use Rattle.rules.proofs.Quiet.{quiet_passes}
use Rattle.connections.specs.Members.{first_closed}
use Rattle.connections.specs.Rows.{last_of}
use Rattle.connections.proofs.ClosingLaws.{first_before}
use Rattle.line.specs.Quiet.{quiet_line}
use Rattle.line.proofs.QuietLaws as L
use Rattle.line.proofs.QuietLaws.{Quiets}
use Rattle.service.specs.Quiet.{passed, charged_for, quiet_ticks}

-- for k ticks no charge ends: each that is closed has sent, and its time lies behind them
abbrev Charged : State → ℕ → Type 0
Charged s k = (c : ℕ) → closed_at s c ≡ true → (1 ≤ length (past s c)) × (s.clock + k < last_of (past s c) + charge_time s.link)

-- a sound hub with a link of which that holds, and of which the line is still for k ticks, up to the clock's end
abbrev pub Quiet : State → ℕ → Type 0
Quiet s k = L.Quiet (Sound s) (Charged s k) s.link.levels s.clock (stand_by s) (wire s) k

-- ---- one tick

-- the clock moves on, and nothing departs
abbrev quiet_answer : State → Answer
quiet_answer s = tick_answer none (passed s 1)

module _ (s : State) (k : ℕ) (Q : Quiet s (suc k)) where
  nobody_freed : NobodyFreed s
  nobody_freed c _ e = let q = Q.rests c e in charge_left (past s c) q.0 q.1
    where
      charge_left : (h : Past) → 1 ≤ length h → s.clock + suc k < last_of h + charge_time s.link → charge_over (charge_time s.link) (s.clock + 1) h ≡ false
      charge_left [] l i = absurd (omega arith)
      charge_left (x ∷ h) l i = lt-leb (x + charge_time s.link) (s.clock + 1) (omega arith)

  pub one_quiet_tick : answer tick s ≡ quiet_answer s
  one_quiet_tick = quiet_passes s Q.sound_state Q.with_link (omega (arith, Q.in_time)) (L.quiet_wire s.clock (stand_by s) (wire s) k Q.still) nobody_freed

  pub quiet_then : Quiet (passed s 1) k
  quiet_then =
      L.quiet_then s.link.levels s.clock (stand_by s) (wire s) k Q (subst (λ (a : Answer). Sound a.next) one_quiet_tick (kept tick s Q.sound_state))
      (λ c e. let q = Q.rests c e in (q.0, omega (arith, q.1)))

-- ---- many

abbrev put : State → ℕ → Line → State
put s t l = with_line (with_clock s t) l.serving l.to_go l.silent

pub pass_none : (s : State) → passed s 0 ≡ s
pass_none s = L.pass_none (put s) s.clock (wire s)

pub pass_one_more : (s : State) (k : ℕ) → passed (passed s 1) k ≡ passed s (suc k)
pass_one_more s = L.pass_one_more (put s) s.clock (wire s)

-- ---- those that are passed over at once

-- no charge ends in them
charged_still : (s : State) (k : ℕ) → SoundWithLink s → 0 < k → k ≤ charged_for (first_closed s.pasts s.closed) (charge_time s.link) s.clock → Charged s k
charged_still s k S p h c e =
    let l : c < length s.closed = marked_below s.closed c e in
    let f = first_before s.pasts s.closed c (omega (arith, S.orderly.one_past_each, S.orderly.one_mark_each)) e in
    (has_sent (past s c) (unexpired_charged s c (S.charged c (omega (arith, S.orderly.one_mark_each))) e), go (first_closed s.pasts s.closed) h f.0 f.1)
  where
    marked_below : (bs : List Bool) (i : ℕ) → get_or bs i false ≡ true → i < length bs
    marked_below [] i x = never x
    marked_below (b ∷ bs) zero x = omega arith
    marked_below (b ∷ bs) (suc i) x = omega (arith, marked_below bs i x)

    has_sent : (q : Past) → charge_over (charge_time s.link) s.clock q ≡ false → 1 ≤ length q
    has_sent [] x = never (sym x)
    has_sent (a ∷ q) x = omega arith

    go : (f : ℕ) → k ≤ charged_for f (charge_time s.link) s.clock → 0 < f → f ≤ suc (last_of (past s c)) → s.clock + k < last_of (past s c) + charge_time s.link
    go zero a b d = absurd (omega arith)
    go (suc f) a b d = omega arith

pub quiets : (left : ℕ) (s : State) → (quiet_ticks left s ≡ 0 → ⊥) → Quiets (Quiet s) left (quiet_ticks left s)
unfolding quiet_ticks
quiets left s =
    let charge = charged_for (first_closed s.pasts s.closed) (charge_time s.link) s.clock in
    let k = min (min (quiet_line s.clock (stand_by s) (wire s)) charge) left in
    L.if_linked_quiets (sound s) s.link.levels k (Quiet s) left
    (λ ok n p. record {
      few = omega arith;
      quiet =
          L.quiet_by s.link.levels s.clock (stand_by s) (wire s) k ((exact s).0 ok) n (charged_still s k (((exact s).0 ok).with_one n) p (omega arith)) p (omega arith);
    })
