-- Ticks in which nothing starts and nothing departs: what the rules answer to each, and the state after it.
use Prim.Native.Nat.{ℕ, suc, min}
use native.Mathlib.Omega.{arith}
use mathlib.Core.Path.{◌≡◌, subst}
use mathlib.Core.Option.{none}
use Rattle.rules.specs.Service.{Wire as Line}
use Rattle.frames.specs.Model.{State, tick, Answer, wire, with_wire}
use Rattle.frames.specs.SoundState.{Sound}
use Rattle.frames.specs.SoundTest.{sound}
use Rattle.frames.specs.Calls.{answer}
use Rattle.frames.proofs.Names.{accepted}
use Rattle.frames.proofs.SoundExact.{exact}
use Rattle.frames.proofs.SoundKept.{kept}
use Rattle.frames.proofs.Quiet.{quiet_passes}
use Rattle.line.specs.Quiet.{quiet_line}
use Rattle.line.proofs.QuietLaws as L
use Rattle.line.proofs.QuietLaws.{Quiets}
use Rattle.framed_service.specs.Quiet.{passed, quiet_ticks}

-- a sound state with a link of which the line is still for k ticks, up to the clock's end
abbrev pub Quiet : State → ℕ → Type 0
Quiet s k = L.Quiet (Sound s) (Unit {0}) s.link.frame s.clock none (wire s) k

-- ---- one tick

module _ (s : State) (k : ℕ) (Q : Quiet s (suc k)) where
  -- the clock moves on, and nothing departs
  pub one_quiet_tick : answer tick s ≡ accepted 0 (passed s 1)
  one_quiet_tick = quiet_passes s Q.sound_state Q.with_link (omega (arith, Q.in_time)) (L.quiet_wire s.clock none (wire s) k Q.still)

  pub quiet_then : Quiet (passed s 1) k
  quiet_then = L.quiet_then s.link.frame s.clock none (wire s) k Q (subst (λ (a : Answer). Sound a.next) one_quiet_tick (kept tick s Q.sound_state)) tt

-- ---- many

abbrev put : State → ℕ → Line → State
put s t l = with_wire s t l

pub pass_none : (s : State) → passed s 0 ≡ s
pass_none s = L.pass_none (put s) s.clock (wire s)

pub pass_one_more : (s : State) (k : ℕ) → passed (passed s 1) k ≡ passed s (suc k)
pass_one_more s = L.pass_one_more (put s) s.clock (wire s)

-- ---- those that are passed over at once

pub quiets : (left : ℕ) (s : State) → (quiet_ticks left s ≡ 0 → ⊥) → Quiets (Quiet s) left (quiet_ticks left s)
unfolding quiet_ticks
quiets left s =
    let k = min (quiet_line s.clock none (wire s)) left in
    L.if_linked_quiets (sound s) s.link.frame k (Quiet s) left
    (λ ok n p. record { few = omega arith; quiet = L.quiet_by s.link.frame s.clock none (wire s) k ((exact s).0 ok) n tt p (omega arith) })
