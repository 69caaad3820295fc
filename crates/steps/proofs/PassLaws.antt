-- Passing over quiet ticks writes what running them one by one writes, and ends where that ends.
use Prim.Native.Nat.{ℕ, zero, suc, ◌+◌, ◌-◌}
use native.Mathlib.Omega.{arith}
use mathlib.Core.Path.{◌≡◌, ap, ◌∙◌, subst}
use Rattle.either_line.specs.Line.{Line, Reply, SoundLine}
use Rattle.both.specs.Quiet.{passed, quiet_ticks}
use Rattle.both.proofs.QuietLaws.{Quiet, one_quiet_tick, quiet_then, pass_none, pass_one_more, quiets}
use Rattle.answer_log.proofs.LogLaws.{ticks_log, ticks_end, done_log, done_end}

-- `left` ticks from the line s on are m ticks from the line z on, in what they write and where they end
pub record Passes (asked left m : ℕ) (s z : Line) : Type 0 where
  pub same_log : ticks_log asked left s ≡ ticks_log asked m z
  pub same_end : ticks_end asked left s ≡ ticks_end asked m z
  pub sound_then : SoundLine z

one_passes : (asked left k : ℕ) (s : Line) → Quiet s (suc k) → Passes asked (suc left) left s (passed s 1)
one_passes asked left k s Q =
    let a = one_quiet_tick s k Q in
    let e = ap (λ (x : Reply). x.verdict) a in
    record { same_log = done_log left s e asked ∙ rw a; same_end = done_end left s e asked ∙ rw a; sound_then = (quiet_then s k Q).sound_state }

-- PASSING OVER k TICKS is running them one by one
pub passes_over : (asked m k : ℕ) (s : Line) → Quiet s k → Passes asked (k + m) m s (passed s k)
passes_over asked m zero s Q =
    let z = pass_none s in
    let e : 0 + m ≡ m = omega arith in
    record { same_log = rw (z, e); same_end = rw (z, e); sound_then = rw z Q.sound_state }
passes_over asked m (suc k) s Q =
    let e : suc k + m ≡ suc (k + m) = omega arith in
    let f = one_passes asked (k + m) k s Q in
    let r = passes_over asked m k (passed s 1) (quiet_then s k Q) in
    let z = pass_one_more s k in
    record {
      same_log = rw e (f.same_log ∙ r.same_log ∙ ap (ticks_log asked m) z);
      same_end = rw e (f.same_end ∙ r.same_end ∙ ap (ticks_end asked m) z);
      sound_then = subst SoundLine z r.sound_then;
    }

-- THE LAW: what a step passes over
pub quiet_passes : (asked left : ℕ) (s : Line) → (quiet_ticks left s ≡ 0 → ⊥)
    → Passes asked left (left - quiet_ticks left s) s (passed s (quiet_ticks left s))
quiet_passes asked left s n =
    let i = quiets left s n in
    let e : quiet_ticks left s + (left - quiet_ticks left s) ≡ left = omega (arith, i.few) in
    subst (λ (j : ℕ). Passes asked j (left - quiet_ticks left s) s (passed s (quiet_ticks left s))) e
    (passes_over asked (left - quiet_ticks left s) (quiet_ticks left s) s i.quiet)
