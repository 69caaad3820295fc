-- A quiet tick: nothing starts and nothing departs.
use Prim.Native.Nat.{◌<◌}
use mathlib.Core.Path.{◌≡◌, refl, ap, ◌∙◌}
use mathlib.Core.Bool.{false, not}
use mathlib.Core.Option.{none}
use borrow.Author.Tests.{ne_eqb, lt-leb}
use Rattle.rules.specs.Limits.{clock_end}
use Rattle.rules.proofs.WireLaws.{quiet_tick}
use Rattle.frames.specs.Model.{State, tick, wire}
use Rattle.frames.specs.Service.{moves_on}
use Rattle.frames.specs.SoundState.{Sound}
use Rattle.frames.specs.Calls.{verdicts, verdict, settle, answer}
use Rattle.frames.proofs.SoundTick.{picks}
use Rattle.frames.proofs.SoundExact.{exact}
use Rattle.frames.proofs.Names.{accepted, QuietLine, passed_by}
use Rattle.frames.proofs.Names.{chosen}

verdict_0 : (s : State) → Sound s → (s.link.frame ≡ 0 → ⊥) → s.clock < clock_end → verdict tick s ≡ 0
unfolding verdicts
verdict_0 s T n r = rw (ap not ((exact s).1 T), ne_eqb s.link.frame 0 n, lt-leb clock_end s.clock r) refl

pub quiet_passes : (s : State) → Sound s → (s.link.frame ≡ 0 → ⊥) → s.clock < clock_end → QuietLine s → answer tick s ≡ accepted 0 (passed_by s)
quiet_passes s T n r q =
    let S = T.with_one n in
    ap (settle tick s) (verdict_0 s T n r)
    ∙ quiet_tick (λ _. false) s.link.largest s.link.silence s.clock (wire s) S.line (chosen s) none (picks s S) (moves_on s) q
