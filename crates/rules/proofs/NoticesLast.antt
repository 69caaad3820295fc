-- A notice comes into service only where no held packet is eligible.
use Prim.Native.Nat.{ℕ, zero, suc, ◌<◌}
use native.Mathlib.Omega.{arith}
use mathlib.Core.Path.{◌≡◌, sym, ap, subst}
use mathlib.Core.Logic.{⊎_elim}
use mathlib.Core.List.{List}
use mathlib.Core.Option.{Option, none, some}
use Rattle.rules.specs.Limits.{notice_number}
use Rattle.rules.specs.Model.{Packet, State}
use Rattle.rules.specs.Service.{chosen, stand_by, takes}
use Rattle.rules.proofs.Doings.{level_of}
use Rattle.rules.proofs.HubTick.{line_after_start, started_state}
use Rattle.rules.specs.SoundState.{Fits, Orderly, Sound}
use Rattle.rules.proofs.Lists.{All}
use Rattle.rules.proofs.Sums.{same}
use Rattle.rules.proofs.Rows.{first_all}
use Rattle.rules.proofs.Standing.{owned_below}
use Rattle.rules.proofs.Choice.{Chosen}
use Rattle.rules.proofs.SoundTick.{choice_holds}

-- a packet that is chosen bears its connection's number
nothing_chosen : (s : State) → Orderly s → (o : Option Packet) → Chosen (level_of s) s.clock s.held o → (takes o s.notices (stand_by s)).0 ≡ notice_number
    → All (λ p. s.clock < p.eligibility) s.held
nothing_chosen s S none k e = k
nothing_chosen s S (some p) k e =
    absurd
    (omega (
      arith,
      S.numbers,
      owned_below s.connections p.connection (first_all p.connection (Fits s.connections) s.held p k.2 S.fit).owner,
    ))

pub none_eligible : (s : State) → Sound s → s.to_go ≡ 0 → (started_state s).serving ≡ notice_number → All (λ p. s.clock < p.eligibility) s.held
none_eligible s S idle e =
    ⊎_elim
    (λ z. subst (λ (ps : List Packet). All (λ p. s.clock < p.eligibility) ps) (sym (ap (λ (r : State). r.held) (S.with_no_link z))) tt)
    (λ n.
    by_line (S.with_one n).orderly s.to_go s.silent idle e)
    (same s.link.levels 0)
  where
    -- in a silence nothing is in service
    by_line : Orderly s → (u q : ℕ) → u ≡ 0 → (line_after_start s u q).0 ≡ notice_number → All (λ p. s.clock < p.eligibility) s.held
    by_line T zero zero z e = nothing_chosen s T (chosen s) (choice_holds s T) e
    by_line T zero (suc q) z e = absurd (omega (arith, ⊎_elim (λ i. i.1) (λ k. ⊎_elim (λ r. absurd (omega (arith, r.some_to_go))) (λ r. absurd (omega (arith, r.some_to_go))) k) T.line.line))
    by_line T (suc u) q z e = absurd (omega arith)
