-- How many ticks are quiet, in each case that the code tells apart.
use Prim.Native.Nat.{ℕ, ◌-◌, ◌≤◌, ◌<◌, min}
use native.Mathlib.Omega.{arith}
use mathlib.Core.Path.{◌≡◌, sym, ap, ◌∙◌, subst}
use mathlib.Core.Bool.{true}
use mathlib.Core.List.{List, [], ◌∷◌}
use mathlib.Core.Option.{none}
use lib.ListN.{length, drop}
use Rattle.rules.specs.declared.Packet.{Packet}
use Rattle.rules.specs.Words.{All, Pairs}
use Rattle.rules.specs.Limits.{clock_end}
use Rattle.frames.specs.Model.{State, wire}
use Rattle.frames.specs.SoundTest.{sound}
use Rattle.frames.proofs.SoundExact.{exact}
use Rattle.tables.specs.Places.{rows, row_at}
use Rattle.tables.proofs.PlacesLaws.{rows_from}
use Rattle.line.specs.Quiet.{eligible_from, quiet_for, quiet_line}
use Rattle.line.proofs.QuietLaws.{eligible_from_le, without_link, with_link}
use Rattle.framed_service.specs.Quiet.{quiet_ticks}
use Rattle.frames.proofs.Names.{NotAfter}

-- ---- the first row tells when a packet is eligible

not_before : (t : ℕ) (ps : List Packet) → All (λ p. t ≤ p.eligibility) ps → min t clock_end ≤ eligible_from ps
not_before t [] h = omega arith
not_before t (p ∷ ps) h = omega (arith, h.0, not_before t ps h.1)

module _ (t : List ℕ) where
  pub first_row : 0 < length (rows t) → Pairs NotAfter (rows t) → min (row_at t 0).eligibility clock_end ≡ eligible_from (rows t)
  first_row l h =
      let e = rows_from t 0 l in
      let f = (row_at t 0).eligibility in
      let k = not_before f (drop 1 (rows t)) (subst (Pairs NotAfter) e h).0 in
      let m : min f clock_end ≡ min f (eligible_from (drop 1 (rows t))) = omega (arith, k, eligible_from_le (drop 1 (rows t))) in
      m ∙ ap eligible_from (sym e)

-- ---- those that are passed over

module _ (s : State) (ok : sound s ≡ true) (left : ℕ) where
  pub none_without_link : s.link.frame ≡ 0 → 0 ≡ quiet_ticks left s
  unfolding quiet_ticks
  none_without_link = without_link (sound s) s.link.frame _ ok

  module _ (n : s.link.frame ≡ 0 → ⊥) where
    pub clock_in_time : s.clock ≤ clock_end
    clock_in_time = (((exact s).0 ok).with_one n).clock_le

    -- the line's quiet, the clock's rest and what is left, where the code has them as q, m and k
    pub some_quiet : (q m k : ℕ) → q ≡ quiet_for s.to_go s.silent s.held s.notices none s.clock
        → m ≡ min q (clock_end - s.clock) → k ≡ min m left → k ≡ quiet_ticks left s
    unfolding quiet_ticks
    some_quiet q m k e f g =
        let i : k ≡ min (quiet_line s.clock none (wire s)) left = omega arith in
        i ∙ with_link (sound s) s.link.frame _ ok n
