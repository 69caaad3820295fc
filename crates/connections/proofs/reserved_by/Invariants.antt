use Rattle.rules.specs.Words.{sum as sigma}
use Rattle.connections.proofs.FigureLaws as L
use Prim.Native.Nat.{ℕ, ◌≤◌, ◌*◌}
use mathlib.Core.Path.{◌≡◌}
use Rattle.rules.specs.Limits.{beyond_32_bits}
use Rattle.rules.specs.Model.{nth}
use Rattle.connections.specs.Members.{connections_in}
use Rattle.connections.proofs.reserved_by.Given as goal

abbrev pub invariant-loop-i : goal.invariant-loop-i
invariant-loop-i l = (l.i ≤ l.n) × (l.sum ≡ sigma l.i (λ (k : ℕ). L.reservation_in l.l.bounds (nth (connections_in l.members) k))) × (l.sum ≤ l.i * beyond_32_bits)
