use Rattle.rules.specs.Words.{sum as sigma}
use Prim.Native.Nat.{ℕ, ◌≤◌, ◌*◌}
use mathlib.Core.Path.{◌≡◌}
use Rattle.rules.specs.Model.{nth}
use Rattle.connections.specs.Members.{connections_in}
use Rattle.connections.specs.Within.{most_share, share_of, seen}
use Rattle.connections.proofs.tested.Tested.load_seen.Given as goal

abbrev pub invariant-loop-i : goal.invariant-loop-i
invariant-loop-i l = (l.i ≤ l.self.n) × (l.sum ≡ sigma l.i (λ (k : ℕ). share_of l.self.link l.m (seen l.m l.own l.urgent (nth (connections_in l.self.members.now) k).level) (nth (connections_in l.self.members.now) k))) × (l.sum ≤ l.i * most_share)
