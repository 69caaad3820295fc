use Rattle.rules.specs.Words.{sum as sigma}
use Rattle.connections.proofs.MemberLaws as M
use Rattle.connections.proofs.OwnerLaws as O
use Rattle.connections.proofs.FigureLaws as L
use Prim.Native.Nat.{ℕ}
use native.Mathlib.Omega.{arith}
use mathlib.Core.Path.{◌≡◌, ap, ◌∙◌}
use Rattle.rules.specs.declared.Connection.{Connection}
use Rattle.rules.specs.Model.{nth}
use Rattle.connections.specs.Members.{connections_in}
use Rattle.connections.specs.Within.{share_of, seen}
use borrow.Author.Rules.{rules}
use Rattle.connections.proofs.tested.Tested.load_seen.Goals as goal

pub share_seen-sum-requires : goal.share_seen-sum-requires
share_seen-sum-requires c =
    let a = c.args in
    let k = L.entry_limits a.self.now.link (connections_in a.self.now.members.now) a.self.now.within c.loop-i.i c.connection_at-x.result c.connection_at-x.ensures in
    (k.free_blank, k.owner_gap, search rules, search rules, k.size_most, k.silence_most)

pub returns : goal.returns
returns c =
    let a = c.args in
    let e : c.loop-i.i ≡ a.self.now.n = omega arith in (
      c.loop-i.invariant.1
          ∙ ap (λ (j : ℕ). sigma j (λ (k : ℕ). share_of a.self.now.link a.m (seen a.m a.own a.urgent (nth (connections_in a.self.now.members.now) k).level) (nth (connections_in a.self.now.members.now) k))) e
          ∙ O.sum_used (connections_in a.self.now.members.now) (λ (y : Connection). share_of a.self.now.link a.m (seen a.m a.own a.urgent y.level) y) (L.share_free a.self.now.link a.m (seen a.m a.own a.urgent 0)) a.self.now.within.blank_in a.self.now.n a.self.now.owners (omega (arith, M.connections_length a.self.now.members.now)),
      omega (arith, c.loop-i.invariant.2),
    )
