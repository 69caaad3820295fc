use Rattle.rules.specs.Words.{sum as sigma}
use Rattle.connections.proofs.MemberLaws as M
use Rattle.connections.proofs.OwnerLaws as O
use Rattle.connections.proofs.FigureLaws as L
use borrow.Author.Rules.{rules}
use Prim.Native.Nat.{ℕ}
use native.Mathlib.Omega.{arith}
use mathlib.Core.Path.{◌≡◌, ap, ◌∙◌}
use Rattle.rules.specs.Model.{nth}
use Rattle.rules.specs.Admission.{reservation}
use Rattle.connections.specs.Members.{connections_in}
use borrow.Author.Rules.{rules}
use Rattle.connections.proofs.reserved_by.Goals as goal

pub reserve_in-sum-requires : goal.reserve_in-sum-requires
reserve_in-sum-requires c =
    let a = c.args in
    let k = L.entry_limits a.l (connections_in a.members.now) c.requires.3 c.loop-i.i c.connection_at.result c.connection_at.ensures in
    (k.free_blank, k.owner_gap, search rules, omega (arith, k.reach_fits, L.bound_is a.l c.connection_at.result.level))

pub returns : goal.returns
returns c =
    let a = c.args in
    let e : c.loop-i.i ≡ a.n = omega arith in (
      c.loop-i.invariant.1
          ∙ ap (λ (j : ℕ). sigma j (λ (k : ℕ). L.reservation_in a.l.bounds (nth (connections_in a.members.now) k))) e
          ∙ L.reserved_is a.l (connections_in a.members.now) a.n
          ∙ O.sum_used (connections_in a.members.now) (reservation a.l) (L.reservation_free a.l) c.requires.3.blank_in a.n c.requires.1 (omega (arith, M.connections_length a.members.now)),
      omega (arith, c.loop-i.invariant.2),
    )
