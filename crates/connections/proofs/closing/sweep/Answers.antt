use Rattle.connections.proofs.ClosingLaws as L
use Rattle.connections.proofs.SweepLaws as S
use Rattle.connections.proofs.WrittenLaws as W
use native.Mathlib.Omega.{arith}
use mathlib.Core.Path.{◌≡◌}
use Rattle.connections.specs.Members.{first_in}
use Prim.Native.Nat.{suc}
use Rattle.connections.proofs.closing.sweep.Goals as goal

pub first_charged-requires : goal.first_charged-requires
first_charged-requires c = W.members_long c.args.members.now c.requires.0

pub returns-in_default : goal.returns-in_default
returns-in_default c =
    let e : 0 ≡ first_in c.args.members.now = L.more_of _ _ c.in_default.ensures in
    S.swept_as_is c.args.members.now c.requires.0 c.args.time c.args.clock c.requires.1 (λ p. absurd (omega arith))

pub returns-then-from : goal.returns-then-from
returns-then-from c =
    let e : suc c.in-Some.first ≡ first_in c.args.members.now = L.more_of _ _ c.in-Some.ensures in
    S.swept_as_is c.args.members.now c.requires.0 c.args.time c.args.clock c.requires.1 (λ p. omega (arith, c.from.ensures, c.from-2.ensures, c.from-3.ensures))
