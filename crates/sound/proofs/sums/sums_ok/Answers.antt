use native.Mathlib.Omega.{arith}
use Rattle.connections.proofs.WrittenLaws as W
use Rattle.connections.specs.Members.{connections_in, sums_formed, first_closed, pasts_in, closed_in}
use Rattle.connections.proofs.MemberLaws as M
use Rattle.connections.proofs.OwnerLaws as O
use Rattle.connections.specs.Closing.{one_more, one_less}
use Prim.Native.Nat.{ℕ, zero, suc}
use mathlib.Core.Path.{◌≡◌, refl}
use Rattle.sound.proofs.sums.sums_ok.Goals as goal

-- the number of the earliest one is one more again
one_again : (n : ℕ) → one_more (one_less n) ≡ n
one_again zero = refl
one_again (suc e) = refl

pub owners_up_to-owners-requires : goal.owners_up_to-owners-requires
owners_up_to-owners-requires c =
    let m = c.args.members.now in
    (W.rows_length m c.requires, omega (arith, O.used_le (connections_in m), M.connections_length m), omega arith)

pub used-requires : goal.used-requires
used-requires c = W.rows_length c.args.members.now c.requires

pub first_charge-requires : goal.first_charge-requires
first_charge-requires c = W.rows_length c.args.members.now c.requires

pub earliest_closed-requires : goal.earliest_closed-requires
earliest_closed-requires c = (c.requires, λ k l. M.closed_none c.args.members.now k l, omega arith)

pub returns : goal.returns
unfolding sums_formed
returns c = rw (c.used.ensures, c.owners_up_to-owners.ensures, c.from.ensures, c.first_charge.ensures, c.number_for-first.ensures, c.earliest_closed.ensures, one_again (first_closed (pasts_in c.args.members.now) (closed_in c.args.members.now)))
