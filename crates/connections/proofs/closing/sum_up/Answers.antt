use Rattle.connections.proofs.ClosingLaws as L
use Rattle.connections.proofs.MemberLaws.{closed_member}
use Rattle.connections.proofs.WrittenLaws as W
use native.Mathlib.Omega.{arith}
use mathlib.Core.Path.{◌∙◌}
use lib.Dec.{lit<}
use lib.ListN.{length-set}
use Rattle.rules.specs.Limits.{beyond_32_bits}
use Rattle.connections.specs.Members.{pasts_in, closed_in}
use Rattle.connections.proofs.closing.sum_up.Goals as goal

pub owners_up_to-owners-requires : goal.owners_up_to-owners-requires
owners_up_to-owners-requires c = (W.rows_length c.args.members.now c.requires.0, c.requires.2, c.requires.3)

pub earliest_closed-requires : goal.earliest_closed-requires
earliest_closed-requires c =
    let t = c.args.members.now in
    let e = c.owners_up_to-owners.ensures in
    (c.requires.0, λ i h. closed_member t i ∙ L.open_behind t c.requires.1 c.owners_up_to-owners.result (omega arith) i h, omega arith)

pub number_for-earliest-requires : goal.number_for-earliest-requires
number_for-earliest-requires c =
    let t = c.args.members.now in
    omega (arith, L.more_of _ _ c.earliest_closed.ensures, L.first_fits beyond_32_bits (lit< tt) (pasts_in t) (closed_in t) c.requires.1.closed_fits)

pub bounds-members-5000 : goal.bounds-members-5000
bounds-members-5000 c = omega (arith, W.rows_length c.args.members.now c.requires.0)

pub bounds-members : goal.bounds-members
bounds-members c = simp length-set (omega (arith, W.rows_length c.args.members.now c.requires.0))

pub returns : goal.returns
returns c =
    L.sums_put c.args.members.now c.requires.0 c.owners_up_to-owners.result c.number_for-earliest.result
    ∙ rw (c.owners_up_to-owners.ensures, c.number_for-earliest.ensures ∙ L.more_of _ _ c.earliest_closed.ensures)
