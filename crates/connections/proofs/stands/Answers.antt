use Rattle.connections.proofs.MemberLaws as M
use native.Mathlib.Omega.{arith}
use mathlib.Core.Path.{sym, ap}
use mathlib.Core.Bool.{Bool, false, not, ◌&&◌}
use lib.ListN.{get_or}
use Rattle.connections.specs.Members.{closed_in}
use Rattle.connections.proofs.stands.Goals as goal

pub returns-then-k-ge-MAX_CONNECTIONS : goal.returns-then-k-ge-MAX_CONNECTIONS
returns-then-k-ge-MAX_CONNECTIONS c =
    let a = c.args in
    sym (ap (λ (b : Bool). b && not (get_or (closed_in a.members.now) a.c false)) (M.owned_none a.members.now a.c (omega arith)))

pub returns : goal.returns
returns c =
    let a = c.args in
    rw (c.number.ensures, c.number-2.ensures, M.owned_is a.members.now a.c (omega arith), M.open_is a.members.now a.c (omega arith))
