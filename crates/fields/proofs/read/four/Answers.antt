-- `fields::read::four` meets its contract: its bytes from the low one on.
use Rattle.std.proofs.Common.{arith, ◌+◌, ◌≡◌}
use Rattle.fields.specs.Numbers.{number}
use Rattle.fields.proofs.read.four.Goals as goal

pub returns : goal.returns
unfolding number
returns c =
    let at = c.args.at in
    let e : at + 1 + 1 ≡ at + 2 = omega arith in
    let f : at + 2 + 1 ≡ at + 3 = omega arith in
    rw (e, f) (omega (arith, c.from_le_bytes.ensures, c.one.ensures, c.one-2.ensures, c.one-3.ensures, c.one-4.ensures))
