-- `fields::read::two` meets its contract: a low byte and a high one.
use Rattle.std.proofs.Common.{arith}
use Rattle.fields.specs.Numbers.{number}
use Rattle.fields.proofs.read.two.Goals as goal

pub returns : goal.returns
unfolding number
returns c = omega (arith, c.from_le_bytes.ensures, c.one.ensures, c.one-2.ensures)
