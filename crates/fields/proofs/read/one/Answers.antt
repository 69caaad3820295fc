-- `fields::read::one` meets its contract: past the end stands 0.
use Rattle.std.proofs.Common.{arith}
use Rattle.std.proofs.lemmas.Grind.{common_steps}
use Rattle.fields.proofs.NumberLaws.{one_byte}
use Rattle.fields.proofs.read.one.Goals as goal

pub returns : goal.returns
returns c = rw one_byte (grind (arith, common_steps))
