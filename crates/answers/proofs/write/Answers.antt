-- `answers::write` meets its contract: nothing is written of what is malformed.
use Rattle.std.proofs.Common.{arith, []}
use Rattle.fields.specs.Formats.{laid}
use Rattle.fields.proofs.DraftLaws.{room_enough}
use Rattle.answers.proofs.write.Goals as goal

pub returns-in-None : goal.returns-in-None
unfolding laid
returns-in-None c = rw c.in-None.is (room_enough [] c.args.room.now (omega arith))
