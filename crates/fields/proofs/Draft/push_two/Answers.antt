-- `fields::Draft::push_two` meets its contract: the low byte, and the high one.
use Rattle.std.proofs.Common.{ap, ◌++◌, append_assoc}
use Rattle.fields.proofs.DraftLaws.{two_bytes}
use Rattle.fields.proofs.Draft.push_two.Goals as goal

pub returns : goal.returns
returns c = rw (c.push-2.ensures, c.push.ensures, c.to_le_bytes-bytes.ensures, append_assoc) (ap (λ l. c.args.self.now ++ l) (two_bytes c.args.v))
