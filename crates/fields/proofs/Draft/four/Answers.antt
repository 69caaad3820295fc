-- `fields::Draft::four` meets its contract: byte by byte, from the low one on.
use Rattle.std.proofs.Common.{ap, ◌++◌, append_assoc}
use Rattle.fields.proofs.DraftLaws.{four_bytes}
use Rattle.fields.proofs.Draft.four.Goals as goal

pub returns : goal.returns
returns c =
    rw (c.one-4.ensures, c.one-3.ensures, c.one-2.ensures, c.one.ensures, c.to_le_bytes-bytes.ensures)
    (simp append_assoc (ap (λ l. c.args.self ++ l) (simp append_assoc at (four_bytes c.args.v))))
