-- `fields::Draft::marked` meets its contract: a mark is its two letters.
use Rattle.std.proofs.Common.{rules, get_or}
use Rattle.fields.proofs.DraftLaws.{little_one, pair_of}
use Rattle.fields.proofs.Draft.marked.Goals as goal

pub returns : goal.returns
returns c =
    let m = c.args.mark in
    rw (c.one-2.ensures, c.one.ensures, c.empty.ensures, little_one (get_or m 0 0) (search rules), little_one (get_or m 1 0) (search rules)) (pair_of m (search rules))
