-- `traces::link::settled` meets its contract: each number in its width.
use lib.Seq.{length-take-le}
use Rattle.std.proofs.Common.{append_assoc}
use Rattle.fields.specs.Numbers.{put_fields}
use borrow.Author.Rules.{rules}
use Rattle.traces.proofs.link.settled.Goals as goal

pub returns : goal.returns
unfolding put_fields
returns c = rw (c.pairs.ensures, c.one-2.ensures, c.one.ensures, c.two.ensures, c.headed.ensures, length-take-le c.args.levels c.args.bounds.now (search rules)) (simp append_assoc)
