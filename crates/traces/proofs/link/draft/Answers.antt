-- `traces::link::draft` meets its contract: the numbers of an `LK` behind its mark, in their order.
use mathlib.Core.Path.{sym, ◌∙◌}
use lib.Seq.{length-take-le}
use Rattle.traces.specs.Kinds.{LK}
use Rattle.fields.specs.Numbers.{little, put_fields, none_lost}
use Rattle.fields.specs.Formats.{laid}
use Rattle.fields.proofs.MarkLaws.{both}
use Rattle.traces.proofs.LinkLaws.{allowed_range, levels_put, levels_allowed, in_order}
use borrow.Author.Rules.{rules}
use Rattle.traces.proofs.link.draft.Goals as goal

pub returns-then-not-is_written : goal.returns-then-not-is_written
unfolding laid none_lost
returns-then-not-is_written c = rw (c.empty.ensures, sym c.is_written.ensures ∙ c.if-not-is_written.true)

pub returns : goal.returns
unfolding laid none_lost put_fields
returns c =
    let n = c.args.levels in
    let yes = sym c.is_written.ensures ∙ c.if-not-is_written.false in
    let few = (allowed_range n (both (levels_allowed n) _ yes).0).1 in
    rw (
      yes,
      levels_put n c.args.bounds.now (search rules) few,
      c.pairs.ensures,
      c.one.ensures,
      c.two.ensures,
      c.headed.ensures,
      length-take-le n c.args.bounds.now (search rules),
    )
    (in_order LK.mark (little 1 n) (little 2 c.args.largest) (little 1 c.args.silence) _)
