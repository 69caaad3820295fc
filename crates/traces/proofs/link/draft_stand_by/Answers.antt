-- `traces::link::draft_stand_by` meets its contract: the numbers of an `LE` behind its mark, in their order.
use mathlib.Core.Path.{sym, ◌∙◌}
use Rattle.fields.specs.Numbers.{put_fields, none_lost}
use Rattle.fields.specs.Formats.{laid}
use Rattle.fields.proofs.MarkLaws.{both}
use Rattle.traces.proofs.LinkLaws.{allowed_range, levels_put, levels_allowed}
use borrow.Author.Rules.{rules}
use Rattle.traces.proofs.link.draft_stand_by.Goals as goal

pub returns-then-not-is_written : goal.returns-then-not-is_written
unfolding laid none_lost
returns-then-not-is_written c = rw (c.empty.ensures, sym c.is_written.ensures ∙ c.if-not-is_written.true)

pub returns : goal.returns
unfolding laid none_lost put_fields
returns c =
    let n = c.args.levels in
    let yes = sym c.is_written.ensures ∙ c.if-not-is_written.false in
    let few = (allowed_range n (both (levels_allowed n) _ yes).0).1 in
    rw (yes, levels_put n c.args.bounds.now (search rules) few, c.settled.ensures)
