use Rattle.firmware.proofs.AskedLaws as A
use Rattle.firmware.proofs.LaidLaws as L
use mathlib.Core.Path.{◌∙◌}
use borrow.Author.Rules.{rules}
use Rattle.firmware.proofs.short_over.Goals as goal

pub lay_out-requires : goal.lay_out-requires
lay_out-requires c =
    let l = c.args.l in
    let rows = c.args.rows.now in
    let n = c.args.n in
    (search rules, search rules, A.levelled l rows n c.requires.3, L.blank rows)

pub standing_test-requires : goal.standing_test-requires
standing_test-requires c =
    let l = c.args.l in
    let rows = c.args.rows.now in
    let n = c.args.n in
    let laid = c.lay_out.ensures in (
      L.length_laid rows n c.requires.1 _ laid,
      L.used_laid rows n c.requires.1 _ laid,
      c.requires.1,
      L.within_laid rows n c.requires.1 _ laid l c.requires.0 c.requires.3,
    )

pub returns : goal.returns
returns c =
    let laid = c.lay_out.ensures in
    c.standing_test.ensures ∙ L.test_laid c.args.rows.now c.args.n c.requires.1 _ laid c.args.l
