-- `traces::link::is_written` meets its contract: the bounds past n are all 0.
use Rattle.std.proofs.Common.{rules, arith, ◌≤◌, ◌≡◌, ap, ◌∙◌, ◌-◌, length, drop}
use Rattle.std.proofs.lemmas.Grind.{common_steps}
use Rattle.std.specs.List.{list_all}
use lib.Dec.{eqb}
use lib.Seq.{take_all}
use lib.ListN.{length-drop}
use Rattle.traces.proofs.LinkLaws.{range_allowed, levels_lost}
use Rattle.traces.proofs.link.is_written.Goals as goal

pub returns-then-contains : goal.returns-then-contains
returns-then-contains c =
    let n = c.args.levels in
    let ds = c.args.bounds.now in
    let low : 1 ≤ n = grind (arith, common_steps) in
    let high : n ≤ 8 = grind (arith, common_steps) in
    let e : length ds ≡ 8 = search rules in
    let rest = take_all (8 - n) (drop n ds) (simp length-drop (omega arith)) in
    rw (range_allowed n low high, levels_lost n ds e high)
    (c.zeros.ensures ∙ ap (λ l. list_all (λ d. eqb d 0) l) rest)
