use Rattle.connections.proofs.StampLaws as S
use Rattle.connections.specs.Rows.{connection_of, past_of}
use borrow.Author.Rules.{rules}
use Rattle.connections.proofs.stamps.untimely.Goals as goal

pub returns-then-now-stamp : goal.returns-then-now-stamp
returns-then-now-stamp c = let a = c.args in S.stamp_late (connection_of a.m) (past_of a.m) a.now a.stamp (search rules)

pub returns-then-e-wide : goal.returns-then-e-wide
returns-then-e-wide c =
    let a = c.args in
    S.sum_over (connection_of a.m) (past_of a.m) a.now a.stamp (search rules) c.behind_stamp-e.result c.behind_stamp-e.ensures c.wide.result c.wide.ensures.0 (search rules)

pub returns : goal.returns
returns c =
    let a = c.args in
    S.gap_decides (connection_of a.m) (past_of a.m) a.now a.stamp (search rules) c.behind_stamp-e.result c.behind_stamp-e.ensures c.wide.result c.wide.ensures.0 (search rules) c.after_nth.result c.after_nth.ensures
