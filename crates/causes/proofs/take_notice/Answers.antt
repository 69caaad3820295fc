-- `causes::take_notice` meets its contract: behind those that wait there is room, and it is told so.
use Rattle.tables.proofs.NoticeLaws.{as_a_table}
use Rattle.causes.proofs.NoticeLaws as L
use Rattle.causes.proofs.take_notice.Goals as goal

pub count-waiting-requires : goal.count-waiting-requires
count-waiting-requires c = as_a_table c.args.notices.now c.requires

pub append-requires : goal.append-requires
append-requires c =
    let a = c.args in (
      as_a_table a.notices.now c.requires,
      c.count-waiting.ensures,
      L.room a.unset a.largest a.clock a.len a.tag a.notices.now c.requires _ c.count-waiting.ensures c.in_ok-of_notice.ensures,
    )

pub returns : goal.returns
returns c =
    let a = c.args in
    L.done a.unset a.largest a.clock a.len a.tag a.notices.now c.requires _ c.count-waiting.ensures c.in_ok-of_notice.ensures _ c.append.ensures
