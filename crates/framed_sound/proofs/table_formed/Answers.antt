use Rattle.std.proofs.Common.{rules, ◌∙◌}
use borrow.Author.Tests.{ne_eqb}
use Rattle.shares.proofs.ShareLaws as H
use Rattle.framed_sound.proofs.table_formed.Goals as goal

pub returns-then-table-eq-SHARES : goal.returns-then-table-eq-SHARES
returns-then-table-eq-SHARES c =
    (rw c.table-table.ensures at c.zero_from.ensures) ∙ H.formed_by c.args.shares.table.now c.len.result (search rules) c.len.ensures

pub returns-else-table-eq-SHARES : goal.returns-else-table-eq-SHARES
returns-else-table-eq-SHARES c = ne_eqb _ _ c.if-table-eq-SHARES.false ∙ H.not_formed c.args.shares.table.now (search rules)
