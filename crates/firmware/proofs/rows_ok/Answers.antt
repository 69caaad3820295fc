use Rattle.std.proofs.Common.{rules, tests, refl}
use Rattle.limits.proofs.AllLaws.{every_of_all}
use Rattle.firmware.proofs.AskedLaws.{row_ok}
use Rattle.firmware.proofs.rows_ok.Goals as goal

pub returns : goal.returns
returns c = every_of_all (row_ok c.args.l c.args.rows.now) c.args.n refl c.all.ensures.ran (λ x b q k. search (rules, tests))
