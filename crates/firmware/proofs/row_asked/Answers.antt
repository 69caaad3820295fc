use Rattle.firmware.proofs.AskedLaws as A
use Prim.Native.Nat.{◌*◌}
use Rattle.fields.proofs.PartLaws.{part_all}
use Rattle.firmware.proofs.row_asked.Goals as goal

pub returns : goal.returns
returns c =
    let a = c.args in
    rw (
      c.connection_named.ensures,
      c.one.ensures,
      c.two.ensures,
      c.two-2.ensures,
      c.two-3.ensures,
      c.two-4.ensures,
    )
    (A.row_is a.rows.now a.i _ (part_all (9 * a.i) a.rows.now))
