use Rattle.firmware.proofs.AskedLaws as A
use native.Mathlib.Omega.{arith}
use mathlib.Core.Path.{ap}
use Rattle.rules.specs.declared.Short.{Short}
use Rattle.firmware.proofs.mtredovim_short_level.Goals as goal

pub overflow_cast-result : goal.overflow_cast-result
overflow_cast-result c =
    let a = c.args in
    omega (arith, ap (λ (t : Short). t.level) c.short_asked-short.ensures, A.level_byte a.lk.now a.rows.now)

pub returns : goal.returns
returns c = ap (λ (t : Short). t.level) c.short_asked-short.ensures
