use native.Mathlib.Omega.{arith}
use mathlib.Core.Path.{refl, sym, ap, ◌∙◌}
use Rattle.std.specs.Prelude.{Some}
use Rattle.turns.proofs.TurnLaws.{length_window}
use Rattle.checker.specs.declared.Finding.{Finding}
use Rattle.checker.specs.Checks.{at_the_end}
use Rattle.checker.proofs.close.Goals as goal

pub returns : goal.returns
returns g c =
    let w = length_window c.fetch-p.new.log c.fetch-p.result.from c.fetch-p.result.to c.fetch-p.ensures.inside.order (omega (arith, c.fetch-p.ensures.inside.inside, c.fetch-p.auto.log)) in
    record { fetched = c.fetch-p.ensures.fetched; turn = refl; expected = (refl, refl); at = refl; finding = ap (λ (f : Finding). Some f) (c.at_the_end.ensures ∙ ap (λ n. at_the_end n c.fetch-p.result.read) (sym w)) }
