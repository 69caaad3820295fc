use Rattle.answer_log.proofs.ReadLaws.{read_nothing, read_beyond, read_crossing, read_inside}
use Rattle.std.specs.Prelude.{None}
use native.Mathlib.Omega.{arith}
use mathlib.Core.Path.{◌≡◌, sym, ◌∙◌}
use borrow.Author.Rules.{rules}
use Rattle.steps.proofs.reading.read_at.Goals as goal
use Rattle.steps.proofs.reading.read_at.Goals.{then-place-gt-TRACE_LIMIT-via-then-place-gt-TRACE_LIMIT, then-place-gt-TRACE_LIMIT-via-else-place-gt-TRACE_LIMIT+then-place-taken}

pub returns-in_err-what : goal.returns-in_err-what
returns-in_err-what c =
    let a = c.args in
    let e : c.from_residual.result ≡ None = search rules in
    rw e (read_nothing a.at a.s.now (sym c.read.ensures ∙ c.in_err-what.was), omega arith)

pub returns-then-place-gt-TRACE_LIMIT : goal.returns-then-place-gt-TRACE_LIMIT
returns-then-place-gt-TRACE_LIMIT c =
    let a = c.args in
    let e = sym c.read.ensures ∙ c.in_ok-what.was in (
      elim c.then-place-gt-TRACE_LIMIT.branch [
        | then-place-gt-TRACE_LIMIT-via-then-place-gt-TRACE_LIMIT w ↦ read_beyond a.at a.s.now e (search rules)
        | then-place-gt-TRACE_LIMIT-via-else-place-gt-TRACE_LIMIT+then-place-taken w ↦ read_crossing a.at a.s.now e (search rules)
      ],
      omega arith,
    )

pub returns : goal.returns
returns c =
    let a = c.args in
    (read_inside a.at a.s.now (sym c.read.ensures ∙ c.in_ok-what.was) (search rules) (search rules), search rules)
