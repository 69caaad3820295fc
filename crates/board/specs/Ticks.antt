-- MANY TICKS in one call: one after another, each a request of its own, up to the first with which a packet departs, or the last before one that is refused, or n.
-- Document 01, "One tick".
use Rattle.std.specs.Prelude.{ℕ, zero, suc, ◌+◌, cond, eqb}
use Rattle.rules.specs.Model.{no_short}
use Rattle.either_line.specs.Line.{Line, tick, Reply, refuse, respond, resting_verdict}
use Rattle.tables.specs.Places.{is_some}

-- `number` tells the ticks that were done. The verdict is that of the first tick, where one is asked: where it is not 0, none was done
unfoldable pub run_ticks : ℕ → Line → Reply
run_ticks zero s = refuse s (resting_verdict s) 0
run_ticks (suc n) s =
    let a = respond tick s in
    let m = run_ticks n a.next in
    cond (eqb a.verdict 0)
    (cond (is_some a.departed)
    (record { verdict = 0; number = 1; short = no_short; departed = a.departed; next = a.next })
    (record { verdict = 0; number = 1 + m.number; short = no_short; departed = m.departed; next = m.next }))
    (refuse s a.verdict 0)
