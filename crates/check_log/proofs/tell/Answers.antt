use mathlib.Core.Path.{refl}
use Rattle.turns.proofs.RunLaws.{some_is}
use Rattle.checker.specs.declared.Finding.TheVariants.{Accepted, Differs, EndsEarly, LogFailed, TooLong, TraceFailed}
use Rattle.check_log.proofs.tell.Goals as goal

pub say-requires : goal.say-requires
say-requires g c = let e = some_is c.in-Some-Accepted.field-0 Accepted c.in-Some-Accepted.is (rw c.in-Some-Accepted.is at c.in-Some-Accepted.field-0-is) in rw e (refl, refl)

pub say-requires-in-Some-Differs : goal.say-requires-in-Some-Differs
say-requires-in-Some-Differs g c =
    let d = c.decimal-k in
    let e = some_is c.in-Some-Differs.field-0 Differs c.in-Some-Differs.is (rw c.in-Some-Differs.is at c.in-Some-Differs.field-0-is) in
    rw e (refl, (rw (← d.ensures.in_bounds.1) d.ensures.len, rw (← d.ensures.in_bounds.1) d.ensures.digits))

pub say-requires-in-Some-TooLong : goal.say-requires-in-Some-TooLong
say-requires-in-Some-TooLong g c =
    let d = c.decimal-k in
    let e = some_is c.in-Some-TooLong.field-0 TooLong c.in-Some-TooLong.is (rw c.in-Some-TooLong.is at c.in-Some-TooLong.field-0-is) in
    rw e (refl, (rw (← d.ensures.in_bounds.1) d.ensures.len, rw (← d.ensures.in_bounds.1) d.ensures.digits))

pub say-requires-in-Some-EndsEarly : goal.say-requires-in-Some-EndsEarly
say-requires-in-Some-EndsEarly g c =
    let d = c.decimal-k in
    let e = some_is c.in-Some-EndsEarly.field-0 EndsEarly c.in-Some-EndsEarly.is (rw c.in-Some-EndsEarly.is at c.in-Some-EndsEarly.field-0-is) in
    rw e (refl, (rw (← d.ensures.in_bounds.1) d.ensures.len, rw (← d.ensures.in_bounds.1) d.ensures.digits))

pub complain-requires : goal.complain-requires
complain-requires g c = let e = some_is c.in-Some-TraceFailed.field-0 TraceFailed c.in-Some-TraceFailed.is (rw c.in-Some-TraceFailed.is at c.in-Some-TraceFailed.field-0-is) in rw e refl

pub complain-requires-in-Some-LogFailed : goal.complain-requires-in-Some-LogFailed
complain-requires-in-Some-LogFailed g c = let e = some_is c.in-Some-LogFailed.field-0 LogFailed c.in-Some-LogFailed.is (rw c.in-Some-LogFailed.is at c.in-Some-LogFailed.field-0-is) in rw e refl
