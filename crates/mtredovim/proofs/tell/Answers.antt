use mathlib.Core.Path.{refl}
use Rattle.turns.proofs.RunLaws.{some_is}
use Rattle.turns.specs.declared.End.TheVariants.{Malformed, NotTaken, ReadFailed}
use Rattle.mtredovim.proofs.tell.Goals as goal

pub say-requires : goal.say-requires
say-requires g c =
    let d = c.decimal-k in
    let e = some_is c.in-Some-Malformed.field-0 Malformed c.in-Some-Malformed.is (rw c.in-Some-Malformed.is at c.in-Some-Malformed.field-0-is) in
    rw e (refl, (rw (← d.ensures.in_bounds.1) d.ensures.len, rw (← d.ensures.in_bounds.1) d.ensures.digits))

pub say-requires-in-Some-ReadFailed : goal.say-requires-in-Some-ReadFailed
say-requires-in-Some-ReadFailed g c = let e = some_is c.in-Some-ReadFailed.field-0 ReadFailed c.in-Some-ReadFailed.is (rw c.in-Some-ReadFailed.is at c.in-Some-ReadFailed.field-0-is) in rw e (refl, refl)

pub say-requires-in-Some-NotTaken : goal.say-requires-in-Some-NotTaken
say-requires-in-Some-NotTaken g c = let e = some_is c.in-Some-NotTaken.field-0 NotTaken c.in-Some-NotTaken.is (rw c.in-Some-NotTaken.is at c.in-Some-NotTaken.field-0-is) in rw e (refl, refl)
