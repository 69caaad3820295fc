use Rattle.std.proofs.Common.{◌≡◌, ◌++◌, take, replicate}
use Rattle.fields.specs.Numbers.{put_fields}
use Rattle.fields.proofs.Draft.pairs.Given as goal

abbrev pub invariant-loop-number : goal.invariant-loop-number
invariant-loop-number l = l.self ≡ l.initial.self ++ put_fields (replicate l.number-index 2) (take l.number-index l.numbers)
