use Rattle.std.proofs.Common.{arith, ◌≤◌, ℕ, List, length, sym}
use lib.Seq.{length-take-le}
use Rattle.streams.specs.Moves.{IsPrefixLen}
use Rattle.streams.proofs.Powers.{digit_count_le}
use Rattle.streams.proofs.number.decimal.Goals as goal
use Rattle.streams.proofs.number.decimal.Goals.{After-digit_count-k}

prefix_len_of_le : (n : ℕ) (xs : List ℕ) → n ≤ length xs → IsPrefixLen n xs
prefix_len_of_le n xs h = (h, sym (length-take-le n xs h))

-- twenty digits hold a u64
count_fits : (c : goal.After-digit_count-k) → c.digit_count-k.result ≤ 20
count_fits c = digit_count_le 10 1 c.args.n c.digit_count-k.result 20 (omega arith) c.digit_count-k.ensures (omega arith) (omega arith)

pub write_digits-requires : goal.write_digits-requires
write_digits-requires c = omega (arith, count_fits (goal.at.write_digits-requires c).After-digit_count-k)

pub returns : goal.returns
returns c = record { in_bounds = prefix_len_of_le _ _ (omega (arith, count_fits (goal.at.returns c).After-digit_count-k)); len = c.digit_count-k.ensures; digits = c.write_digits.ensures.digits; rest = c.write_digits.ensures.rest }
