-- `fields::Draft::pairs` meets its contract: the draft holds the numbers passed so far.
use Rattle.std.proofs.Common.{arith, rules, sym, ap, ◌∙◌, length, take, replicate, get_or, append_assoc, append-nil, add-one, length-append}
use Rattle.fields.specs.Numbers.{little, put_fields}
use Rattle.fields.proofs.NumberLaws.{length_put, sum_pairs}
use Rattle.fields.proofs.DraftLaws.{put_snoc}
use Rattle.fields.proofs.Draft.pairs.Goals as goal

pub loop-number-init : goal.loop-number-init
unfolding put_fields
loop-number-init c = sym (append-nil c.args.self)

pub push_two-requires : goal.push_two-requires
push_two-requires c =
    let i = c.loop-number.number-index in
    let xs = take i c.args.numbers.now in
    let e = ap length c.loop-number.invariant ∙ length-append c.args.self (put_fields (replicate i 2) xs) in
    omega (arith, e, length_put (replicate i 2) xs, sum_pairs i)

pub loop-number-preserved : goal.loop-number-preserved
loop-number-preserved c =
    let i = c.loop-number.number-index in
    let xs = c.args.numbers.now in
    rw (add-one i, put_snoc i xs (search rules), c.push_two.ensures, c.loop-number.invariant)
    (append_assoc c.args.self (put_fields (replicate i 2) (take i xs)) (little 2 (get_or xs i 0)))
