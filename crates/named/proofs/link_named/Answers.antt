-- `named::link_named` meets its contract: the bounds are eight, and no window stands behind them.
use Rattle.std.proofs.Common.{rules, ◌≡◌, length}
use Rattle.named.proofs.Eight.{eight_of, none_behind}
use Rattle.named.proofs.link_named.Goals as goal

pub returns : goal.returns
returns c =
    let ds = c.args.bounds in
    let e : length ds ≡ 8 = search rules in
    rw (c.wide.ensures, eight_of ds e, none_behind ds e)
