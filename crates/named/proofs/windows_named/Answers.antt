-- `named::windows_named` meets its contract: the windows stand behind the eight bounds.
use Rattle.std.proofs.Common.{rules, ◌≡◌, length}
use Rattle.named.proofs.Eight.{eight_of, first_eight, some_behind}
use Rattle.named.proofs.windows_named.Goals as goal

pub returns : goal.returns
returns c =
    let ds = c.args.bounds in
    let ws = c.args.windows in
    let e : length ds ≡ 8 = search rules in
    let f : length ws ≡ 8 = search rules in
    rw (c.wide.ensures, c.stand_by_named.ensures, eight_of ds e, first_eight ds ws e, some_behind ds ws e, eight_of ws f)
