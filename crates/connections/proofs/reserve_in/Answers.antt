use Rattle.connections.proofs.FigureLaws as L
use borrow.Author.Rules.{rules}
use Rattle.connections.proofs.reserve_in.Goals as goal

pub returns-then-x-eq0 : goal.returns-then-x-eq0
returns-then-x-eq0 c =
    let a = c.args in
    (L.none_free a.x _ (L.free_by_gap a.x c.requires.0 c.requires.1 c.if-x-eq0.true), search rules)
