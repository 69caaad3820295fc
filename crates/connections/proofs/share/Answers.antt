use Rattle.connections.proofs.FigureLaws as L
use native.Mathlib.Omega.{arith}
use mathlib.Core.Path.{◌≡◌, sym, ap, ◌∙◌}
use Prim.Native.Nat.{◌+◌}
use Rattle.connections.specs.Within.{share_of}
use borrow.Author.Rules.{rules}
use Rattle.connections.proofs.share.Goals as goal

pub returns-then-x-eq0 : goal.returns-then-x-eq0
returns-then-x-eq0 c =
    let a = c.args in
    (sym (ap (share_of a.l a.m a.w) (c.requires.0 c.if-x-eq0.true) ∙ L.share_free a.l a.m a.w), search rules)

pub returns-then-m-x : goal.returns-then-m-x
returns-then-m-x c = let a = c.args in (L.share_none a.l a.m a.w a.x (search rules), search rules)

pub returns : goal.returns
returns c =
    let a = c.args in
    let e : c.cost_of.result ≡ a.x.size + a.l.silence = c.cost_of.ensures.0 in
    (rw (c.count_in.ensures.0, e) (L.share_is a.l a.m a.w a.x (search rules)), L.share_fits c.count_in.result c.cost_of.result (omega arith) (omega arith))
