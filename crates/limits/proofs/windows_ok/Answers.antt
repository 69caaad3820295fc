use Rattle.std.proofs.Common.{◌≡◌, ◌∙◌, sym, take, arith}
use Rattle.std.specs.List.{list_all, zip}
use Rattle.std.proofs.lemmas.Iterator.{YieldsList-from_slice, YieldsList-from_zip}
use Rattle.std.proofs.lemmas.Iterator.Search.{all_from_yields_List}
use borrow.Author.Rules.{rules}
use borrow.Author.Tests.{tests}
use Rattle.limits.proofs.LimitLaws as L
use Rattle.limits.proofs.windows_ok.Goals as goal

pub returns-then-all : goal.returns-then-all
returns-then-all c =
    let a = c.args in
    let fit : c.all.result ≡ list_all L.window_fits (zip (take a.n a.bounds) (take a.n a.windows)) =
    all_from_yields_List L.window_fits c.all.new.self _ c.all.result c.all.ensures.ran (YieldsList-from_zip (YieldsList-from_slice (take a.n a.bounds) cc) (YieldsList-from_slice (take a.n a.windows) cc)) (λ x b q k. search (rules, tests)) in
    c.zero_from.ensures ∙ L.all_fit a.n a.bounds a.windows (omega arith) (omega arith) (sym fit ∙ c.if-all.true)

pub returns-else-all : goal.returns-else-all
returns-else-all c =
    let a = c.args in
    let fit : c.all.result ≡ list_all L.window_fits (zip (take a.n a.bounds) (take a.n a.windows)) =
    all_from_yields_List L.window_fits c.all.new.self _ c.all.result c.all.ensures.ran (YieldsList-from_zip (YieldsList-from_slice (take a.n a.bounds) cc) (YieldsList-from_slice (take a.n a.windows) cc)) (λ x b q k. search (rules, tests)) in
    c.if-all.false ∙ L.one_not a.n a.bounds a.windows (omega arith) (omega arith) (sym fit ∙ c.if-all.false)
