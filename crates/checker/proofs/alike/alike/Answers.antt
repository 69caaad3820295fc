use Rattle.std.proofs.Common.{rules, ◌≡◌, ◌∙◌, sym, ◌*◌, ◌≤◌, length, take, drop, ℕ, ◌+◌, ◌-◌, ◌/◌, eqb, arith, List, Bool}
use borrow.Author.Tests.{tests}
use Rattle.std.specs.List.{zip}
use Rattle.std.specs.Cmp.Lexicographic.{pointwise}
use Rattle.std.proofs.lemmas.Iterator.{YieldsList-from_slice, YieldsList-from_zip}
use Rattle.std.proofs.lemmas.Iterator.Search.{YieldsList-from_take_while}
use Rattle.std.proofs.lemmas.Iterator.Consumers.{count_from_yields_List}
use Rattle.std.proofs.lemmas.List.Folds.{length-prefix_len}
use Rattle.checker.proofs.AlikeLaws as L
use Rattle.checker.proofs.CommonLaws as C
use Rattle.checker.proofs.alike.alike.Goals as goal

pub returns : goal.returns
returns c =
    let a = c.args in
    let m = c.eights-met.result * 8 in
    let x = take (length a.a.now - m) (drop m a.a.now) in
    let y = take (length a.b.now - m) (drop m a.b.now) in
    let test : ℕ × ℕ → Bool = λ p. eqb p.0 p.1 in
    let k = count_from_yields_List _ c.count.result c.count.ensures.ran (YieldsList-from_take_while _ test (YieldsList-from_zip (YieldsList-from_slice x cc) (YieldsList-from_slice y cc)) (cc) (cc) (λ x b q k. search (rules, tests))) ∙ length-prefix_len test (zip x y) ∙ L.bytes_common x y in
    let e = c.eights-met.ensures in
    L.rest_common a.a.now a.b.now m e.0 e.1 e.2 k
