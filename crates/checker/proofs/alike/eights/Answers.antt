use Rattle.std.proofs.Common.{rules, ◌≡◌, ◌∙◌, sym, ◌*◌, ◌≤◌, length, take, drop, ℕ, ◌+◌, ◌-◌, ◌/◌, eqb, arith, List, Bool}
use borrow.Author.Tests.{tests}
use Rattle.std.specs.List.{zip}
use Rattle.std.specs.Cmp.Lexicographic.{pointwise}
use Rattle.std.proofs.lemmas.Iterator.{YieldsList-from_slice, YieldsList-from_zip}
use Rattle.std.proofs.lemmas.Iterator.Search.{YieldsList-from_take_while}
use Rattle.std.proofs.lemmas.Iterator.Consumers.{count_from_yields_List}
use Rattle.std.proofs.lemmas.List.Folds.{length-prefix_len}
use Rattle.checker.proofs.AlikeLaws as L
use Rattle.checker.proofs.CommonLaws as C
use Rattle.checker.proofs.alike.eights.Goals as goal

pub returns : goal.returns
returns c =
    let a = c.args in
    let test : List ℕ × List ℕ → Bool = λ p. pointwise eqb p.0 p.1 in
    let ys = zip c.as_chunks.result.0.now c.as_chunks-2.result.0.now in
    let k = count_from_yields_List _ c.count.result c.count.ensures.ran (YieldsList-from_take_while _ test (YieldsList-from_zip (YieldsList-from_slice c.as_chunks.result.0.now cc) (YieldsList-from_slice c.as_chunks-2.result.0.now cc)) (cc) (cc) (λ x b q k. search (rules, tests))) ∙ length-prefix_len test ys in
    L.eights_are a.a.now a.b.now c.as_chunks.ensures.front c.as_chunks-2.ensures.front k
