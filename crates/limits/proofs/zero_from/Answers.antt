use Rattle.std.proofs.Common.{ap, ◌≡◌, ◌∙◌, sym, eqb}
use borrow.Author.Tests.{tests}
use borrow.Author.Rules.{rules}
use Rattle.std.proofs.lemmas.Iterator.{YieldsList-from_slice}
use Rattle.std.proofs.lemmas.Iterator.Search.{all_from_yields_List}
use Rattle.std.specs.List.{list_all}
use Rattle.limits.specs.Zeros.{zeros}
use Rattle.limits.proofs.ZeroLaws as L
use Rattle.limits.proofs.zero_from.Goals as goal

pub returns-then-all : goal.returns-then-all
returns-then-all c =
    let a = c.args in
    let blocks : c.all.result ≡ list_all zeros c.as_chunks.result.0.now =
    all_from_yields_List zeros _ _ c.all.result c.all.ensures.ran (YieldsList-from_slice c.as_chunks.result.0.now cc) (λ x b q k. search (rules, tests)) in
    let rest : c.all-then-all.result ≡ zeros c.as_chunks.result.1.now =
    all_from_yields_List (λ x. eqb x 0) _ _ c.all-then-all.result c.all-then-all.ensures.ran (YieldsList-from_slice c.as_chunks.result.1.now cc) (λ x b q k. search (rules, tests)) in
    rest ∙ ap zeros c.as_chunks.ensures.back ∙ L.blocks_zero a.t.now a.from _ (ap (list_all zeros) (sym c.as_chunks.ensures.front) ∙ sym blocks ∙ c.if-all.true)

pub returns-else-all : goal.returns-else-all
returns-else-all c =
    let a = c.args in
    let blocks : c.all.result ≡ list_all zeros c.as_chunks.result.0.now =
    all_from_yields_List zeros _ _ c.all.result c.all.ensures.ran (YieldsList-from_slice c.as_chunks.result.0.now cc) (λ x b q k. search (rules, tests)) in
    c.if-all.false ∙ L.block_stop a.t.now a.from _ (ap (list_all zeros) (sym c.as_chunks.ensures.front) ∙ sym blocks ∙ c.if-all.false)
