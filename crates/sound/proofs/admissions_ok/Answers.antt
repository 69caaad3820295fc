use Prim.Native.Nat.{ℕ}
use mathlib.Core.Path.{sym, ap, ◌∙◌}
use mathlib.Core.List.{[]}
use lib.Dec.{leb}
use Rattle.rules.specs.Limits.{max_reserved}
use Rattle.connections.proofs.WrittenLaws as W
use Rattle.state.specs.View.{tables}
use Rattle.sound.proofs.PartLaws as S
use mathlib.Core.Bool.{not}
use Rattle.sound.proofs.admissions_ok.Goals as goal

pub returns-then-not-link_ok : goal.returns-then-not-link_ok
returns-then-not-link_ok c =
    λ p q. S.stops _ c.link_ok.ensures (ap not c.if-not-link_ok.true) ∙ sym (S.admissions_read c.args.h (tables c.args.members.now p q))

pub numbers_ok-requires : goal.numbers_ok-requires
numbers_ok-requires c = W.members_rows c.args.members.now c.requires

pub returns-then-not-numbers_ok : goal.returns-then-not-numbers_ok
returns-then-not-numbers_ok c =
    λ p q.
    S.passes_on c.link_ok.ensures (ap not c.if-not-link_ok.false) (S.stops _ (c.numbers_ok.ensures p q) (ap not c.if-not-numbers_ok.true))
    ∙ sym (S.admissions_read c.args.h (tables c.args.members.now p q))

pub tests_ok-requires : goal.tests_ok-requires
tests_ok-requires c =
    (c.requires, S.figures_safe c.args.h (tables c.args.members.now [] []) (S.holds c.link_ok.ensures (ap not c.if-not-link_ok.false)) (S.holds (c.numbers_ok.ensures [] []) (ap not c.if-not-numbers_ok.false)))

pub returns-then-not-tests_ok : goal.returns-then-not-tests_ok
returns-then-not-tests_ok c =
    λ p q.
    S.passes_on c.link_ok.ensures (ap not c.if-not-link_ok.false)
    (S.passes_on (c.numbers_ok.ensures p q) (ap not c.if-not-numbers_ok.false) (S.stops _ c.tests_ok.ensures (ap not c.if-not-tests_ok.true)))
    ∙ sym (S.admissions_read c.args.h (tables c.args.members.now p q))

pub used-requires : goal.used-requires
used-requires c = W.members_long c.args.members.now c.requires

pub reserved_by-requires : goal.reserved_by-requires
reserved_by-requires c =
    let u = S.used_facts c.args.members.now c.requires c.used.ensures in
    (W.members_long c.args.members.now c.requires, u.0, u.1, S.figures_safe c.args.h (tables c.args.members.now [] []) (S.holds c.link_ok.ensures (ap not c.if-not-link_ok.false)) (S.holds (c.numbers_ok.ensures [] []) (ap not c.if-not-numbers_ok.false)))

pub returns : goal.returns
returns c =
    let most = ap (λ (k : ℕ). leb k max_reserved) c.reserved_by.ensures.0 in
    λ p q.
    S.passes_on c.link_ok.ensures (ap not c.if-not-link_ok.false)
    (S.passes_on (c.numbers_ok.ensures p q) (ap not c.if-not-numbers_ok.false) (S.passes_on c.tests_ok.ensures (ap not c.if-not-tests_ok.false) most))
    ∙ sym (S.admissions_read c.args.h (tables c.args.members.now p q))
