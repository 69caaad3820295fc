use Rattle.connections.proofs.WindowLaws as W
use Prim.Native.Nat.{ℕ, ◌-◌}
use native.Mathlib.Omega.{arith}
use mathlib.Core.Path.{sym, ap, ◌∙◌}
use Rattle.rules.proofs.Figures.{link_facts}
use Rattle.connections.proofs.tested.Tested.excess_of.Goals as goal

pub returns-then-from-sum : goal.returns-then-from-sum
returns-then-from-sum c =
    let a = c.args in
    let t = c.args.self.now in
    λ js S.
    ap (λ (w : ℕ). c.sum_of-sum.result - w) (c.from-then-from-sum.ensures ∙ sym c.from.ensures)
    ∙ W.excess_first a.self.now.link js a.m c.sum_of-sum.result c.from.result (c.sum_of-sum.ensures js S) (W.own_is a.self.now.link t.within.link_in c.requires.0 a.m c.requires.1 c.requires.2 _ (c.from.ensures ∙ c.window_of-w.ensures)) (omega arith)

pub overflow_sub-last : goal.overflow_sub-last
overflow_sub-last c =
    let a = c.args in
    let t = c.args.self.now in
    omega (arith, c.window_of-w.ensures, c.bound_of-d.ensures, W.window_low a.self.now.link t.within.link_in c.requires.0 a.m c.requires.1 c.requires.2)

pub descends-requires : goal.descends-requires
descends-requires c =
    let a = c.args in
    let t = c.args.self.now in
    (c.requires.0, c.requires.1, c.requires.2, omega (arith, W.left_is a.self.now.link t.within.link_in c.requires.0 a.m c.requires.1 c.requires.2 c.window_of-w.result c.bound_of-d.result c.window_of-w.ensures c.bound_of-d.ensures))

pub returns-then-descends : goal.returns-then-descends
returns-then-descends c =
    let a = c.args in
    let t = c.args.self.now in
    λ js S.
    W.excess_none a.self.now.link js a.m c.sum_of-sum.result c.from.result (c.sum_of-sum.ensures js S) (W.own_is a.self.now.link t.within.link_in c.requires.0 a.m c.requires.1 c.requires.2 _ (c.from.ensures ∙ c.window_of-w.ensures)) (omega arith)
    _ (W.left_is a.self.now.link t.within.link_in c.requires.0 a.m c.requires.1 c.requires.2 c.window_of-w.result c.bound_of-d.result c.window_of-w.ensures c.bound_of-d.ensures) (sym c.if-descends.true ∙ c.descends.ensures js S)

pub first_failing-i-requires : goal.first_failing-i-requires
first_failing-i-requires c =
    let a = c.args in
    let t = c.args.self.now in
    let q = W.left_is a.self.now.link t.within.link_in c.requires.0 a.m c.requires.1 c.requires.2 c.window_of-w.result c.bound_of-d.result c.window_of-w.ensures c.bound_of-d.ensures in
    (c.requires.0, c.requires.1, c.requires.2, omega (arith, q), λ js S. sym (c.descends.ensures js S) ∙ c.if-descends.false)

pub sum_of-requires : goal.sum_of-requires
sum_of-requires c =
    let a = c.args in
    let t = c.args.self.now in
    (c.requires.0, c.requires.1, c.requires.2, omega (arith, c.first_failing-i.ensures.0, W.left_is a.self.now.link t.within.link_in c.requires.0 a.m c.requires.1 c.requires.2 c.window_of-w.result c.bound_of-d.result c.window_of-w.ensures c.bound_of-d.ensures))

pub overflow_sub-d : goal.overflow_sub-d
overflow_sub-d c =
    let a = c.args in
    let t = c.args.self.now in
    let f = link_facts a.self.now.link t.within.link_in in
    omega (arith, c.bound_of-d.ensures, f.some_largest, f.largest_le a.m c.requires.1 c.requires.2, W.cost_is a.self.now.link)

pub returns : goal.returns
returns c =
    let a = c.args in
    let t = c.args.self.now in
    let i = c.first_failing-i in
    let sum = c.sum_of in
    λ js S.
    c.saturating_sub.ensures ∙ ap (λ (n : ℕ). sum.result - n) c.from-2.ensures
    ∙ W.excess_at a.self.now.link js a.m c.sum_of-sum.result c.from.result (c.sum_of-sum.ensures js S) (W.own_is a.self.now.link t.within.link_in c.requires.0 a.m c.requires.1 c.requires.2 _ (c.from.ensures ∙ c.window_of-w.ensures)) (omega arith)
    i.result sum.result c.bound_of-d.result (i.ensures.1 js S).0 (omega (arith, i.ensures.0, W.left_is a.self.now.link t.within.link_in c.requires.0 a.m c.requires.1 c.requires.2 c.window_of-w.result c.bound_of-d.result c.window_of-w.ensures c.bound_of-d.ensures)) c.bound_of-d.ensures (sum.ensures js S) (i.ensures.1 js S).1 (i.ensures.1 js S).2
