use Rattle.checker.proofs.CompareLaws.{alike_fits, compares_none, compares_some}
use Prim.Native.Nat.{◌+◌}
use Rattle.turns.proofs.TurnLaws.{length_window, window_drop}
use mathlib.Core.Path.{◌∙◌}
use native.Mathlib.Omega.{arith}
use Rattle.checker.proofs.compare.Goals as goal

pub returns-then-p : goal.returns-then-p
returns-then-p g c =
    let p = c.fetch-p in
    let w = length_window p.new.log p.result.from p.result.to p.ensures.inside.order (omega (arith, p.ensures.inside.inside, p.auto.log)) in
    record {
      compares = compares_none c.args.c _ _ p.result.read _ p.ensures.fetched _ _ _ _ _ (omega (arith, w)) c.without_more.ensures;
      inside = (c.requires.0, p.ensures.inside);
    }

pub overflow_add-result : goal.overflow_add-result
overflow_add-result g c =
    let a = c.args in
    let p = c.fetch-p in
    let f = alike_fits p.new.log a.out.now p.result.from p.result.to a.c.met a.c.wrote c.alike-k.result c.alike-k.ensures p.ensures.inside.order (omega (arith, p.ensures.inside.inside, p.auto.log)) c.requires.0.order c.requires.0.inside in
    omega (arith, f, c.requires.2)

pub overflow_add-met : goal.overflow_add-met
overflow_add-met g c =
    let a = c.args in
    let p = c.fetch-p in
    let f = alike_fits p.new.log a.out.now p.result.from p.result.to a.c.met a.c.wrote c.alike-k.result c.alike-k.ensures p.ensures.inside.order (omega (arith, p.ensures.inside.inside, p.auto.log)) c.requires.0.order c.requires.0.inside in
    omega (arith, f)

pub overflow_sub-c : goal.overflow_sub-c
overflow_sub-c g c =
    let a = c.args in
    let p = c.fetch-p in
    let f = alike_fits p.new.log a.out.now p.result.from p.result.to a.c.met a.c.wrote c.alike-k.result c.alike-k.ensures p.ensures.inside.order (omega (arith, p.ensures.inside.inside, p.auto.log)) c.requires.0.order c.requires.0.inside in
    omega (arith, f)

pub overflow_add-from : goal.overflow_add-from
overflow_add-from g c =
    let a = c.args in
    let p = c.fetch-p in
    let f = alike_fits p.new.log a.out.now p.result.from p.result.to a.c.met a.c.wrote c.alike-k.result c.alike-k.ensures p.ensures.inside.order (omega (arith, p.ensures.inside.inside, p.auto.log)) c.requires.0.order c.requires.0.inside in
    omega (arith, f)

pub overflow_sub-p : goal.overflow_sub-p
overflow_sub-p g c =
    let a = c.args in
    let p = c.fetch-p in
    let f = alike_fits p.new.log a.out.now p.result.from p.result.to a.c.met a.c.wrote c.alike-k.result c.alike-k.ensures p.ensures.inside.order (omega (arith, p.ensures.inside.inside, p.auto.log)) c.requires.0.order c.requires.0.inside in
    omega (arith, f)

pub returns : goal.returns
returns g c =
    let a = c.args in
    let p = c.fetch-p in
    let f = alike_fits p.new.log a.out.now p.result.from p.result.to a.c.met a.c.wrote c.alike-k.result c.alike-k.ensures p.ensures.inside.order (omega (arith, p.ensures.inside.inside, p.auto.log)) c.requires.0.order c.requires.0.inside in
    let w = length_window p.new.log p.result.from p.result.to p.ensures.inside.order (omega (arith, p.ensures.inside.inside, p.auto.log)) in
    let d = window_drop p.new.log p.result.from p.result.to c.alike-k.result p.ensures.inside.order in
    let h = window_drop a.out.now a.c.met a.c.wrote c.alike-k.result c.requires.0.order in
    let i = length_window a.out.now (a.c.met + c.alike-k.result) a.c.wrote f.1 c.requires.0.inside in
    let j = length_window p.new.log (p.result.from + c.alike-k.result) p.result.to f.0 (omega (arith, p.ensures.inside.inside, p.auto.log)) in
    record {
      compares = compares_some a.c _ _ p.result.read _ p.ensures.fetched _ _ _ _ c.alike-k.result _ _ _ c.alike-k.ensures (omega (arith, w, c.if-p.false, p.ensures.inside.order)) h d (c.with_more.ensures ∙ rw (i, j));
      inside = (record { room = c.requires.0.room; order = f.1; inside = c.requires.0.inside }, record { room = p.ensures.inside.room; order = f.0; inside = p.ensures.inside.inside });
    }
