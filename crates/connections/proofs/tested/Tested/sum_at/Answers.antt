use Rattle.connections.proofs.FigureLaws as L
use native.Mathlib.Omega.{arith}
use Rattle.rules.specs.Admission.{cost}
use Rattle.connections.proofs.tested.Tested.sum_at.Goals as goal

pub bounds-sums-m : goal.bounds-sums-m
bounds-sums-m c = let s = c.args.self.now in omega (arith, (L.link_limits s.link s.within.link_in).levels_le)

pub share-requires : goal.share-requires
share-requires c =
    let s = c.args.self.now in
    let limits = L.link_limits s.link s.within.link_in in
    let k = limits.bounds_le c.args.m in
    (λ z. absurd (omega (arith, s.level_in)), λ n. s.gap_in, omega (arith, c.bound_of-d.ensures), s.size_in, limits.silence_le)

pub cost_of-requires : goal.cost_of-requires
cost_of-requires c =
    let s = c.args.self.now in
    let limits = L.link_limits s.link s.within.link_in in
    (omega (arith, limits.largest_le), limits.silence_le)

pub returns : goal.returns
unfolding cost
returns c = rw (c.cost_of.ensures.0, c.share.ensures.0, c.bound_of-d.ensures)
