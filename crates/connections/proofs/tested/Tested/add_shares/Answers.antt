use Rattle.connections.proofs.FigureLaws as L
use Rattle.connections.proofs.SumLaws as S
use native.Mathlib.Omega.{arith}
use Prim.Native.Nat.{◌*◌}
use mathlib.Core.Path.{refl, subst}
use lib.ListN.{length-set}
use Rattle.rules.specs.declared.Connection.{Connection}
use Rattle.connections.specs.Members.{connections_in}
use Rattle.connections.specs.Within.{Added}
use Rattle.connections.proofs.tested.Tested.add_shares.Goals as goal

pub returns-then-x-eq0 : goal.returns-then-x-eq0
returns-then-x-eq0 c =
    let a = c.args in
    let s = c.args.self.now in
    let x = c.connection_at-x.result in
    let k = L.entry_limits s.link (connections_in s.members.now) s.within c.args.c x c.connection_at-x.ensures in
    subst (λ (y : Connection). Added s.link a.low y a.sums.now a.sums.now) c.connection_at-x.ensures
    (S.added_none s.link x (L.free_by_gap x k.free_blank k.owner_gap c.if-x-eq0.true) a.low a.sums.now)

pub cost_of-cost-requires : goal.cost_of-cost-requires
cost_of-cost-requires c =
    let s = c.args.self.now in
    let x = c.connection_at-x.result in
    let k = L.entry_limits s.link (connections_in s.members.now) s.within c.args.c x c.connection_at-x.ensures in
    (k.size_most, k.silence_most)

pub overflow_sub-x : goal.overflow_sub-x
overflow_sub-x c =
    let s = c.args.self.now in
    let x = c.connection_at-x.result in
    let k = L.entry_limits s.link (connections_in s.members.now) s.within c.args.c x c.connection_at-x.ensures in
    L.owner_by_gap x k.free_blank c.if-x-eq0.false

pub loop-k-init : goal.loop-k-init
loop-k-init c =
    let a = c.args in
    let s = c.args.self.now in
    let x = c.connection_at-x.result in
    let k = L.entry_limits s.link (connections_in s.members.now) s.within c.args.c x c.connection_at-x.ensures in
    let some = L.owner_by_gap x k.free_blank c.if-x-eq0.false in
    let e = c.max-k.ensures in
    (omega arith, c.requires.sums_len.0, S.added_start x s.link.bounds c.cost_of-cost.result a.low a.sums.now _ some e, omega arith)

pub bounds-sums-k : goal.bounds-sums-k
bounds-sums-k c =
    let s = c.args.self.now in
    let limits = L.link_limits s.link s.within.link_in in
    omega (arith, limits.levels_le, c.loop-k.invariant.1)

pub bounds-self-k : goal.bounds-self-k
bounds-self-k c =
    let s = c.args.self.now in
    let limits = L.link_limits s.link s.within.link_in in
    omega (arith, limits.levels_le)

pub bounds-sums-k-in-loop-k : goal.bounds-sums-k-in-loop-k
bounds-sums-k-in-loop-k c =
    let s = c.args.self.now in
    let limits = L.link_limits s.link s.within.link_in in
    omega (arith, limits.levels_le, c.loop-k.invariant.1)

pub loop-k-preserved : goal.loop-k-preserved
loop-k-preserved c =
    let inv = c.loop-k.invariant in
    let a = c.args in
    let s = a.self.now in
    let x = c.connection_at-x.result in
    let i = c.loop-k.k in
    let v = c.count_in.result in
    let price = c.cost_of-cost.result in
    let fits = L.share_fits v price (omega (arith, c.count_in.ensures.1, S.bounds_most s.link s.within.link_in s.link.bounds refl i)) c.cost_of-cost.ensures.1 in (
      omega (arith, inv.0),
      simp length-set inv.1,
      S.added_next (S.shares x s.link.bounds price) a.low a.sums.now _ i (v * price) inv.2 (omega (arith, (L.link_limits s.link s.within.link_in).levels_le, inv.1))
          (S.share_here x s.link.bounds price i v (omega (arith, inv.0)) c.count_in.ensures.0) fits,
      omega (arith, inv.3),
    )

pub returns : goal.returns
returns c =
    let a = c.args in
    let s = a.self.now in
    let x = c.connection_at-x.result in
    subst (λ (y : Connection). Added s.link a.low y a.sums.now c.loop-k.sums) c.connection_at-x.ensures
    (S.added_end s.link x (S.shares x s.link.bounds c.cost_of-cost.result) a.low a.sums.now _ c.loop-k.k c.loop-k.invariant.2 (omega arith)
    (S.shares_are s.link x s.link.bounds _ refl c.cost_of-cost.ensures.0))
