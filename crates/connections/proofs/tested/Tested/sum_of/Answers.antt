use Rattle.connections.proofs.WindowLaws as W
use Rattle.connections.proofs.FigureLaws as L
use native.Mathlib.Omega.{arith}
use Rattle.rules.proofs.Figures.{link_facts}
use Rattle.connections.specs.Members.{connections_in}
use Rattle.connections.proofs.tested.Tested.sum_of.Goals as goal

pub urgent_span-urgent-requires : goal.urgent_span-urgent-requires
urgent_span-urgent-requires c =
    let f = (link_facts c.args.self.now.link c.args.self.now.within.link_in).window_in c.args.m c.requires.1 c.requires.2 in
    omega (arith, c.bound_of-d.ensures, f.0, f.1, c.requires.3)

pub load_seen-requires : goal.load_seen-requires
load_seen-requires c =
    let a = c.args in
    let k = W.spans_fit a.self.now.link c.args.self.now.within.link_in c.requires.0 a.m c.requires.1 c.requires.2 c.window_of-w.result a.i c.bound_of-d.result c.own_span-own.result c.urgent_span-urgent.result c.window_of-w.ensures c.requires.3 c.own_span-own.ensures c.urgent_span-urgent.ensures in
    (k.0, k.1)

pub share_seen-requires : goal.share_seen-requires
share_seen-requires c =
    let a = c.args in
    let k = W.spans_fit a.self.now.link c.args.self.now.within.link_in c.requires.0 a.m c.requires.1 c.requires.2 c.window_of-w.result a.i c.bound_of-d.result c.own_span-own.result c.urgent_span-urgent.result c.window_of-w.ensures c.requires.3 c.own_span-own.ensures c.urgent_span-urgent.ensures in
    (λ z. absurd (omega (arith, c.args.self.now.level_in)), λ n. c.args.self.now.gap_in, k.0, k.1, c.args.self.now.size_in, (L.link_limits a.self.now.link c.args.self.now.within.link_in).silence_le)

pub cost_of-requires : goal.cost_of-requires
cost_of-requires c =
    let k = L.link_limits c.args.self.now.link c.args.self.now.within.link_in in
    (omega (arith, k.largest_le), k.silence_le)

pub returns : goal.returns
returns c =
    let a = c.args in
    λ js S.
    W.sum_seen a.self.now.link (connections_in a.self.now.members.now) js a.self.now.newcomer S a.m a.i c.requires.2 c.requires.0 c.bound_of-d.result c.window_of-w.result c.own_span-own.result c.urgent_span-urgent.result c.load_seen.result c.share_seen.result c.cost_of.result
    c.bound_of-d.ensures c.window_of-w.ensures c.own_span-own.ensures c.urgent_span-urgent.ensures c.load_seen.ensures.0 c.share_seen.ensures.0 c.cost_of.ensures.0
