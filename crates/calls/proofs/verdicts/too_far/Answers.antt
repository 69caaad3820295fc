use Prim.Native.Nat.{◌+◌, ◌<◌}
use native.Mathlib.Omega.{arith}
use mathlib.Core.Path.{sym, subst}
use Rattle.rules.specs.declared.Connection.{Connection}
use Rattle.rules.specs.Limits.{beyond_32_bits}
use Rattle.rules.specs.Admission.{distance}
use Rattle.tables.specs.Options.{option_in}
use Rattle.connections.proofs.WrittenLaws.{rows_length}
use Rattle.connections.proofs.FigureLaws.{entry_limits}
use Rattle.connections.proofs.RegulatorLaws.{member_facts}
use Rattle.calls.proofs.VerdictLaws as W
use Rattle.calls.proofs.verdicts.too_far.Goals as goal

pub returns-then-not-is_on : goal.returns-then-not-is_on
returns-then-not-is_on c =
    let a = c.args in
    W.far_off a.l a.members.now a.c a.clock (option_in a.stamp) c.is_on.result c.is_on.ensures (c.if-not-is_on.true)

pub member_at-m-requires : goal.member_at-m-requires
member_at-m-requires c = omega (arith, c.requires.1, rows_length c.args.members.now c.requires.0)

pub eligibility_by-e-requires : goal.eligibility_by-e-requires
eligibility_by-e-requires c =
    let m = member_facts c.args.l c.args.members.now c.args.c c.member_at-m.result c.requires.0 c.requires.1 c.requires.3 c.member_at-m.ensures in
    (m.few, m.regular)

pub farthest-requires : goal.farthest-requires
farthest-requires c =
    let m = member_facts c.args.l c.args.members.now c.args.c c.member_at-m.result c.requires.0 c.requires.1 c.requires.3 c.member_at-m.ensures in
    let e = entry_limits c.args.l _ c.requires.3 c.args.c _ m.figures in
    (e.free_blank, e.owner_gap, e.reach_fits, subst (λ (x : Connection). c.args.clock + distance c.args.l x < beyond_32_bits) (sym m.figures) c.requires.2)

pub returns : goal.returns
returns c =
    let a = c.args in
    let m = member_facts a.l a.members.now a.c c.member_at-m.result c.requires.0 c.requires.1 c.requires.3 c.member_at-m.ensures in
    let on = c.is_on in
    W.far_on a.l a.members.now a.c a.clock (option_in a.stamp) on.result on.ensures (c.if-not-is_on.false) c.member_at-m.result m c.farthest.result c.eligibility_by-e.result c.farthest.ensures c.eligibility_by-e.ensures
