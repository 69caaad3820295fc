use Rattle.sound.proofs.PaceLaws as L
use Rattle.connections.specs.Members.{connections_in}
use Rattle.connections.proofs.WrittenLaws as W
use Rattle.connections.proofs.RegulatorLaws as G
use native.Mathlib.Omega.{arith}
use mathlib.Core.Path.{sym, ◌∙◌}
use Rattle.rules.proofs.Tests.{never}
use Rattle.sound.proofs.pace.pass_row.Goals as goal

pub member_at-m-requires : goal.member_at-m-requires
member_at-m-requires c = omega (arith, W.rows_length c.args.table.now c.requires.0, c.requires.1)

pub in_pace-requires : goal.in_pace-requires
in_pace-requires c = let m = G.member_facts c.args.h.link c.args.table.now c.args.p.connection _ c.requires.0 c.requires.1 c.requires.2 c.member_at-m.ensures in (m.few, m.regular, L.reserves c.args.h.link (connections_in c.args.table.now) c.requires.2 c.args.p.connection _ m.figures)

pub returns-then-not-in_pace : goal.returns-then-not-in_pace
returns-then-not-in_pace c =
    let m = G.member_facts c.args.h.link c.args.table.now c.args.p.connection _ c.requires.0 c.requires.1 c.requires.2 c.member_at-m.ensures in
    record { value = sym (c.if-not-in_pace.true) ∙ c.in_pace.ensures ∙ rw (m.figures, m.past); table_after = λ e. never e }

pub returns : goal.returns
returns c =
    let m = G.member_facts c.args.h.link c.args.table.now c.args.p.connection _ c.requires.0 c.requires.1 c.requires.2 c.member_at-m.ensures in
    record { value = sym (c.if-not-in_pace.false) ∙ c.in_pace.ensures ∙ rw (m.figures, m.past); table_after = λ e. c.put_past.ensures }
