use Rattle.sound.proofs.PaceLaws as L
use Rattle.connections.specs.Members.{connections_in}
use Rattle.connections.proofs.RegulatorLaws as G
use Rattle.connections.proofs.WrittenLaws as W
use native.Mathlib.Omega.{arith}
use Rattle.sound.proofs.pace.left_ok.Goals as goal

pub connection_at-x-requires : goal.connection_at-x-requires
connection_at-x-requires c = (W.rows_length c.args.table.now c.requires.0, c.requires.1)

pub returns-then-x-eq0 : goal.returns-then-x-eq0
returns-then-x-eq0 c = L.nothing_asked c.args.h c.args.table.now c.args.c c.args.n _ c.connection_at-x.ensures c.if-x-eq0.true

pub reserve-requires : goal.reserve-requires
reserve-requires c =
    L.reserves c.args.h.link (connections_in c.args.table.now) c.requires.2 c.args.c _ c.connection_at-x.ensures

pub returns-then-reserve-from : goal.returns-then-reserve-from
returns-then-reserve-from c =
    L.too_many c.args.h c.args.table.now c.args.c c.args.n _ c.connection_at-x.ensures c.if-x-eq0.false _ c.reserve.ensures.0 (omega (arith, c.from.ensures))

pub member_at-m-requires : goal.member_at-m-requires
member_at-m-requires c = omega (arith, W.rows_length c.args.table.now c.requires.0, c.requires.1)

pub last_left-requires : goal.last_left-requires
last_left-requires c =
    L.reserves c.args.h.link (connections_in c.args.table.now) c.requires.2 c.args.c _ c.connection_at-x.ensures

pub left_in_time-requires : goal.left_in_time-requires
left_in_time-requires c =
    let m = G.member_facts c.args.h.link c.args.table.now c.args.c _ c.requires.0 c.requires.1 c.requires.2 c.member_at-m.ensures in
    (m.shape, m.regular)

pub returns : goal.returns
returns c =
    let m = G.member_facts c.args.h.link c.args.table.now c.args.c _ c.requires.0 c.requires.1 c.requires.2 c.member_at-m.ensures in
    L.not_too_many c.args.h c.args.table.now c.args.c c.args.n _ c.connection_at-x.ensures c.if-x-eq0.false _ c.reserve.ensures.0 (omega (arith, c.from.ensures)) _ c.last_left.ensures _ _ m.figures m.past _ c.left_in_time.ensures
