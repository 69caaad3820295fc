use native.Mathlib.Omega.{arith}
use Rattle.sound.proofs.PartLaws as S
use Rattle.connections.proofs.WrittenLaws as W
use mathlib.Core.List.{[]}
use Rattle.state.specs.View.{tables}
use Rattle.sound.proofs.number_ok.Goals as goal

pub connection_at-x-requires : goal.connection_at-x-requires
connection_at-x-requires c = (W.rows_length c.args.members.now c.requires.0, c.requires.1)

pub is_free-requires : goal.is_free-requires
is_free-requires c = omega (arith, W.rows_length c.args.members.now c.requires.0, c.requires.1)

pub returns-then-x-eq0 : goal.returns-then-x-eq0
returns-then-x-eq0 c =
    S.number_free c.args.h (tables c.args.members.now [] []) c.args.c c.requires.0 c.requires.1 c.connection_at-x.ensures c.if-x-eq0.true c.is_free.ensures

pub returns : goal.returns
returns c =
    S.number_owned c.args.h (tables c.args.members.now [] []) c.args.c c.connection_at-x.ensures c.if-x-eq0.false c.connection_ok.ensures
