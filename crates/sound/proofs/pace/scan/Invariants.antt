use Rattle.std.proofs.Common.{◌≡◌, [], take, drop}
use Rattle.rules.specs.SoundTest.{paced}
use Rattle.tables.specs.Places.{rows}
use Rattle.connections.specs.Members.{connections_in}
use Rattle.sound.specs.Pace.{past_in, Remembers, past_with}
use Rattle.sound.proofs.pace.scan.Given as goal

abbrev pub invariant-loop-i : goal.invariant-loop-i
invariant-loop-i l =
    let t = l.initial.table in
    let ps = rows l.places.table.now in
    record {
      remembers : Remembers t l.table (past_with t (take l.i ps));
      rest : paced l.h.link (connections_in t) l.h.clock (past_in t) (take l.i ps) (drop l.i ps) ≡ paced l.h.link (connections_in t) l.h.clock (past_in t) [] ps;
    }
