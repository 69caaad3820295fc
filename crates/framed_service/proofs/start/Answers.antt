-- `framed_service::start` meets its contract where the line is idle: it begins with what is chosen.
use mathlib.Core.Path.{ap, ◌∙◌}
use mathlib.Core.Option.{Option, none}
use Rattle.rules.specs.declared.Packet.{Packet}
use Rattle.rules.specs.Service.{begun}
use Rattle.frames.specs.Service.{first_eligible}
use Rattle.tables.specs.Places.{rows}
use Rattle.tables.proofs.OptionLaws.{read_back}
use Rattle.line.specs.Wires.{line_in, wire_of}
use Rattle.framed_service.proofs.start.Goals as goal

pub returns : goal.returns
returns c =
    let a = c.args in
    c.begin.ensures a.places.now
    ∙ ap (λ (o : Option Packet). wire_of (begun o none (line_in a.h.wire a.places.now a.notices.now)))
    (read_back (first_eligible a.h.clock (rows a.places.now)) c.choose.result c.choose.ensures)
