-- `fields::Draft::into_room` meets its contract: the bytes go into the room where they fit.
use Rattle.std.proofs.Common.{arith, rules, sym, ap, ◌∙◌, ◌++◌, drop}
use Rattle.fields.proofs.DraftLaws.{count_held, no_room, room_enough}
use Rattle.fields.proofs.Draft.into_room.Goals as goal

pub returns-then-room-n : goal.returns-then-room-n
returns-then-room-n c =
    let d = c.self.inside in
    let e = count_held d.len d.bytes c.args.self c.self.view_is (search rules) in
    no_room c.args.self c.args.room.now (omega arith)

pub returns : goal.returns
returns c =
    let d = c.self.inside in
    let room = c.args.room.now in
    let e = count_held d.len d.bytes c.args.self c.self.view_is (search rules) in
    let w = room_enough c.args.self room (omega arith) in (
      sym e ∙ w.0,
      ap (λ l. l ++ drop d.len room) (c.copy_from_slice.ensures.after ∙ c.self.view_is) ∙ ap (λ n. c.args.self ++ drop n room) (sym e) ∙ w.1,
    )
