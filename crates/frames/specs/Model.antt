-- What the rules of the second discipline speak of: the state of a framed line, the calls on it and their answers. Document 02, R-13.
use Rattle.std.specs.Prelude.{ℕ, List, [], get_or}
use Rattle.rules.specs.declared.Packet.{Packet}
use Rattle.rules.specs.declared.Notice.{Notice}
use Rattle.rules.specs.Model.{Outcome}
use Rattle.rules.specs.Service.{Wire}
pub use Rattle.frames.specs.declared.Framing.{Framing}
pub use Rattle.frames.specs.declared.Share.{Share}

-- `link` has frame length 0 while none is set. `connections` by number, in the order admitted: none is ever freed. `held` in the order offered. The packet in service is the first
-- held one of connection `serving`, with `to_go` units to go; `to_go` is 0 while the line is idle. `notices` are R-1's queue, the first of them in service where `serving` is
-- their number; `silent` is R-4's silence still to run, in ticks. What a connection has used of its units in this frame is not kept: it is read from its rows (`used`, Service)
pub record State : Type 0 where
  pub link : Framing
  pub connections : List Share
  pub clock : ℕ
  pub held : List Packet
  pub notices : List Notice
  pub serving : ℕ
  pub to_go : ℕ
  pub silent : ℕ

-- the five calls: "connections don't close here". An offer names its connection, its length and its tag; a notice its length and its tag
pub data Call : Type 0 where
  link : Framing → Call
  admit : Share → Call
  offer : ℕ → ℕ → ℕ → Call
  notice : ℕ → ℕ → Call
  tick : Call

-- its `short`, of an admission that is refused with 8: level 0 and the units by which the frame is over (document 02, R-2)
abbrev pub Answer : Type 0
Answer = Outcome State

-- the fresh line: everything is zero
abbrev pub fresh : State
fresh = record { link = record { frame = 0; largest = 0; silence = 0 }; connections = []; clock = 0; held = []; notices = []; serving = 0; to_go = 0; silent = 0 }

-- connection c; zeros where there is none
abbrev pub nth : List Share → ℕ → Share
nth cs c = get_or cs c (record { units = 0; places = 0 })

abbrev pub figures : State → ℕ → Share
figures s c = nth s.connections c

-- the line and what waits for it
abbrev pub wire : State → Wire
wire s = record { held = s.held; notices = s.notices; serving = s.serving; to_go = s.to_go; silent = s.silent }

-- the state with some parts given anew: link and connections, what waits, or the clock and the line. No other text writes a whole state out
abbrev pub with_link : State → Framing → List Share → State
with_link s l cs = record { link = l; connections = cs; clock = s.clock; held = s.held; notices = s.notices; serving = s.serving; to_go = s.to_go; silent = s.silent }

abbrev pub with_rows : State → List Packet → List Notice → State
with_rows s ps ns = record { link = s.link; connections = s.connections; clock = s.clock; held = ps; notices = ns; serving = s.serving; to_go = s.to_go; silent = s.silent }

abbrev pub with_wire : State → ℕ → Wire → State
with_wire s t w = record { link = s.link; connections = s.connections; clock = t; held = w.held; notices = w.notices; serving = w.serving; to_go = w.to_go; silent = w.silent }
