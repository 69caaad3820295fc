-- What the rules speak of: the state of a hub, the calls on it and their answers. Document 01, "Link, connections, places"; document 02, R-1,
-- R-2, R-4, R-6, R-8, R-9, R-11 and R-12.
use Rattle.std.specs.Prelude.{ℕ, Bool, false, List, [], ◌∷◌, get_or, replicate}
use Rattle.std.proofs.Math.Option.{Option, none, some}
use Rattle.rules.specs.Limits.{max_levels, max_connections, notice_number}
pub use Rattle.rules.specs.declared.Link.{Link}
pub use Rattle.rules.specs.declared.Connection.{Connection}
pub use Rattle.rules.specs.declared.Packet.{Packet}
pub use Rattle.rules.specs.declared.Notice.{Notice}
pub use Rattle.rules.specs.declared.Short.{Short}

-- what is remembered of a connection's accepted packets: the eligibilities of the last ones, newest first (document 02, R-6)
abbrev pub Past : Type 0
Past = List ℕ

-- `link` has 0 levels while none is set. `connections` by number, one entry for each number, `no_connection` where it is free; `pasts` beside them, and
-- `closed`, whether the owner is closed and still charged (document 02, R-8). `held` in the order offered. The packet in service is the first held one of
-- connection `serving`, with `to_go` units to go; `to_go` is 0 while the line is idle. `notices` are the housekeeping packets that wait, in the order
-- offered; the first of them is in service where `serving` is their number. `silent` is the silence still to run, in ticks
pub record State : Type 0 where
  pub link : Link
  pub connections : List Connection
  pub pasts : List Past
  pub closed : List Bool
  pub clock : ℕ
  pub held : List Packet
  pub notices : List Notice
  pub serving : ℕ
  pub to_go : ℕ
  pub silent : ℕ

-- the six calls; an offer names its connection, its length, its tag and, if it brings one, its stamp: its eligibility at the hub before (document 02, R-9);
-- a notice names its length and its tag, a close its connection
pub data Call : Type 0 where
  link : Link → Call
  admit : Connection → Call
  offer : ℕ → ℕ → ℕ → Option ℕ → Call
  notice : ℕ → ℕ → Call
  close : ℕ → Call
  tick : Call

-- no level is short
abbrev pub no_short : Short
no_short = record { level = 0; units = 0 }

-- `number`: the connection that an admission gives, the eligibility that an offer or a notice gives, else 0. `short`: what the level test said of an
-- admission that is refused for it. `departed`: the packet that a tick sends off, if it does
-- `next`: the state that is left, of whichever discipline
pub record Outcome (State : Type 0) : Type 0 where
  pub verdict : ℕ
  pub number : ℕ
  pub short : Short
  pub departed : Option Packet
  pub next : State

-- done: verdict 0, with a number, the packet that departs, if one does, and the state that is left
abbrev pub done_with : {State : Type 0} → ℕ → Option Packet → State → Outcome State
done_with n o s = record { verdict = 0; number = n; short = no_short; departed = o; next = s }

abbrev pub Answer : Type 0
Answer = Outcome State

-- what a link without windows has for them (document 02, R-12)
abbrev pub no_windows : List ℕ
no_windows = replicate max_levels 0

abbrev pub no_link : Link
no_link = record { levels = 0; largest = 0; silence = 0; early = 0; bounds = replicate max_levels 0; windows = no_windows }

abbrev pub no_connection : Connection
no_connection = record { level = 0; gap = 0; size = 0; window = 0; average = 0; kind = 0; allowance = 0 }

abbrev pub no_past : Past
no_past = []

-- the fresh hub: everything is zero, every number is free
abbrev pub fresh : State
fresh = record { link = no_link; connections = replicate max_connections no_connection; pasts = replicate max_connections no_past; closed = replicate max_connections false; clock = 0; held = []; notices = []; serving = 0; to_go = 0; silent = 0 }

-- connection c, and what is remembered of it
abbrev pub nth : List Connection → ℕ → Connection
nth cs c = get_or cs c no_connection

abbrev pub past : State → ℕ → Past
past s c = get_or s.pasts c no_past

abbrev pub closed_at : State → ℕ → Bool
closed_at s c = get_or s.closed c false

abbrev pub figures : State → ℕ → Connection
figures s c = nth s.connections c

-- a notice as a packet: it bears the queue's number, and "eligibility equals arrival"
abbrev pub notice_packet : Notice → Packet
notice_packet n = record { connection = notice_number; len = n.len; tag = n.tag; arrival = n.arrival; eligibility = n.arrival }

-- the one that was offered first
abbrev pub first_notice : List Notice → Option Notice
first_notice [] = none
first_notice (n ∷ ns) = some n

-- the state with one part given anew: no other text writes a whole state out
abbrev pub with_link : State → Link → State
with_link s l = record { link = l; connections = s.connections; pasts = s.pasts; closed = s.closed; clock = s.clock; held = s.held; notices = s.notices; serving = s.serving; to_go = s.to_go; silent = s.silent }

abbrev pub with_connections : State → List Connection → List Past → State
with_connections s cs hs = record { link = s.link; connections = cs; pasts = hs; closed = s.closed; clock = s.clock; held = s.held; notices = s.notices; serving = s.serving; to_go = s.to_go; silent = s.silent }

abbrev pub with_closed : State → List Bool → State
with_closed s bs = record { link = s.link; connections = s.connections; pasts = s.pasts; closed = bs; clock = s.clock; held = s.held; notices = s.notices; serving = s.serving; to_go = s.to_go; silent = s.silent }

abbrev pub with_clock : State → ℕ → State
with_clock s t = record { link = s.link; connections = s.connections; pasts = s.pasts; closed = s.closed; clock = t; held = s.held; notices = s.notices; serving = s.serving; to_go = s.to_go; silent = s.silent }

abbrev pub with_held : State → List Packet → State
with_held s ps = record { link = s.link; connections = s.connections; pasts = s.pasts; closed = s.closed; clock = s.clock; held = ps; notices = s.notices; serving = s.serving; to_go = s.to_go; silent = s.silent }

abbrev pub with_notices : State → List Notice → State
with_notices s ns = record { link = s.link; connections = s.connections; pasts = s.pasts; closed = s.closed; clock = s.clock; held = s.held; notices = ns; serving = s.serving; to_go = s.to_go; silent = s.silent }

abbrev pub with_line : State → ℕ → ℕ → ℕ → State
with_line s serving to_go silent = record { link = s.link; connections = s.connections; pasts = s.pasts; closed = s.closed; clock = s.clock; held = s.held; notices = s.notices; serving = serving; to_go = to_go; silent = silent }
