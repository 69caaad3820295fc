-- The limits of documents 01 and 02, each a name of its own, so that a request can move it in one place.
use Rattle.std.specs.Prelude.{ℕ}

-- "Link, connections, places": levels of a link, units of the largest packet, ticks of a delay bound and of a gap
abbrev pub max_levels : ℕ
max_levels = 8

abbrev pub max_largest : ℕ
max_largest = 2_048

abbrev pub max_bound : ℕ
max_bound = 32_768

-- document 02, R-12: ticks of a level's window
abbrev pub max_level_window : ℕ
max_level_window = 32_768

abbrev pub max_gap : ℕ
max_gap = 65_535

-- document 02, R-6: ticks of an averaging window, packets in one, and the eligibilities that a connection remembers
abbrev pub max_window : ℕ
max_window = 65_535

abbrev pub max_remembered : ℕ
max_remembered = 16

-- document 02, R-9: ticks of an allowance
abbrev pub max_allowance : ℕ
max_allowance = 65_535

-- document 02, R-4: ticks of silence after each packet
abbrev pub max_silence : ℕ
max_silence = 64

-- connections; packets that all reservations together may reach, which is also the rows of the places table (document 02, R-7)
abbrev pub max_connections : ℕ
max_connections = 200

abbrev pub max_reserved : ℕ
max_reserved = 2_048

-- the clock's end
abbrev pub clock_end : ℕ
clock_end = 4_000_000_000

-- one more than a 32-bit number can be
abbrev pub beyond_32_bits : ℕ
beyond_32_bits = 4_294_967_296

-- document 02, R-1: places of the housekeeping queue, and the number that its packets bear where a connection's would stand
abbrev pub max_notices : ℕ
max_notices = 64

abbrev pub notice_number : ℕ
notice_number = 254

-- "Verdict numbers": the connection that a refused admission gives
abbrev pub no_connection_number : ℕ
no_connection_number = 255
