-- The limits of document 02, R-13, each a name of its own. Those of S, of the silence, of connections, of all places, of the notices and of the clock are the first
-- discipline's (crate `rules`).
use Rattle.std.specs.Prelude.{ℕ}

-- ticks of a frame
abbrev pub max_frame : ℕ
max_frame = 32_768

-- units per frame of a connection, and its places
abbrev pub max_units : ℕ
max_units = 2_048

abbrev pub max_places : ℕ
max_places = 2_048
