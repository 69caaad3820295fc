-- What a pass over the rows counts of each connection, whatever the discipline.
use Rattle.std.specs.Prelude.{ℕ, ◌+◌, ◌≤◌, ◌<◌, ◌≡◌, List, length, get_or, set}
use Rattle.rules.specs.declared.Packet.{Packet}
use Rattle.rules.specs.Limits.{max_connections, max_reserved}
use Rattle.rules.specs.Service.{of}
use Rattle.tables.specs.Places.{rows, row_at}

-- a number for each connection: what f says of those of its packets that were passed, such as how many they are
pub record Counts (f : List Packet → ℕ) (seen : List ℕ) (passed : List Packet) : Type 0 where
  pub size : length seen ≡ max_connections
  pub counts : (c : ℕ) → c < max_connections → get_or seen c 0 ≡ f (of c passed)

-- .. with n more of connection c
abbrev pub raised : List ℕ → ℕ → ℕ → List ℕ
raised seen c n = set seen c (get_or seen c 0 + n)

-- each row names a connection that can be counted, and there are not too many
pub record Countable (places : List ℕ) : Type 0 where
  pub few_rows : length (rows places) ≤ max_reserved
  pub known : (k : ℕ) → k < length (rows places) → (row_at places k).connection < max_connections
