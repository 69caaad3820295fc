-- The table of connections that the code lays the rows out in, so that the hub's own level test reads them.
use Rattle.std.specs.Prelude.{ℕ, ◌-◌, Bool, false, List, ◌++◌, replicate}
use Rattle.rules.specs.declared.Connection.{Connection}
use Rattle.rules.specs.Words.{tabulate}
use Rattle.rules.specs.Limits.{max_connections}
use Rattle.rules.specs.Model.{Past, no_connection, no_past}
use Rattle.connections.specs.Members.{written_members}
use Rattle.firmware.specs.Questions.{row_asked}

-- the first n rows at the numbers 0 to n - 1, and the numbers behind them free
abbrev pub laid_rows : ℕ → List ℕ → List Connection
laid_rows n rows = tabulate n (row_asked rows) ++ replicate (max_connections - n) no_connection

-- of none a packet was accepted yet, and none is closed
abbrev pub no_pasts : List Past
no_pasts = replicate max_connections no_past

abbrev pub no_marks : List Bool
no_marks = replicate max_connections false

abbrev pub laid_out : ℕ → List ℕ → List ℕ
laid_out n rows = written_members (laid_rows n rows) no_pasts no_marks
