-- The table of connections of the second discipline: two numbers to a row, r and p, in the order admitted. The rows in use end before the first whose p is 0, zeros are
-- behind them; a row with an r of 0 is read, and is out of its limits. Document 02, R-13.
use Rattle.std.specs.Prelude.{ℕ, ◌+◌, ◌*◌, Bool, List, [], ◌∷◌, length, get_or}
use Rattle.std.proofs.lemmas.List.Edits.{sets}
use Rattle.rules.specs.Words.{sum}
use Rattle.rules.specs.Limits.{max_connections}
use Rattle.frames.specs.declared.Share.{Share}
use Rattle.frames.specs.Model.{nth}
use Rattle.tables.specs.Table.{read, formed, padded}

abbrev pub share_width : ℕ
share_width = 2

-- the numbers of the table: a row for each connection
abbrev pub shares_length : ℕ
shares_length = share_width * max_connections

-- zeros, where there is no connection
abbrev pub no_share : Share
no_share = record { units = 0; places = 0 }

-- the sum of all r
abbrev pub all_units : List Share → ℕ
all_units cs = sum (length cs) (λ c. (nth cs c).units)

-- ---- a row

-- row c of a table, used or not
abbrev pub share_at : List ℕ → ℕ → Share
share_at t c = record { units = get_or t (2 * c) 0; places = get_or t (2 * c + 1) 0 }

-- the table with x as row c
abbrev pub put : List ℕ → ℕ → Share → List ℕ
put t c x = sets t (2 * c) (x.units ∷ x.places ∷ [])

-- ---- a table

unfoldable pub shares_in : List ℕ → List Share
shares_in t = read share_width (λ r. record { units = get_or r 0 0; places = get_or r 1 0 }) t

unfoldable pub written_shares : List Share → List ℕ
written_shares cs = padded share_width (λ x. x.units ∷ x.places ∷ []) shares_length cs

-- the table is what is written of what is read: its length, and zeros behind its rows
unfoldable pub shares_formed : List ℕ → Bool
shares_formed t = formed share_width shares_length t
