-- WHERE A TRACE IS MALFORMED, by its bytes alone. Document 01, "Trace and answer records".
use Rattle.std.specs.Prelude.{ℕ, ◌≡◌, List, [], ◌∷◌, ◌++◌, length}
use Rattle.std.proofs.Math.Option.{Option, none, some}
use Rattle.answer_log.specs.Log.{Asked, one_call, some_ticks, unread, asked_within}

-- the offset of the first malformed one of some records
abbrev pub first_bad : List (Asked × ℕ) → Option ℕ
first_bad [] = none
first_bad ((one_call c, at) ∷ rest) = first_bad rest
first_bad ((some_ticks n, at) ∷ rest) = first_bad rest
first_bad ((unread, at) ∷ rest) = some at

-- .. of a trace
unfoldable pub bad_at : List ℕ → Option ℕ
bad_at trace = first_bad (asked_within (length trace) 0 trace)

-- l ends with these bytes
pub record EndsWith (end l : List ℕ) : Type 0 where
  pub before : List ℕ
  pub all : l ≡ before ++ end
