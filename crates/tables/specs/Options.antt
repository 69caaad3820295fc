-- A value or nothing: the rules' word for it and the code's are two types.
use Rattle.std.specs.Prelude.{Option, Some, None}
use Rattle.std.proofs.Math.Option as rules

-- one of the rules, as the code gives it
abbrev pub option_of : {A : Type 0} → rules.Option A → Option A
option_of rules.none = None
option_of (rules.some x) = Some x

-- one of the code, as the rules have it
abbrev pub option_in : {A : Type 0} → Option A → rules.Option A
option_in None = rules.none
option_in (Some x) = rules.some x
