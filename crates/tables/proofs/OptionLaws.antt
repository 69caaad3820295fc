-- Laws of a value or nothing, between the rules' word for it and the code's.
use mathlib.Core.Path.{◌≡◌, refl, ap, ◌∙◌}
use mathlib.Core.Option.{Option, none, some}
use Rattle.std.specs.Prelude as code
use Rattle.tables.specs.Options.{option_of, option_in}

module _ {A : Type 0} where
  -- what is given is read back
  pub option_back : (o : Option A) → option_in (option_of o) ≡ o
  option_back none = refl
  option_back (some x) = refl

  pub read_back : (o : Option A) (d : code.Option A) → d ≡ option_of o → option_in d ≡ o
  read_back o d e = ap (λ (x : code.Option A). option_in x) e ∙ option_back o
