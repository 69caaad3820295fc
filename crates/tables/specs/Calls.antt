-- The form of THE CONTRACT of a call, whatever the discipline: each gives, by its own rules, what its calls tell and what tables they leave.
use Rattle.std.specs.Prelude.{◌≡◌, List, [], ◌∷◌}
use Rattle.tables.specs.Lent.{Tables}

module _ {Call Kept Told : Type 0} (tells : Call → Kept → Tables → Told) (leaves : Call → Kept → Tables → Tables) where
  -- handed what is kept between the calls, h, and the tables `before`, the call k answers `told` and leaves the tables `after`
  pub record DoesBy (k : Call) (h : Kept) (before : Tables) (told : Told) (after : Tables) : Type 0 where
    pub answers : told ≡ tells k h before
    pub tables : after ≡ leaves k h before

-- any calls, each on what the last one left, given what becomes of one
module _ {Call Noted : Type 0} (call : Noted → Call → Noted) where
  abbrev pub calls_from : Noted → List Call → Noted
  calls_from g [] = g
  calls_from g (k ∷ ks) = calls_from (call g k) ks
