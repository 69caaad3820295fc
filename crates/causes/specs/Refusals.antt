-- The refusals of the tables of verdicts: the number of each, and what it says of how much is over; of a call's result the same. Document 01, "Verdict numbers";
-- document 02, R-1, R-2, R-8, R-9, R-11 and R-13. Both together are one-to-one (`same_result`, proofs/RefusalLaws.antt), and the number alone where it is not 8 (`by_verdict`),
-- so a clause that says both, or a number other than 8, says which result it is.
use Rattle.std.specs.Prelude.{ℕ, Result, Ok, Err}
use Rattle.rules.specs.declared.Short.{Short}
use Rattle.rules.specs.Model.{no_short}
use Rattle.causes.specs.declared.refusals.Refusal.{Refusal}
use Rattle.causes.specs.declared.refusals.Refusal.TheVariants.{NotSound, NoLink, LinkSet, LinkLimit, Level, Figures, NoNumber, LevelTest, Reservations, NoConnection, Length, Full, ClockEnded, NoticesFull, HoldsPackets, OutOfTime, TooFar, PastUnits}

-- its number in the table
abbrev pub number_of : Refusal → ℕ
number_of NotSound = 1
number_of NoLink = 2
number_of LinkSet = 3
number_of LinkLimit = 4
number_of Level = 5
number_of Figures = 6
number_of NoNumber = 7
number_of (LevelTest over) = 8
number_of Reservations = 9
number_of NoConnection = 10
number_of Length = 11
number_of Full = 12
number_of ClockEnded = 13
number_of NoticesFull = 15
number_of HoldsPackets = 16
number_of OutOfTime = 17
number_of TooFar = 18
number_of PastUnits = 19

-- by how much it is over, which only a level test says
abbrev pub short_of : Refusal → Short
short_of (LevelTest over) = over
short_of why = no_short

module _ {A : Type 0} where
  -- the verdict of a call: 0 where it is done, else the number of its refusal
  abbrev pub verdict_of : Result A Refusal → ℕ
  verdict_of (Ok x) = 0
  verdict_of (Err why) = number_of why

  -- .. and by how much it is over
  abbrev pub over_of : Result A Refusal → Short
  over_of (Ok x) = no_short
  over_of (Err why) = short_of why
