-- A refusal is known by its number and by how much it says is over, by its number alone where that is not 8; so is the result of a call.
use Prim.Native.Nat.{ℕ}
use native.Mathlib.Omega.{arith}
use mathlib.Core.Path.{◌≡◌, refl, sym, ap, ◌∙◌}
use mathlib.Core.Bool.{cond}
use lib.Dec.{eqb}
use Rattle.rules.specs.declared.Short.{Short}
use Rattle.rules.specs.Model.{no_short}
use Rattle.causes.specs.declared.refusals.Refusal.{Refusal}
use Rattle.causes.specs.declared.refusals.Refusal.TheVariants.{NotSound, NoLink, LinkSet, LinkLimit, Level, Figures, NoNumber, LevelTest, Reservations, NoConnection, Length, Full, ClockEnded, NoticesFull, HoldsPackets, OutOfTime, TooFar, PastUnits}
use Rattle.std.specs.Prelude.{Result, Ok, Err}
use Rattle.causes.specs.Refusals.{number_of, short_of, verdict_of, over_of}

-- that of number n
abbrev with_number : ℕ → Short → Refusal
with_number n over =
    cond (eqb n 1) NotSound (cond (eqb n 2) NoLink (cond (eqb n 3) LinkSet (cond (eqb n 4) LinkLimit (cond (eqb n 5) Level (cond (eqb n 6) Figures (cond (eqb n 7) NoNumber
    (cond (eqb n 8) (LevelTest over) (cond (eqb n 9) Reservations (cond (eqb n 10) NoConnection (cond (eqb n 11) Length (cond (eqb n 12) Full (cond (eqb n 13) ClockEnded
    (cond (eqb n 15) NoticesFull (cond (eqb n 16) HoldsPackets (cond (eqb n 17) OutOfTime (cond (eqb n 18) TooFar PastUnits))))))))))))))))

read_back : (r : Refusal) → with_number (number_of r) (short_of r) ≡ r
read_back NotSound = refl
read_back NoLink = refl
read_back LinkSet = refl
read_back LinkLimit = refl
read_back Level = refl
read_back Figures = refl
read_back NoNumber = refl
read_back (LevelTest over) = refl
read_back Reservations = refl
read_back NoConnection = refl
read_back Length = refl
read_back Full = refl
read_back ClockEnded = refl
read_back NoticesFull = refl
read_back HoldsPackets = refl
read_back OutOfTime = refl
read_back TooFar = refl
read_back PastUnits = refl

pub one_to_one : (r s : Refusal) → number_of r ≡ number_of s → short_of r ≡ short_of s → r ≡ s
one_to_one r s n o = sym (read_back r) ∙ (λ i. with_number (n i) (o i)) ∙ read_back s

-- no refusal has number 0
pub some_number : (r : Refusal) → number_of r ≡ 0 → ⊥
some_number NotSound e = omega arith
some_number NoLink e = omega arith
some_number LinkSet e = omega arith
some_number LinkLimit e = omega arith
some_number Level e = omega arith
some_number Figures e = omega arith
some_number NoNumber e = omega arith
some_number (LevelTest over) e = omega arith
some_number Reservations e = omega arith
some_number NoConnection e = omega arith
some_number Length e = omega arith
some_number Full e = omega arith
some_number ClockEnded e = omega arith
some_number NoticesFull e = omega arith
some_number HoldsPackets e = omega arith
some_number OutOfTime e = omega arith
some_number TooFar e = omega arith
some_number PastUnits e = omega arith

-- one with a number other than 8 says nothing of how much is over
says_nothing : (r : Refusal) → (number_of r ≡ 8 → ⊥) → short_of r ≡ no_short
says_nothing NotSound n = refl
says_nothing NoLink n = refl
says_nothing LinkSet n = refl
says_nothing LinkLimit n = refl
says_nothing Level n = refl
says_nothing Figures n = refl
says_nothing NoNumber n = refl
says_nothing (LevelTest over) n = absurd (n refl)
says_nothing Reservations n = refl
says_nothing NoConnection n = refl
says_nothing Length n = refl
says_nothing Full n = refl
says_nothing ClockEnded n = refl
says_nothing NoticesFull n = refl
says_nothing HoldsPackets n = refl
says_nothing OutOfTime n = refl
says_nothing TooFar n = refl
says_nothing PastUnits n = refl

-- the result of a call, by its verdict and by how much it is over
pub same_result : (r s : Result Unit Refusal) → verdict_of r ≡ verdict_of s → over_of r ≡ over_of s → r ≡ s
same_result (Ok x) (Ok y) n o = refl
same_result (Ok x) (Err s) n o = absurd (some_number s (sym n))
same_result (Err r) (Ok y) n o = absurd (some_number r n)
same_result (Err r) (Err s) n o = ap Err (one_to_one r s n o)

-- .. by its verdict alone where that is not 8
pub by_verdict : (r s : Result Unit Refusal) → verdict_of r ≡ verdict_of s → (verdict_of r ≡ 8 → ⊥) → r ≡ s
by_verdict r s n e = same_result r s n (nothing_over r e ∙ sym (nothing_over s (λ z. e (n ∙ z))))
  where
    nothing_over : (q : Result Unit Refusal) → (verdict_of q ≡ 8 → ⊥) → over_of q ≡ no_short
    nothing_over (Ok x) z = refl
    nothing_over (Err why) z = says_nothing why z
