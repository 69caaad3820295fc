-- The laws of the answer kinds: what is their own.
use Rattle.std.specs.Prelude.{Some}
use mathlib.Core.Path.{◌≡◌, refl, sym, ap, ◌∙◌}
use mathlib.Core.Bool.{true}
use mathlib.Core.List.{[], ◌∷◌}
use native.Mathlib.Omega.{arith}
use borrow.Author.Tests.{eqb-true}
use Prim.Native.Nat.{◌<◌}
use lib.Dec.{eqb}
use lib.ListN.{length, get_or}
use Rattle.fields.specs.Numbers.{little, number, put_fields, get_fields, sum, none_lost}
use Rattle.fields.proofs.Parts.{bytes}
use Rattle.answers.specs.Kinds.{LA, CA, CD, PA, NA, DP, TA, ER}
use Rattle.fields.specs.Formats.{starts, read_kinds, laid}
use Rattle.answers.specs.Answers.{answer_kinds, answer_table, answer_layout, longest_answer}
use Rattle.answers.specs.declared.Reply.{Reply}
use Rattle.answers.specs.declared.Reply.TheVariants.{Linked, Admitted, Closed, Offered, Noticed, Departed, Ticked, Broken}
use Rattle.fields.proofs.NumberLaws.{one_byte}
use Rattle.fields.proofs.MarkLaws.{distinct, absent}
use Rattle.fields.proofs.WindowLaws.{AllWithin}
use Rattle.fields.proofs.FormatLaws.{ReadsBack, AllFair, two_letters, plain_fair, kind_back, length_laid}

-- No two kinds have one mark, and none has the mark 0.
pub answer_marks : distinct answer_kinds ≡ true
unfolding distinct absent number
answer_marks = refl

pub answer_back : ReadsBack answer_kinds answer_layout
unfolding read_kinds starts laid none_lost bytes put_fields little
answer_back (Linked verdict) rest w = kind_back LA (verdict ∷ []) rest _ refl w.1 refl refl
answer_back (Admitted verdict connection level units) rest w = kind_back CA (verdict ∷ connection ∷ level ∷ units ∷ []) rest _ refl w.1 refl refl
answer_back (Closed verdict) rest w = kind_back CD (verdict ∷ []) rest _ refl w.1 refl refl
answer_back (Offered verdict eligibility) rest w = kind_back PA (verdict ∷ eligibility ∷ []) rest _ refl w.1 refl refl
answer_back (Noticed verdict eligibility) rest w = kind_back NA (verdict ∷ eligibility ∷ []) rest _ refl w.1 refl refl
answer_back (Departed connection tag arrival eligibility finish) rest w =
    kind_back DP (connection ∷ tag ∷ arrival ∷ eligibility ∷ finish ∷ []) rest _ refl w.1 refl refl
answer_back (Ticked verdict ticks) rest w = kind_back TA (verdict ∷ ticks ∷ []) rest _ refl w.1 refl refl
answer_back (Broken offset) rest w = kind_back ER (14 ∷ offset ∷ []) rest _ refl w.1 refl refl

pub answers_fair : AllFair answer_layout answer_kinds
unfolding AllFair get_fields
answers_fair = (
  plain_fair LA (two_letters 0x4C 0x41 (omega arith) (omega arith)) (λ b c. refl) (λ bs a. refl) (λ bs a. refl),
  (
    plain_fair CA (two_letters 0x43 0x41 (omega arith) (omega arith)) (λ b c. refl) (λ bs a. refl) (λ bs a. refl),
    (
      plain_fair CD (two_letters 0x43 0x44 (omega arith) (omega arith)) (λ b c. refl) (λ bs a. refl) (λ bs a. refl),
      (
        plain_fair PA (two_letters 0x50 0x41 (omega arith) (omega arith)) (λ b c. refl) (λ bs a. refl) (λ bs a. refl),
        (
          plain_fair NA (two_letters 0x4E 0x41 (omega arith) (omega arith)) (λ b c. refl) (λ bs a. refl) (λ bs a. refl),
          (
            plain_fair DP (two_letters 0x44 0x50 (omega arith) (omega arith)) (λ b c. refl) (λ bs a. refl) (λ bs a. refl),
            (
              plain_fair TA (two_letters 0x54 0x41 (omega arith) (omega arith)) (λ b c. refl) (λ bs a. refl) (λ bs a. refl),
              (
                plain_fair ER (two_letters 0x45 0x52 (omega arith) (omega arith)) (λ b c. refl) (λ bs a. ap (λ b. eqb b 14) (one_byte bs 2) ∙ a)
                    (λ bs a. ap (λ v. Some (ER, v ∷ number 4 bs 3 ∷ [])) (sym (one_byte bs 2 ∙ eqb-true (get_or bs 2 0) 14 a))),
                tt,
              ),
            ),
          ),
        ),
      ),
    ),
  ),
)

pub answer_length : (r : Reply) → 0 < length (laid (answer_layout r)) → length (laid (answer_layout r)) ≡ answer_table r
unfolding laid sum
answer_length (Linked verdict) h = length_laid LA (verdict ∷ []) h
answer_length (Admitted verdict connection level units) h = length_laid CA (verdict ∷ connection ∷ level ∷ units ∷ []) h
answer_length (Closed verdict) h = length_laid CD (verdict ∷ []) h
answer_length (Offered verdict eligibility) h = length_laid PA (verdict ∷ eligibility ∷ []) h
answer_length (Noticed verdict eligibility) h = length_laid NA (verdict ∷ eligibility ∷ []) h
answer_length (Departed connection tag arrival eligibility finish) h = length_laid DP (connection ∷ tag ∷ arrival ∷ eligibility ∷ finish ∷ []) h
answer_length (Ticked verdict ticks) h = length_laid TA (verdict ∷ ticks ∷ []) h
answer_length (Broken offset) h = length_laid ER (14 ∷ offset ∷ []) h

-- The longest answer is a departure.
pub answers_within : AllWithin longest_answer answer_kinds
unfolding AllWithin sum
answers_within = (
  λ b a. omega arith,
  (
    λ b a. omega arith,
    (
      λ b a. omega arith,
      (
        λ b a. omega arith,
        (
          λ b a. omega arith,
          (
            λ b a. omega arith,
            (
              λ b a. omega arith,
              (λ b a. omega arith, tt),
            ),
          ),
        ),
      ),
    ),
  ),
)
