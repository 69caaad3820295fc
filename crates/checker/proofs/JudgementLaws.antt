-- The judgement of a log against the one that the rules give, where both begin with the same bytes.
use Prim.Native.Nat.{ℕ, ◌+◌, ◌<◌}
use native.Mathlib.Omega.{arith}
use mathlib.Core.Path.{◌≡◌}
use mathlib.Core.Bool.{cond}
use mathlib.Core.List.{List, ◌++◌, append_assoc}
use lib.Dec.{eqb}
use lib.ListN.{length, length-append}
use borrow.Author.Tests.{eq-eqb, ne_eqb}
use Rattle.checker.specs.declared.Finding.{Finding}
use Rattle.checker.specs.declared.Finding.TheVariants.{Accepted, Differs, TooLong, EndsEarly}
use Rattle.checker.specs.Judgement.{common}
use Rattle.checker.proofs.CommonLaws.{common_behind, common_apart, common_le}

-- what is found where the first n bytes of `found` and `expected` are alike and no more
abbrev pub finding : ℕ → List ℕ → List ℕ → Finding
finding n found expected = cond (eqb n (length found)) (cond (eqb n (length expected)) Accepted EndsEarly) (cond (eqb n (length expected)) TooLong Differs)

-- the judgement that there is: what is found, and the offset
pub record Judgement : Type 0 where
  pub finding : Finding
  pub offset : ℕ

unfoldable pub judgement : List ℕ → List ℕ → Judgement
judgement found expected = record { finding = finding (common found expected) found expected; offset = common found expected }

judged_by : (n : ℕ) (f : Finding) (x y : List ℕ) → common x y ≡ n → finding n x y ≡ f → record { finding = f; offset = n } ≡ judgement x y
unfolding judgement
judged_by n f x y e g = rw (e, g)

-- `met` is what both begin with; l and e are what comes next of the log, and of what the rules give; more and rest what comes behind
module _ (met l e more rest : List ℕ) where
  abbrev found : List ℕ
  found = (met ++ l) ++ more

  abbrev expected : List ℕ
  expected = (met ++ e) ++ rest

  common_met : common found expected ≡ length met + common (l ++ more) (e ++ rest)
  common_met = rw (append_assoc met l more, append_assoc met e rest) (common_behind met (l ++ more) (e ++ rest))

  length_found : length found ≡ length met + length l + length more
  length_found = simp length-append

  length_expected : length expected ≡ length met + length e + length rest
  length_expected = simp length-append

  pub apart_there : common l e ≡ 0 → 0 < length l → 0 < length e → record { finding = Differs; offset = length met } ≡ judgement found expected
  apart_there c h k =
      let d = common_apart l e more rest (omega arith) (omega arith) in
      judged_by (length met) Differs found expected (omega (arith, common_met, d))
      (rw (ne_eqb (length met) (length found) (λ x. omega (arith, length_found)), ne_eqb (length met) (length expected) (λ x. omega (arith, length_expected))))

  -- nothing comes of the log
  pub early_there : length l ≡ 0 → length more ≡ 0 → 0 < length e → record { finding = EndsEarly; offset = length met } ≡ judgement found expected
  early_there h m k =
      let d = simp length-append at (common_le (l ++ more) (e ++ rest)).0 in
      judged_by (length met) EndsEarly found expected (omega (arith, common_met, d))
      (rw (eq-eqb (length met) (length found) (omega (arith, length_found)), ne_eqb (length met) (length expected) (λ x. omega (arith, length_expected))))

  -- the rules give nothing more
  pub long_there : length e ≡ 0 → length rest ≡ 0 → 0 < length l → record { finding = TooLong; offset = length met } ≡ judgement found expected
  long_there h m k =
      let d = simp length-append at (common_le (l ++ more) (e ++ rest)).1 in
      judged_by (length met) TooLong found expected (omega (arith, common_met, d))
      (rw (ne_eqb (length met) (length found) (λ x. omega (arith, length_found)), eq-eqb (length met) (length expected) (omega (arith, length_expected))))

  pub same_there : length e ≡ 0 → length rest ≡ 0 → length l ≡ 0 → length more ≡ 0 → record { finding = Accepted; offset = length met } ≡ judgement found expected
  same_there h m k n =
      let d = simp length-append at (common_le (l ++ more) (e ++ rest)).1 in
      judged_by (length met) Accepted found expected (omega (arith, common_met, d))
      (rw (eq-eqb (length met) (length found) (omega (arith, length_found)), eq-eqb (length met) (length expected) (omega (arith, length_expected))))
