use native.Mathlib.Omega.{arith}
use mathlib.Core.Path.{◌≡◌, refl, sym, ap, subst, ◌∙◌}
use mathlib.Core.List.{List, [], ◌∷◌, ◌++◌, append-nil}
use Prim.Native.Nat.{ℕ, zero, suc, ◌-◌, ◌/◌, ◌%◌, ◌≤◌, ◌<◌}
use lib.ListN.{length, take, drop, set}
use lib.Seq.{slice, slice_empty, length-take-le, take-set-lt, drop-set-lt, append_snoc}
use native.Mathlib.Nat.{le_of_suc-le-suc, not-suc-le-zero}
use native.Mathlib.Numerals.{sub-one}
use Rattle.streams.specs.Digits.{hex_digit_ascii, last_digits}
use Rattle.streams.proofs.number.write_digits.Goals as goal

-- after a store at j, the list from j on begins with what was stored
drop-set : (t : List ℕ) (j g : ℕ) → j < length t → drop j (set t j g) ≡ g ∷ drop (suc j) t
drop-set [] j g h = absurd (not-suc-le-zero h)
drop-set (x ∷ xs) zero g h = refl
drop-set (x ∷ xs) (suc j) g h = drop-set xs j g (le_of_suc-le-suc h)

-- a turn moves the last of the digits that are still to write to the front of those that are written
digits_step : (b i k rest g : ℕ) (out : List ℕ) → 0 < i → i ≤ k → k ≤ length out → g ≡ hex_digit_ascii (rest % b)
    → last_digits b (i - 1) (rest / b) ++ slice (i - 1) k (set out (i - 1) g) ≡ last_digits b i rest ++ slice i k out
digits_step b zero k rest g out some h room e = absurd (not-suc-le-zero some)
digits_step b (suc j) k rest g out some h room e =
    let todo = last_digits b j (rest / b) in
    let done = slice (suc j) k out in
    let within : j < length (take k out) = subst (λ (n : ℕ). j < n) (sym (length-take-le k out room)) h in
    ap (λ (m : ℕ). last_digits b m (rest / b) ++ slice m k (set out m g)) (sub-one (suc j))
    ∙ ap (λ (l : List ℕ). todo ++ drop j l) (take-set-lt k out j g h)
    ∙ ap (λ (l : List ℕ). todo ++ l) (drop-set (take k out) j g within)
    ∙ ap (λ (x : ℕ). todo ++ x ∷ done) e
    ∙ sym (append_snoc todo (hex_digit_ascii (rest % b)) done)

pub loop-i-init : goal.loop-i-init
loop-i-init c =
    let a = c.args in
    let all = last_digits 10 a.k a.n in
    (ap (λ (l : List ℕ). all ++ l) (slice_empty a.k a.out.now) ∙ append-nil all, refl)

pub loop-i-preserved : goal.loop-i-preserved
loop-i-preserved c =
    let l = c.loop-i in
    let a = c.args in (
      digits_step 10 l.i a.k l.rest c.digit_ascii.result l.out c.loop-i-test.true l.auto.i (omega arith) c.digit_ascii.ensures ∙ l.invariant.0,
      drop-set-lt a.k l.out (l.i - 1) _ (omega arith) ∙ l.invariant.1,
    )
