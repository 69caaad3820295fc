-- How an answer meets the contract, whatever the discipline: one where what is handed in is not sound, and one by the rules where it is; and that it is one.
use Prim.Native.Nat.{ℕ}
use mathlib.Core.Path.{◌≡◌, sym, ap, ◌∙◌}
use mathlib.Core.Bool.{Bool, true, false, cond}
use Rattle.rules.proofs.Sums.{cond_is}
use Rattle.tables.specs.Lent.{Tables}
use Rattle.tables.specs.Calls.{DoesBy}

module _ {Call Kept Told : Type 0} (tells : Call → Kept → Tables → Told) (leaves : Call → Kept → Tables → Tables) where
  -- of the call k on h and the tables t: where they are sound what the rules tell and what is written of it, else a refusal and the same tables
  pub record Ruled (k : Call) (h : Kept) (t : Tables) (sound : Bool) (told refused : Told) (written : Tables) : Type 0 where
    pub tells_is : tells k h t ≡ cond sound told refused
    pub leaves_is : leaves k h t ≡ cond sound written t

  -- any two answers and tables that it allows are equal
  pub same_outcome : (k : Call) (h : Kept) (t : Tables) (r r' : Told) (u u' : Tables) → DoesBy tells leaves k h t r u → DoesBy tells leaves k h t r' u' → (r ≡ r') × (u ≡ u')
  same_outcome k h t r r' u u' D E = (D.answers ∙ sym E.answers, D.tables ∙ sym E.tables)

module _ {Call Kept Told : Type 0} {tells : Call → Kept → Tables → Told} {leaves : Call → Kept → Tables → Tables} {k : Call} {h : Kept} {t : Tables} {sound : Bool}
    {told refused : Told} {written : Tables} (R : Ruled tells leaves k h t sound told refused written) where
  -- not sound: the refusal, and nothing changes
  pub refuses_unsound : sound ≡ false → (r : Told) → r ≡ refused → DoesBy tells leaves k h t r t
  refuses_unsound e r a = record { answers = a ∙ sym (R.tells_is ∙ cond_is told refused e); tables = sym (R.leaves_is ∙ cond_is written t e) }

  module _ (ok : sound ≡ true) where
    -- sound: the rules' answer, written back
    pub answers_as : (r : Told) (u : Tables) → r ≡ told → u ≡ written → DoesBy tells leaves k h t r u
    answers_as r u a b = record { answers = a ∙ sym (R.tells_is ∙ cond_is told refused ok); tables = b ∙ sym (R.leaves_is ∙ cond_is written t ok) }

    -- .. and no other
    module _ (r : Told) (u : Tables) (D : DoesBy tells leaves k h t r u) where
      pub told_as : r ≡ told
      told_as = D.answers ∙ R.tells_is ∙ cond_is told refused ok

      pub left_as : u ≡ written
      left_as = D.tables ∙ R.leaves_is ∙ cond_is written t ok

-- .. with the verdict v, where what the rules tell and what is written of it go by the verdict
module _ {Call Kept Told : Type 0} {tells : Call → Kept → Tables → Told} {leaves : Call → Kept → Tables → Tables} {k : Call} {h : Kept} {t : Tables} {sound : Bool}
    (told : ℕ → Told) {refused : Told} (written : ℕ → Tables) (n : ℕ) (R : Ruled tells leaves k h t sound (told n) refused (written n)) where
  pub settles : sound ≡ true → (v : ℕ) → n ≡ v → (r : Told) (u : Tables) → r ≡ told v → u ≡ written v → DoesBy tells leaves k h t r u
  settles ok v e r u a b = answers_as R ok r u (a ∙ ap told (sym e)) (b ∙ ap written (sym e))
