-- What the limits say as plain facts, the laws of the numbers that stand, and of what a packet counts. Nothing else opens `cost`, `newly`, `stands`, `frame_sum`.
use Prim.Native.Nat.{ℕ, ◌+◌, ◌≤◌, ◌<◌}
use native.Mathlib.Omega.{arith}
use native.Mathlib.Numerals.{add-one}
use mathlib.Core.Path.{◌≡◌, refl, sym, ap, ◌∙◌, subst}
use mathlib.Core.Bool.{true}
use mathlib.Core.Logic.{◌⊎◌, inl, inr}
use mathlib.Core.List.{List, [], ◌∷◌, ◌++◌}
use lib.Dec.{leb}
use lib.ListN.{length, length-append, get_or-append}
use lib.Seq.{get_or-append_seam}
use borrow.Author.Tests.{leb-true, lt-ltb, ltb-true}
use Rattle.rules.specs.declared.Packet.{Packet}
use Rattle.rules.specs.Words.{within, upto, sum}
use Rattle.rules.specs.Limits.{max_largest, max_silence}
use Rattle.rules.proofs.Sums.{same, split, upto_yes, upto_no, upto_le, sum_eq}
use Rattle.rules.proofs.Tests.{and_true, within_true}
use Rattle.frames.specs.Limits.{max_frame}
use Rattle.frames.specs.Model.{Framing, Share, nth}
use Rattle.frames.specs.Admission.{cost, framing_within, stands, frame_sum}
use Rattle.frames.specs.Service.{newly}
use Rattle.frames.specs.SoundState.{Fits}
use Rattle.frames.proofs.Names.{all_units}
use Rattle.frames.proofs.Names.{no_share}

-- ---- the link and the shares

pub record FramingFacts (l : Framing) : Type 0 where
  pub some_frame : 1 ≤ l.frame
  pub frame_max : l.frame ≤ max_frame
  pub some_largest : 1 ≤ l.largest
  pub largest_max : l.largest ≤ max_largest
  pub silence_max : l.silence ≤ max_silence
  pub largest_le : l.largest + l.silence ≤ l.frame

pub framing_facts : (l : Framing) → framing_within l ≡ true → FramingFacts l
unfolding framing_within cost
framing_facts l e =
    let a = and_true (within 1 max_frame l.frame) _ e in
    let b = and_true (within 1 max_largest l.largest) _ a.1 in
    let c = and_true (leb l.silence max_silence) (leb (cost l l.largest) l.frame) b.1 in
    record {
      some_frame = (within_true 1 max_frame l.frame a.0).0;
      frame_max = (within_true 1 max_frame l.frame a.0).1;
      some_largest = (within_true 1 max_largest l.largest b.0).0;
      largest_max = (within_true 1 max_largest l.largest b.0).1;
      silence_max = leb-true l.silence max_silence c.0;
      largest_le = leb-true (cost l l.largest) l.frame c.1;
    }

pub cost_is : (l : Framing) (len : ℕ) → cost l len ≡ len + l.silence
unfolding cost
cost_is l len = refl

pub sum_is : (l : Framing) (cs : List Share) → frame_sum l cs ≡ all_units cs + (l.largest + l.silence)
unfolding frame_sum cost
sum_is l cs = refl

-- ---- what a packet counts against the units of this frame

module _ (l : Framing) (t : ℕ) (p : Packet) where
  pub newly_yes : t < p.eligibility → newly l t p ≡ p.len + l.silence
  unfolding newly cost
  newly_yes h = upto_yes (t + 1) p.eligibility (cost l p.len) (omega arith)

  pub newly_no : p.eligibility ≤ t → newly l t p ≡ 0
  unfolding newly cost
  newly_no h = upto_no (t + 1) p.eligibility (cost l p.len) (omega arith)

  -- no more a tick later
  pub newly_later : newly l (t + 1) p ≤ newly l t p
  unfolding newly
  newly_later = go (split (t + 1 + 1) p.eligibility)
    where
      go : (t + 1 + 1 ≤ p.eligibility) ⊎ (p.eligibility < t + 1 + 1) → upto (t + 1 + 1) p.eligibility (cost l p.len) ≤ upto (t + 1) p.eligibility (cost l p.len)
      go (inl h) = omega (arith, upto_yes (t + 1) p.eligibility (cost l p.len) (omega arith), upto_le (t + 1 + 1) p.eligibility (cost l p.len))
      go (inr h) = omega (arith, upto_no (t + 1 + 1) p.eligibility (cost l p.len) h)

-- ---- the numbers that stand, and one connection more at the end

pub stands_below : (cs : List Share) (c : ℕ) → stands cs c ≡ true → c < length cs
unfolding stands
stands_below cs c e = ltb-true c (length cs) e

module _ (cs : List Share) (x : Share) where
  pub stands_old : (c : ℕ) → stands cs c ≡ true → stands (cs ++ x ∷ []) c ≡ true
  unfolding stands
  stands_old c e = lt-ltb c (length (cs ++ x ∷ [])) (omega (arith, ltb-true c (length cs) e, length-append cs (x ∷ [])))

  pub nth_old : (i : ℕ) → i < length cs → nth (cs ++ x ∷ []) i ≡ nth cs i
  nth_old i l = get_or-append cs (x ∷ []) _ i l

  pub length_snoc : length (cs ++ x ∷ []) ≡ length cs + 1
  length_snoc = length-append cs (x ∷ [])

  -- a fact of each entry and of the new one
  pub nth_snoc : (P : ℕ → Share → Type 0) → ((i : ℕ) → i < length cs → P i (nth cs i)) → P (length cs) x → (i : ℕ) → i < length (cs ++ x ∷ []) → P i (nth (cs ++ x ∷ []) i)
  nth_snoc P f px i l = go (same i (length cs))
    where
      go : (i ≡ length cs) ⊎ (i ≡ length cs → ⊥) → P i (nth (cs ++ x ∷ []) i)
      go (inl e) = subst (λ (j : ℕ). P j (nth (cs ++ x ∷ []) j)) (sym e) (subst (P (length cs)) (sym (get_or-append_seam cs x [] _)) px)
      go (inr e) = let k : i < length cs = omega (arith, length_snoc, e) in subst (P i) (sym (nth_old i k)) (f i k)

  -- the sum of a number of each
  pub sum_snoc : (g : Share → ℕ) → sum (length (cs ++ x ∷ [])) (λ c. g (nth (cs ++ x ∷ []) c)) ≡ sum (length cs) (λ c. g (nth cs c)) + g x
  sum_snoc g =
      ap (λ (n : ℕ). sum n (λ c. g (nth (cs ++ x ∷ []) c))) (length_snoc ∙ add-one (length cs))
      ∙ omega (
        arith,
        sum_eq (length cs) {f = λ c. g (nth (cs ++ x ∷ []) c)} {g = λ c. g (nth cs c)} (λ c l. ap g (nth_old c l)),
        ap g (get_or-append_seam cs x [] no_share),
      )

  pub fits_old : (l : Framing) (p : Packet) → Fits l cs p → Fits l (cs ++ x ∷ []) p
  fits_old l p f = record { standing = stands_old p.connection f.standing; some_len = f.some_len; len_le = f.len_le }
