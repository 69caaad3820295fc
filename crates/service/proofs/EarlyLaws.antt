-- The packet that stands by, found in one walk upward.
use Prim.Native.Nat.{ℕ, suc, ◌+◌, ◌<◌}
use native.Mathlib.Numerals.{add-one}
use mathlib.Core.Path.{◌≡◌, refl, sym, ap, ◌∙◌}
use mathlib.Core.Bool.{Bool, true, false, cond}
use mathlib.Core.List.{List, [], ◌∷◌}
use mathlib.Core.Option.{none, some}
use lib.ListN.{length, drop}
use lib.Seq.{drop-length}
use Rattle.rules.specs.declared.Link.{Link}
use Rattle.rules.specs.declared.Packet.{Packet}
use Rattle.rules.specs.Admission.{stand_by_on}
use Rattle.rules.specs.Model.{nth}
use Rattle.rules.specs.Service.{first_early}
use Rattle.rules.proofs.Sums.{cond_is}
use Rattle.rules.proofs.Figures.{never_off}
use Rattle.tables.specs.Places.{rows, row_at}
use Rattle.tables.proofs.PlacesLaws.{rows_from}
use Rattle.connections.specs.Members.{connections_in}
use Rattle.std.specs.Prelude.{Some, None}
use Rattle.tables.specs.Options.{option_of}
use Rattle.service.specs.Candidates.{early_in}

module _ (may : ℕ → Bool) (t : List ℕ) where
  -- no row before row i may go
  abbrev pub NoneSoFar : ℕ → Type 0
  NoneSoFar i = first_early may (drop i (rows t)) ≡ first_early may (rows t)

  module _ (i : ℕ) (l : i < length (rows t)) (w : NoneSoFar i) where
    here : cond (may (row_at t i).connection) (some (row_at t i)) (first_early may (drop (suc i) (rows t))) ≡ first_early may (rows t)
    here = ap (first_early may) (sym (rows_from t i l)) ∙ w

    -- row i may: it is the one
    pub may_go : (p : Packet) → p ≡ row_at t i → may (row_at t i).connection ≡ true → Some p ≡ option_of (first_early may (rows t))
    may_go p q e =
        ap (λ (r : Packet). option_of (some r)) q
        ∙ ap option_of (sym (cond_is (some (row_at t i)) (first_early may (drop (suc i) (rows t))) e) ∙ here)

    -- it may not
    pub may_not : may (row_at t i).connection ≡ false → NoneSoFar (i + 1)
    may_not e = rw (add-one i) (sym (cond_is (some (row_at t i)) (first_early may (drop (suc i) (rows t))) e) ∙ here)

  -- no row is left
  pub nobody : (i : ℕ) → i ≡ length (rows t) → NoneSoFar i → None ≡ option_of (first_early may (rows t))
  nobody i e w = ap option_of (ap (first_early may) (sym (drop-length (rows t)) ∙ ap (λ (j : ℕ). drop j (rows t)) (sym e)) ∙ w)

none_may : (may : ℕ → Bool) → ((c : ℕ) → may c ≡ false) → (ps : List Packet) → none ≡ first_early may ps
none_may may f [] = refl
none_may may f (p ∷ ps) = none_may may f ps ∙ sym (cond_is (some p) (first_early may ps) (f p.connection))

-- where the queue is off nobody may
pub off : (l : Link) (cs t : List ℕ) → stand_by_on l ≡ false → None ≡ option_of (first_early (early_in l cs) (rows t))
off l cs t e = ap option_of (none_may (early_in l cs) (λ c. never_off l (nth (connections_in cs) c) e) (rows t))
