-- A test of each row of a table, as `(0..n).all(..)` answers it.
use Rattle.std.proofs.Common.{◌≡◌, ℕ, Bool, List, length, ap, ◌∙◌, arith}
use Rattle.std.proofs.lemmas.Iterator.{YieldsList-from_range}
use Rattle.std.proofs.lemmas.Iterator.Search.{all_from_yields_List}
use Rattle.std.specs.declared.ops.Range.{Range}
use Rattle.std.specs.Fn.{Called}
use Rattle.std.specs.List.{list_all, range_with_len}
use denote.Param.Members.{Mut}
use Rattle.rules.specs.declared.Packet.{Packet}
use Rattle.rules.specs.Words.{each}
use Rattle.limits.proofs.AllLaws.{Answered}
use Rattle.tables.specs.Places.{rows, row_at}
use Rattle.tables.proofs.RowsLaws.{each_row}

-- where the closure computes f of the row
pub each_of_all : {F : Type 0} {g : Mut F (ℕ × Unit {0}) Bool} {s u : Range ℕ} {c : F} {r : Bool} (f : Packet → Bool) (t : List ℕ) {n : ℕ} → n ≡ length (rows t) → s ≡ record { start = 0; end = n }
    → Answered g s u c r → ((x : ℕ) (b : Bool) (q : F) → Called g c (x, tt) b q → (q ≡ c) × (b ≡ f (row_at t x))) → r ≡ each f (rows t)
each_of_all f t {n} e is ran k =
    all_from_yields_List (λ i. f (row_at t i)) _ _ _ ran (YieldsList-from_range 0 n n is (omega arith)) k
    ∙ ap (λ (m : ℕ). list_all (λ i. f (row_at t i)) (range_with_len 0 m)) e
    ∙ each_row f t
