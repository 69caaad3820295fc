-- Laws of a notice that is taken: there is room for it behind the others, and it is told as its verdict says.
use Prim.Native.Nat.{ℕ, ◌+◌, ◌*◌, ◌≤◌}
use native.Mathlib.Omega.{arith}
use mathlib.Core.Path.{◌≡◌, refl, sym, ap, ◌∙◌, subst}
use mathlib.Core.Bool.{Bool, true}
use mathlib.Core.List.{List, [], ◌∷◌, ◌++◌}
use Rattle.std.specs.Prelude.{Ok}
use lib.ListN.{length, length-map}
use borrow.Author.Tests.{leb-false}
use Rattle.rules.specs.Words.{first_number}
use Rattle.rules.specs.Limits.{max_notices}
use Rattle.rules.specs.Model.{notice_packet}
use Rattle.rules.proofs.Tests.{passed}
use Rattle.tables.specs.Places.{rows, table_of}
use Rattle.tables.specs.Notices.{notice_of, notices_in, notices_formed}
use Rattle.tables.proofs.NoticeLaws.{note_room, note_behind}
use Rattle.causes.specs.Causes.{of_a_notice}
use Rattle.causes.specs.Notices.{notice_verdict, Takes}

-- where the code has the rows that wait as n, and nothing speaks against one more
module _ (unset : Bool) (largest clock len tag : ℕ) (q : List ℕ) (f : notices_formed q ≡ true) (n : ℕ) (e : n ≡ length (rows q))
    (g : 0 ≡ first_number (of_a_notice unset largest clock n len)) where
  unrefused : 0 ≡ notice_verdict unset largest clock (notices_in q) len
  unrefused = g ∙ ap (λ (k : ℕ). first_number (of_a_notice unset largest clock k len)) (e ∙ sym (length-map (rows q) notice_of))

  -- a place is left
  pub room : 5 * n + 5 ≤ length q
  room =
      let k = passed (of_a_notice unset largest clock n len) (omega arith, (omega arith, (omega arith, (omega arith, tt)))) (sym g) in
      omega (arith, note_room q f (omega (arith, leb-false max_notices n k.1.1.1.0, length-map (rows q) notice_of)))

  pub done : (s : List ℕ) → s ≡ table_of (length q) (rows q ++ notice_packet (record { len = len; tag = tag; arrival = clock }) ∷ [])
      → Takes (notice_verdict unset largest clock (notices_in q) len) clock len tag q (Ok clock) s
  done s i = subst (λ (v : ℕ). Takes v clock len tag q (Ok clock) s) unrefused (refl, refl, i ∙ note_behind q f (record { len = len; tag = tag; arrival = clock }))
