-- Answers that are written: their lengths, the room that holds them, and their numbers of one byte.
use Prim.Native.Nat.{ℕ, zero, suc, ◌%◌, ◌≤◌}
use native.Mathlib.Omega.{arith}
use mathlib.Core.Path.{◌≡◌, refl}
use mathlib.Core.List.{List}
use lib.ListN.{length}
use borrow.Author.Tests.{le-ltb}
use Rattle.fields.specs.Numbers.{little, put_fields, none_lost}
use Rattle.fields.specs.Formats.{laid, fitting, over}
use Rattle.answers.specs.declared.Reply.{Reply}
use Rattle.answers.specs.declared.Reply.TheVariants.{Linked, Admitted, Closed, Offered, Noticed, Departed, Ticked, Broken}
use Rattle.answers.specs.Answers.{answer_bytes, answer_table, longest_answer}
use Rattle.answers.proofs.Laws.{answers_lawful}

table_short : (r : Reply) → answer_table r ≤ longest_answer
table_short (Linked v) = omega arith
table_short (Admitted v c l u) = omega arith
table_short (Closed v) = omega arith
table_short (Offered v e) = omega arith
table_short (Noticed v e) = omega arith
table_short (Departed c t a e f) = omega arith
table_short (Ticked v n) = omega arith
table_short (Broken o) = omega arith

pub answer_short : (r : Reply) → length (answer_bytes r) ≤ longest_answer
answer_short r = go (length (answer_bytes r)) refl
  where
    go : (n : ℕ) → length (answer_bytes r) ≡ n → n ≤ longest_answer
    go zero e = omega arith
    go (suc n) e = omega (arith, answers_lawful.has_length r (omega arith), table_short r)

-- a room that holds the longest answer holds each
pub length_written : (r : Reply) (o : List ℕ) → longest_answer ≤ length o → length (fitting (answer_bytes r) o) ≡ length (answer_bytes r)
unfolding fitting
length_written r o h = rw (le-ltb (length o) (length (answer_bytes r)) (omega (arith, answer_short r)))

pub room_written : (r : Reply) (o : List ℕ) → longest_answer ≤ length o → over (fitting (answer_bytes r) o) o ≡ over (answer_bytes r) o
unfolding fitting
room_written r o h = rw (le-ltb (length o) (length (answer_bytes r)) (omega (arith, answer_short r)))

-- a number of one byte is written as its low byte
low_twice : (v : ℕ) → v % 256 % 256 ≡ v % 256
low_twice v = omega arith

pub linked_low : (v x : ℕ) → v ≡ x % 256 → answer_bytes (Linked v) ≡ answer_bytes (Linked x)
unfolding laid none_lost put_fields little
linked_low v x e = rw (e, low_twice x)

pub admitted_low : (v n l u x y z w : ℕ) → v ≡ x % 256 → n ≡ y % 256 → l ≡ z % 256 → u ≡ w → answer_bytes (Admitted v n l u) ≡ answer_bytes (Admitted x y z w)
unfolding laid none_lost put_fields little
admitted_low v n l u x y z w e f g h = rw (e, f, g, h, low_twice x, low_twice y, low_twice z)

pub closed_low : (v x : ℕ) → v ≡ x % 256 → answer_bytes (Closed v) ≡ answer_bytes (Closed x)
unfolding laid none_lost put_fields little
closed_low v x e = rw (e, low_twice x)

pub offered_low : (v n x y : ℕ) → v ≡ x % 256 → n ≡ y → answer_bytes (Offered v n) ≡ answer_bytes (Offered x y)
unfolding laid none_lost put_fields little
offered_low v n x y e f = rw (e, f, low_twice x)

pub noticed_low : (v n x y : ℕ) → v ≡ x % 256 → n ≡ y → answer_bytes (Noticed v n) ≡ answer_bytes (Noticed x y)
unfolding laid none_lost put_fields little
noticed_low v n x y e f = rw (e, f, low_twice x)

pub ticked_low : (v n x : ℕ) → v ≡ x % 256 → answer_bytes (Ticked v n) ≡ answer_bytes (Ticked x n)
unfolding laid none_lost put_fields little
ticked_low v n x e = rw (e, low_twice x)

pub departed_low : (v x tag arrival eligibility finish : ℕ) → v ≡ x % 256
    → answer_bytes (Departed v tag arrival eligibility finish) ≡ answer_bytes (Departed x tag arrival eligibility finish)
unfolding laid none_lost put_fields little
departed_low v x tag arrival eligibility finish e = rw (e, low_twice x)
