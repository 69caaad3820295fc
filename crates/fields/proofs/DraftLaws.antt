-- Laws of drafts: the bytes that each number adds, and what of them is written.
use Rattle.std.proofs.Common.{◌≡◌, refl, sym, ap, ◌∙◌, List, [], ◌∷◌, ◌++◌, ℕ, suc, zero, ◌+◌, ◌-◌, ◌/◌, ◌%◌, ◌<◌, ◌≤◌, length, get_or, set, take, drop, replicate, append_assoc, append-nil, length-take-le, arith}
use Rattle.std.proofs.lemmas.List.{drop-set-lt, drop-drop, drop-replicate}
use borrow.Author.Tests.{lt-ltb, le-ltb}
use Rattle.fields.specs.Numbers.{little, put_fields}
use Rattle.fields.specs.Formats.{fitting, over}

pub little_one : (v : ℕ) → v < 256 → little 1 v ≡ v ∷ []
unfolding little
little_one v h = let e : v % 256 ≡ v = omega arith in rw e

low_twice : (v : ℕ) → v % 256 % 256 ≡ v % 256
low_twice v = omega arith

-- A list of two is its elements.
pub pair_of : (xs : List ℕ) → length xs ≡ 2 → get_or xs 0 0 ∷ get_or xs 1 0 ∷ [] ≡ xs
pair_of [] h = absurd (omega arith)
pair_of (a ∷ []) h = absurd (omega arith)
pair_of (a ∷ b ∷ []) h = refl
pair_of (a ∷ b ∷ c ∷ xs) h = absurd (omega arith)

-- A number's bytes, one by one.
pub two_bytes : (v : ℕ) → little 1 (v % 256) ++ little 1 (v / 256 % 256) ≡ little 2 v
unfolding little
two_bytes v = rw (low_twice v, low_twice (v / 256))

pub four_bytes : (v : ℕ)
    → ((little 1 (v % 256) ++ little 1 (v / 256 % 256)) ++ little 1 (v / 65536 % 256)) ++ little 1 (v / 16777216 % 256) ≡ little 4 v
unfolding little
four_bytes v =
    let c : v / 256 / 256 ≡ v / 65536 = omega arith in
    let d : v / 65536 / 256 ≡ v / 16777216 = omega arith in
    rw (low_twice v, low_twice (v / 256), low_twice (v / 65536), low_twice (v / 16777216), c, d)

-- One number more, of those in two bytes each.
pub put_snoc : (k : ℕ) (xs : List ℕ) → k < length xs
    → put_fields (replicate (suc k) 2) (take (suc k) xs) ≡ put_fields (replicate k 2) (take k xs) ++ little 2 (get_or xs k 0)
unfolding put_fields
put_snoc k [] h = absurd (omega arith)
put_snoc zero (x ∷ xs) h = append-nil (little 2 x)
put_snoc (suc k) (x ∷ xs) h =
    ap (λ l. little 2 x ++ l) (put_snoc k xs (omega arith))
    ∙ sym (append_assoc (little 2 x) (put_fields (replicate k 2) (take k xs)) (little 2 (get_or xs k 0)))

-- Behind one byte more is one 0 less.
pub zeros_behind : (n at v : ℕ) (bytes : List ℕ) → drop at bytes ≡ replicate (n - at) 0 → drop (at + 1) (set bytes at v) ≡ replicate (n - (at + 1)) 0
zeros_behind n at v bytes zeros =
    let e : n - at - 1 ≡ n - (at + 1) = omega arith in
    rw (drop-set-lt (at + 1) bytes at v (omega arith), ← drop-drop 1 at bytes, zeros, drop-replicate {X = ℕ} 1 (n - at) 0, e)

-- The bytes of a draft are as many as it says.
pub count_held : (n : ℕ) (bytes held : List ℕ) → take n bytes ≡ held → n ≤ length bytes → length held ≡ n
count_held n bytes held e h = ap length (sym e) ∙ length-take-le n bytes h

-- What of a draft's bytes is written, and what the room holds then.
pub no_room : (bs room : List ℕ) → length room < length bs → (0 ≡ length (fitting bs room)) × (room ≡ over (fitting bs room) room)
unfolding fitting
no_room bs room h = rw (lt-ltb (length room) (length bs) h) (refl, refl)

pub room_enough : (bs room : List ℕ) → length bs ≤ length room → (length bs ≡ length (fitting bs room)) × (over bs room ≡ over (fitting bs room) room)
unfolding fitting
room_enough bs room h = rw (le-ltb (length room) (length bs) h) (refl, refl)
