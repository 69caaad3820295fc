-- Numbers put into bytes and got out of them again: one law for every width, and one for every list of widths.
use mathlib.Core.Path.{◌≡◌, refl, sym, ap, ◌∙◌, subst}
use mathlib.Core.Bool.{true}
use mathlib.Core.List.{List, [], ◌∷◌, ◌++◌, append_assoc}
use Prim.Native.Nat.{ℕ, zero, suc, ◌+◌, ◌*◌, ◌/◌, ◌%◌, ◌<◌, ◌≤◌, ◌^◌}
use native.Mathlib.Nat.{pow-suc}
use native.Mathlib.Omega.{arith}
use lib.ListN.{length, get_or, take, drop, length-drop}
use borrow.Author.Tests.{lt-ltb}
use lib.Seq.{get_or-drop, drop_at, take-add}
use Rattle.fields.specs.Numbers.{little, number, put_fields, get_fields, sum, none_lost}
use Rattle.fields.proofs.NumberLaws.{length_little}

-- Each is a byte.
unfoldable pub Bytes : List ℕ → Type 0
Bytes [] = Unit {0}
Bytes (b ∷ bs) = (b < 256) × Bytes bs

pub each_byte : (bs : List ℕ) → ((i : ℕ) → get_or bs i 0 < 256) → Bytes bs
unfolding Bytes
each_byte [] f = tt
each_byte (b ∷ bs) f = (f 0, each_byte bs (λ i. f (suc i)))

-- Reading further on is reading what is left there.
pub number_on : (w n : ℕ) (bs : List ℕ) (at : ℕ) → number w bs (n + at) ≡ number w (drop n bs) at
unfolding number
number_on zero n bs at = refl
number_on (suc w) n bs at =
    let e : n + at + 1 ≡ n + (at + 1) = omega arith in
    rw (get_or-drop n bs at 0, e, number_on w n bs (at + 1))

pub fields_on : (ws : List ℕ) (n : ℕ) (bs : List ℕ) (at : ℕ) → get_fields ws bs (n + at) ≡ get_fields ws (drop n bs) at
unfolding get_fields
fields_on [] n bs at = refl
fields_on (w ∷ ws) n bs at =
    let e : n + at + w ≡ n + (at + w) = omega arith in
    rw (number_on w n bs at, e, fields_on ws n bs (at + w))

-- A number is read back from its bytes.
pub number_back : (w v : ℕ) (rest : List ℕ) → v < 256 ^ w → number w (little w v ++ rest) 0 ≡ v
unfolding number little
number_back zero v rest h = omega arith
number_back (suc w) v rest h =
    let p : 256 ^ suc w ≡ 256 ^ w * 256 = pow-suc 256 w in
    let e : number w (little (suc w) v ++ rest) 1 ≡ v / 256 =
    number_on w 1 (little (suc w) v ++ rest) 0 ∙ number_back w (v / 256) rest (omega arith) in
    omega arith

-- A number's bytes are those that it was read from.
pub little_back : (w : ℕ) (bs : List ℕ) → Bytes bs → w ≤ length bs → little w (number w bs 0) ≡ take w bs
unfolding number little Bytes
little_back zero bs b h = refl
little_back (suc w) [] b h = absurd (omega arith)
little_back (suc w) (x ∷ bs) b h =
    let e : number w (x ∷ bs) 1 ≡ number w bs 0 = number_on w 1 (x ∷ bs) 0 in
    let low : (x + 256 * number w (x ∷ bs) 1) % 256 ≡ x = omega arith in
    let high : (x + 256 * number w (x ∷ bs) 1) / 256 ≡ number w bs 0 = omega arith in
    rw (low, high) (ap (λ l. x ∷ l) (little_back w bs b.1 (omega arith)))

tail_at : (xs : List ℕ) (i : ℕ) → get_or (drop 1 xs) i 0 ≡ get_or xs (suc i) 0
tail_at [] i = refl
tail_at (x ∷ xs) i = refl

-- Numbers are read back from their bytes, where each fits its width.
pub fields_back : (ws xs rest : List ℕ) → ((i : ℕ) → get_or xs i 0 < 256 ^ get_or ws i 0)
    → (i : ℕ) → get_or (get_fields ws (put_fields ws xs ++ rest) 0) i 0 ≡ get_or xs i 0
unfolding get_fields put_fields
fields_back [] xs rest f i = omega (arith, f i)
fields_back (w ∷ ws) xs rest f zero =
    let more = put_fields ws (drop 1 xs) ++ rest in
    ap (λ l. number w l 0) (append_assoc (little w (get_or xs 0 0)) (put_fields ws (drop 1 xs)) rest) ∙ number_back w (get_or xs 0 0) more (f 0)
fields_back (w ∷ ws) xs rest f (suc i) =
    let v = get_or xs 0 0 in
    let more = put_fields ws (drop 1 xs) ++ rest in
    let z : 0 + w ≡ w + 0 = omega arith in
    ap (λ l. get_or (get_fields ws l (0 + w)) i 0) (append_assoc (little w v) (put_fields ws (drop 1 xs)) rest)
    ∙ ap (λ n. get_or (get_fields ws (little w v ++ more) n) i 0) z
    ∙ ap (λ l. get_or l i 0) (fields_on ws w (little w v ++ more) 0 ∙ ap (λ l. get_fields ws l 0) (drop_at (little w v) more w (length_little w v)))
    ∙ fields_back ws (drop 1 xs) rest (λ j. subst (λ n. n < 256 ^ get_or ws j 0) (sym (tail_at xs j)) (f (suc j))) i
    ∙ tail_at xs i

-- Numbers that fit, and numbers that were read, are 0 where they have no byte.
pub fits_none_lost : (ws xs : List ℕ) → ((i : ℕ) → get_or xs i 0 < 256 ^ get_or ws i 0) → none_lost ws xs ≡ true
unfolding none_lost
fits_none_lost [] xs f = refl
fits_none_lost (zero ∷ ws) xs f =
    let e : get_or xs 0 0 ≡ 0 = omega (arith, f 0) in
    rw e (fits_none_lost ws (drop 1 xs) (λ j. subst (λ n. n < 256 ^ get_or ws j 0) (sym (tail_at xs j)) (f (suc j))))
fits_none_lost (suc w ∷ ws) xs f =
    rw (lt-ltb 0 (suc w) (omega arith)) (fits_none_lost ws (drop 1 xs) (λ j. subst (λ n. n < 256 ^ get_or ws j 0) (sym (tail_at xs j)) (f (suc j))))

pub got_none_lost : (ws bs : List ℕ) (at : ℕ) → none_lost ws (get_fields ws bs at) ≡ true
unfolding none_lost get_fields number
got_none_lost [] bs at = refl
got_none_lost (zero ∷ ws) bs at = got_none_lost ws bs (at + 0)
got_none_lost (suc w ∷ ws) bs at = rw (lt-ltb 0 (suc w) (omega arith)) (got_none_lost ws bs (at + suc w))

pub bytes_left : (n : ℕ) (bs : List ℕ) → Bytes bs → Bytes (drop n bs)
unfolding Bytes
bytes_left zero bs b = b
bytes_left (suc n) [] b = b
bytes_left (suc n) (x ∷ bs) b = bytes_left n bs b.1

-- Numbers' bytes are those that they were read from.
pub put_back : (ws bs : List ℕ) → Bytes bs → sum ws ≤ length bs → put_fields ws (get_fields ws bs 0) ≡ take (sum ws) bs
unfolding get_fields put_fields sum
put_back [] bs b h = refl
put_back (w ∷ ws) bs b h =
    let z : 0 + w ≡ w + 0 = omega arith in
    let more : sum ws ≤ length (drop w bs) = simp length-drop (omega arith) in
    rw (z, fields_on ws w bs 0, little_back w bs b (omega arith), put_back ws (drop w bs) (bytes_left w bs b) more) (sym (take-add w (sum ws) bs))
