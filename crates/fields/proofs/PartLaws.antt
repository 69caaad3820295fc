-- A part of a list that reaches to its end, as a part of a buffer is lent and given back.
use Prim.Native.Nat.{ℕ, ◌-◌}
use native.Mathlib.Omega.{arith}
use mathlib.Core.Path.{◌≡◌}
use mathlib.Core.List.{List, [], ◌++◌, append-nil}
use lib.ListN.{length, take, drop, length-drop, drop_of_length-le}
use lib.Seq.{take_all}

pub part_all : (a : ℕ) (xs : List ℕ) → take (length xs - a) (drop a xs) ≡ drop a xs
part_all a xs = take_all (length xs - a) (drop a xs) (simp length-drop (omega arith))

pub part_back : (a : ℕ) (xs ys zs : List ℕ) → ys ≡ zs → take a xs ++ (ys ++ drop (length xs - a) (drop a xs)) ≡ take a xs ++ zs
part_back a xs ys zs e =
    let d : drop (length xs - a) (drop a xs) ≡ [] = drop_of_length-le (drop a xs) {i = length xs - a} (simp length-drop (omega arith)) in
    rw (d, append-nil, e)
