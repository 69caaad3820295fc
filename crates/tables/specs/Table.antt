-- A lent table of numbers, w to a row: what is read of it, and what is written. Each table gives its width and how a row is laid out: `make` makes what the numbers of a row stand for, `parts` lists them. Document 01, "Link, connections, places".
use Rattle.std.specs.Prelude.{ℕ, zero, suc, ◌*◌, ◌-◌, ◌/◌, Bool, cond, ◌&&◌, List, [], ◌∷◌, ◌++◌, map, eqb, length, get_or, take, drop, replicate}
use Rattle.limits.specs.Zeros.{zeros}

-- ---- rows

-- row i, used or not
abbrev pub row_in : ℕ → List ℕ → ℕ → List ℕ
row_in w t i = take w (drop (w * i) t)

-- the first n rows
abbrev pub rows_in : ℕ → ℕ → List ℕ → List (List ℕ)
rows_in w zero t = []
rows_in w (suc n) t = take w t ∷ rows_in w n (drop w t)

-- the first n numbers of a row, zeros where it ends
abbrev pub numbers : ℕ → List ℕ → List ℕ
numbers zero l = []
numbers (suc n) l = get_or l 0 0 ∷ numbers n (drop 1 l)

-- ---- reading

-- the rows in use come first: those before the first whose second number is 0; a part of a row at the end of the table is none
abbrev pub until : List (List ℕ) → List (List ℕ)
until [] = []
until (r ∷ rs) = cond (eqb (get_or r 1 0) 0) [] (r ∷ until rs)

abbrev pub used : ℕ → List ℕ → List (List ℕ)
used w t = until (rows_in w (length t / w) t)

abbrev pub read : {A : Type 0} → ℕ → (List ℕ → A) → List ℕ → List A
read w make t = map make (used w t)

-- a table of n numbers, with nothing but zeros behind its rows
abbrev pub formed : ℕ → ℕ → List ℕ → Bool
formed w n t = eqb (length t) n && zeros (drop (w * length (used w t)) t)

-- ---- writing

-- the numbers of some rows
abbrev pub write : {A : Type 0} → (A → List ℕ) → List A → List ℕ
write parts [] = []
write parts (x ∷ xs) = parts x ++ write parts xs

-- .. and zeros up to n numbers
abbrev pub padded : {A : Type 0} → ℕ → (A → List ℕ) → ℕ → List A → List ℕ
padded w parts n xs = write parts xs ++ replicate (n - w * length xs) 0
