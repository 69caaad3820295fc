-- Bytes that move to the front of a buffer.
use Rattle.std.specs.Prelude.{ℕ, ◌-◌, cond, List, ltb, drop}
use Rattle.std.proofs.Math.Seq.{paste}

-- how many bytes lie from `from` to `to` in a buffer of n: none where that is no part of it
abbrev pub slide_length : ℕ → ℕ → ℕ → ℕ
slide_length from to n = cond (ltb to from) 0 (cond (ltb n to) 0 (to - from))

-- the buffer with k bytes from `from` on at its front
abbrev pub slid : List ℕ → ℕ → ℕ → List ℕ
slid b from k = paste b 0 (drop from b) k
