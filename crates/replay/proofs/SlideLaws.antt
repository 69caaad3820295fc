-- What `slide` leaves.
use Prim.Native.Nat.{ℕ, ◌+◌, ◌≤◌}
use native.Mathlib.Omega.{arith}
use mathlib.Core.Path.{◌≡◌, ap, ◌∙◌}
use mathlib.Core.List.{List}
use lib.ListN.{length, take, drop, length-drop}
use lib.Seq.{take-paste}
use Rattle.replay.specs.Slides.{slid}

-- its front is the part that was moved
pub take_slid : (b : List ℕ) (from n : ℕ) → from + n ≤ length b → take n (slid b from n) ≡ take n (drop from b)
take_slid b from n h =
    let e : n ≡ 0 + n = omega arith in
    ap (λ k. take k (slid b from n)) e ∙ take-paste b 0 (drop from b) n (omega arith) (simp length-drop (omega arith))
