-- The laws of frames: nothing else divides.
use Prim.Native.Nat.{ℕ, ◌+◌, ◌*◌, ◌≤◌, ◌<◌}
use native.Mathlib.Omega.{arith}
use native.Mathlib.Nat.{div-mul-le_self, lt-div-mul-add, le-div_iff_mul-le, div-lt_iff_lt-mul, div-eq_of_lt-le, le_of_mul-le-mul_right, mul-le-mul_right}
use mathlib.Core.Path.{◌≡◌, ap, ◌∙◌}
use mathlib.Core.Logic.{◌⊎◌, inl, inr, ⊎_elim}
use Rattle.rules.proofs.Sums.{split}
use Rattle.frames.specs.Service.{next_frame, leaves_by}
use Rattle.frames.proofs.Names.{frame_of}

module _ (T : ℕ) where
  pub next_by_frame : (a b : ℕ) → frame_of T a ≡ frame_of T b → next_frame T a ≡ next_frame T b
  unfolding next_frame
  next_by_frame a b e = ap (λ (f : ℕ). (f + 1) * T) e

  -- the end of the frame after it lies a frame behind the start of the next
  pub leaves_by_is : (a : ℕ) → leaves_by T a ≡ next_frame T a + T
  unfolding next_frame leaves_by
  leaves_by_is a = omega arith

  module _ (pos : 0 < T) where
    pub frame_mono : (a b : ℕ) → a ≤ b → frame_of T a ≤ frame_of T b
    frame_mono a b h = (le-div_iff_mul-le pos).1 (omega (arith, div-mul-le_self a T))

    pub next_after : (t : ℕ) → t < next_frame T t
    unfolding next_frame
    next_after t = omega (arith, lt-div-mul-add {a = t} pos)

    pub next_near : (t : ℕ) → next_frame T t ≤ t + T
    unfolding next_frame
    next_near t = omega (arith, div-mul-le_self t T)

    -- a packet that arrived is eligible by the end of this frame
    pub next_mono : (a b : ℕ) → a ≤ b → next_frame T a ≤ next_frame T b
    unfolding next_frame
    next_mono a b h = ⊎_elim (λ e. omega (arith, ap (λ (f : ℕ). f * T) e)) (λ l. omega (arith, more l)) (either (split (frame_of T b) (frame_of T a)))
      where
        either : (frame_of T b ≤ frame_of T a) ⊎ (frame_of T a < frame_of T b) → (frame_of T a ≡ frame_of T b) ⊎ (frame_of T a < frame_of T b)
        either (inl k) = inl (omega (arith, frame_mono a b h))
        either (inr k) = inr k

        more : frame_of T a < frame_of T b → (frame_of T a + 1) * T ≤ frame_of T b * T
        more l = mul-le-mul_right {m = frame_of T a + 1} {n = frame_of T b} T (omega arith)

    -- it is not eligible yet exactly if it arrived in this frame
    pub same_frame : (a t : ℕ) → a ≤ t → t < next_frame T a → frame_of T a ≡ frame_of T t
    unfolding next_frame
    same_frame a t h l =
        let k : frame_of T t < frame_of T a + 1 = (div-lt_iff_lt-mul pos).1 l in
        omega (arith, frame_mono a t h)

    pub in_this_frame : (a t : ℕ) → frame_of T a ≡ frame_of T t → t < next_frame T a
    in_this_frame a t e = omega (arith, next_after t, next_by_frame a t e)

    pub ends_this_frame : (a t : ℕ) → a ≤ t → t < next_frame T a → next_frame T a ≡ next_frame T t
    ends_this_frame a t h l = next_by_frame a t (same_frame a t h l)

    -- one that is not older than the frame before
    pub one_before : (a t : ℕ) → next_frame T t ≤ next_frame T a + T → frame_of T t ≤ frame_of T a + 1
    unfolding next_frame
    one_before a t h =
        let k : frame_of T t + 1 ≤ frame_of T a + 2 = le_of_mul-le-mul_right {m = frame_of T t + 1} {n = frame_of T a + 2} {k = T} (omega arith) pos in
        omega arith

    -- the clock moves on: in the frame, or into the next
    pub step : (t : ℕ) → ((t + 1 < next_frame T t) × (next_frame T (t + 1) ≡ next_frame T t)) ⊎ ((t + 1 ≡ next_frame T t) × (next_frame T (t + 1) ≡ next_frame T t + T))
    unfolding next_frame
    step t = go (split (next_frame T t) (t + 1))
      where
        go : (next_frame T t ≤ t + 1) ⊎ (t + 1 < next_frame T t)
            → ((t + 1 < (frame_of T t + 1) * T) × ((frame_of T (t + 1) + 1) * T ≡ (frame_of T t + 1) * T)) ⊎ ((t + 1 ≡ (frame_of T t + 1) * T) × ((frame_of T (t + 1) + 1) * T ≡ (frame_of T t + 1) * T + T))
        go (inr l) =
            let e : frame_of T (t + 1) ≡ frame_of T t = div-eq_of_lt-le T (omega (arith, div-mul-le_self t T)) l in
            inl (l, ap (λ (f : ℕ). (f + 1) * T) e)
        go (inl l) =
            let i : t + 1 ≡ (frame_of T t + 1) * T = omega (arith, lt-div-mul-add {a = t} pos) in
            let e : frame_of T (t + 1) ≡ frame_of T t + 1 = div-eq_of_lt-le T (omega arith) (omega arith) in
            inr (i, ap (λ (f : ℕ). (f + 1) * T) e ∙ omega arith)
