-- Laws of the line's table: read and written back it is itself, and what is written of a `Kept` is read again.
use Prim.Native.Nat.{ℕ, ◌+◌}
use native.Mathlib.Omega.{arith}
use mathlib.Core.Path.{◌≡◌, refl, ap, ◌∙◌}
use mathlib.Core.Bool.{Bool, true, false, cond}
use mathlib.Core.List.{List, ◌++◌, append-nil}
use lib.Dec.{eqb}
use mir.Val.{bool_byte}
use lib.ListN.{length, drop_of_length-le}
use lib.Seq.{sets, sets-eq}
use borrow.Author.Tests.{eqb-true, eq-eqb, ne_eqb}
use Rattle.rules.specs.Limits.{max_levels}
use Rattle.rules.proofs.Tests.{and_true}
use Rattle.tables.specs.Lent.{Tables}
use Rattle.tables.proofs.TableLaws.{listed_row}
use Rattle.both.specs.declared.Kept.{Kept}
use Rattle.both.specs.View.{sound_kept}
use Rattle.named.specs.Named.{eight_from}
use Rattle.board.specs.Numbers.{line_length, kept_in, numbers_of, sound_lent}

-- ---- the line's table

-- READ AND WRITTEN BACK, a line's table is itself
pub line_back : (l : List ℕ) → length l ≡ line_length → numbers_of (kept_in l) ≡ l
line_back l e = listed_row line_length l e

-- the bounds and the windows are eight each
pub record Eights (h : Kept) : Type 0 where
  pub bounds : length h.hub.link.bounds ≡ max_levels
  pub windows : length h.hub.link.windows ≡ max_levels

with_eights : (h : Kept) (ds ws : List ℕ) → ds ≡ h.hub.link.bounds → ws ≡ h.hub.link.windows
    → ◌≡◌ {A = Kept} (record { hub = record { link = record { levels = h.hub.link.levels; largest = h.hub.link.largest; silence = h.hub.link.silence; early = h.hub.link.early; bounds = ds; windows = ws }; clock = h.hub.clock; wire = h.hub.wire }; frames = h.frames }) h
with_eights h ds ws e f = rw (e, f)

-- WRITTEN AND READ AGAIN, a `Kept` is itself
pub read_again : (h : Kept) → Eights h → kept_in (numbers_of h) ≡ h
read_again h E =
    with_eights h (eight_from 0 h.hub.link.bounds) (eight_from 0 h.hub.link.windows) (listed_row max_levels h.hub.link.bounds E.bounds)
    (listed_row max_levels h.hub.link.windows E.windows)

-- ---- the soundness test

module _ (l : List ℕ) (t : Tables) where
  pub not_long : (length l ≡ line_length → ⊥) → false ≡ sound_lent l t
  unfolding sound_lent
  not_long n = rw (ne_eqb (length l) line_length n)

  pub long_test : length l ≡ line_length → (h : Kept) → h ≡ kept_in l → (b : Bool) → b ≡ sound_kept h t → b ≡ sound_lent l t
  unfolding sound_lent
  long_test e h f b g = rw (eq-eqb (length l) line_length e) (g ∙ ap (λ (x : Kept). sound_kept x t) f)

  module _ (ok : sound_lent l t ≡ true) where
    pub sound_long : length l ≡ line_length
    unfolding sound_lent
    sound_long = eqb-true _ _ (and_true (eqb (length l) line_length) (sound_kept (kept_in l) t) ok).0

    pub sound_kept_in : sound_kept (kept_in l) t ≡ true
    unfolding sound_lent
    sound_kept_in = (and_true (eqb (length l) line_length) (sound_kept (kept_in l) t) ok).1

-- what is written of a sound `Kept` with eights is sound
pub lent_sound : (h : Kept) (t : Tables) → Eights h → sound_kept h t ≡ true → sound_lent (numbers_of h) t ≡ true
unfolding sound_lent
lent_sound h t E ok = ap (λ (x : Kept). sound_kept x t) (read_again h E) ∙ ok

-- ---- a number from a test

pub as_number : (b : Bool) → bool_byte b ≡ cond b 1 0
as_number true = refl
as_number false = refl
