-- A cursor and three tables that stand for a point of the rules whose line is sound.
use Prim.Native.Nat.{ℕ, ◌≤◌, ◌<◌}
use mathlib.Core.Path.{◌≡◌, refl, sym, ap, ◌∙◌}
use mathlib.Core.Bool.{Bool, true, false, cond}
use mathlib.Core.List.{List}
use Rattle.std.specs.Prelude.{None, Some}
use lib.Dec.{ltb}
use lib.ListN.{length}
use borrow.Author.Tests.{lt-ltb, le-ltb, ltb-false}
use Rattle.rules.proofs.Tests.{never}
use Rattle.either_line.specs.Line.{Line, SoundLine}
use Rattle.tables.specs.Lent.{Tables}
use Rattle.both.specs.declared.Kept.{Kept}
use Rattle.both.specs.View.{written, sound_kept}
use Rattle.both.proofs.SoundLaws.{is_sound, tables_kept, kept_back}
use Rattle.both.proofs.WrittenLaws.{written_reads_back}
use Rattle.steps.specs.declared.Cursor.{Cursor}
use Rattle.steps.specs.declared.Status.TheVariants.{MoreRoom, NotSound}
use Rattle.steps.specs.declared.Stepped.{Stepped}
use Rattle.answers.specs.Answers.{longest_answer}
use Rattle.steps.specs.Steps.{Point, point, Next, still}
use Rattle.steps.specs.Tie.{point_of, cursor_of, Makes, MakesIfSound, cursor_at, nothing_done}
use Rattle.replay.specs.Sessions.{refusal}

-- a room of r bytes must hold the longest answer
abbrev pub in_room : ℕ → Point → Next → Next
in_room r p n = cond (ltb r longest_answer) (still p MoreRoom) n

pub record Stands (p : Point) (c : Cursor) (t : Tables) : Type 0 where
  pub sound : SoundLine p.line
  pub cursor : c ≡ cursor_of p
  pub tables : t ≡ written p.line

module _ (p : Point) (c : Cursor) (t : Tables) (S : Stands p c t) where
  pub stands_sound : sound_kept c.line t ≡ true
  stands_sound = rw (S.cursor, S.tables) (written_reads_back p.line S.sound).1

  pub stands_there : point_of c t ≡ p
  stands_there =
      rw (S.cursor, S.tables) (ap (λ (s : Line). point p.at p.phase s) (written_reads_back p.line S.sound).0)

-- a sound line and its tables stand for the point that they are read as
pub stands_of : (c : Cursor) (t : Tables) → sound_kept c.line t ≡ true → Stands (point_of c t) c t
stands_of c t ok =
    record { sound = is_sound c.line t ok; cursor = ap (λ (h : Kept). cursor_at c.at c.phase h) (kept_back c.line t ok); tables = tables_kept c.line t ok }

-- after a step
pub stands_then : (n : Next) (a : Stepped) (t : Tables) (o o' : List ℕ) → SoundLine n.point.line → Makes n a t 0 o o' → Stands n.point a.cursor t
stands_then n a t o o' S D =
    record { sound = S; cursor = ap (λ (x : Stepped). x.cursor) D.answers; tables = D.tables }

-- ---- a call of `step` or `pump`, which tests first

module _ (c : Cursor) (t : Tables) (r : ℕ) where
  pub not_sound : sound_kept c.line t ≡ false → Some (nothing_done c NotSound) ≡ refusal c t r
  unfolding refusal
  not_sound f = rw f

  pub no_room : sound_kept c.line t ≡ true → r < longest_answer → Some (nothing_done c MoreRoom) ≡ refusal c t r
  unfolding refusal
  no_room f l = rw (f, lt-ltb r longest_answer l)

  pub not_refused : sound_kept c.line t ≡ true → longest_answer ≤ r → None ≡ refusal c t r
  unfolding refusal
  not_refused f l = rw (f, le-ltb r longest_answer l)

-- what follows where the test has answered
module _ (c : Cursor) (t : Tables) (o : List ℕ) where
  pub may_go : None ≡ refusal c t (length o) → (sound_kept c.line t ≡ true) × (longest_answer ≤ length o)
  unfolding refusal
  may_go g = go (sound_kept c.line t) refl (ltb (length o) longest_answer) refl g
    where
      go : (s : Bool) → sound_kept c.line t ≡ s → (d : Bool) → ltb (length o) longest_answer ≡ d
          → None ≡ cond s (cond d (Some (nothing_done c MoreRoom)) None) (Some (nothing_done c NotSound))
          → (sound_kept c.line t ≡ true) × (longest_answer ≤ length o)
      go false e d f z = never cc
      go true e true f z = never cc
      go true e false f z = (e, ltb-false _ _ f)

  -- nothing is done
  pub does_nothing : (n : Next) (a : Stepped) → Some a ≡ refusal c t (length o) → MakesIfSound (in_room (length o) (point_of c t) n) c t o a t o
  unfolding refusal
  does_nothing n a g = go (sound_kept c.line t) refl (ltb (length o) longest_answer) refl g
    where
      go : (s : Bool) → sound_kept c.line t ≡ s → (d : Bool) → ltb (length o) longest_answer ≡ d
          → Some a ≡ cond s (cond d (Some (nothing_done c MoreRoom)) None) (Some (nothing_done c NotSound))
          → MakesIfSound (cond d (still (point_of c t) MoreRoom) n) c t o a t o
      go false e d f z = let i : a ≡ nothing_done c NotSound = cc in record { where_sound = λ j. never (sym e ∙ j); where_not = λ _. (i, refl, refl) }
      go true e true f z =
          let S = stands_of c t e in
          let i : a ≡ nothing_done c MoreRoom = cc in
          record {
            where_sound = λ _. record { answers = i ∙ ap (λ (x : Cursor). nothing_done x MoreRoom) S.cursor; tables = S.tables; room = refl };
            where_not = λ j. never (sym j ∙ e);
          }
      go true e false f z = never cc

  -- all is done
  pub does_all : (n : Next) (a : Stepped) (t' : Tables) (o' : List ℕ) → None ≡ refusal c t (length o) → Makes n a t' 0 o o'
      → MakesIfSound (in_room (length o) (point_of c t) n) c t o a t' o'
  does_all n a t' o' g D =
      let m = may_go g in
      rw (le-ltb (length o) longest_answer m.1) (record { where_sound = λ _. D; where_not = λ j. never (sym j ∙ m.0) })
