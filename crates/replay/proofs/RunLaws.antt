-- A step on a part of the window, into a part of the room; and the loop of `run`: what stands after i steps, after one more, and at its end.
use Prim.Native.Nat.{ℕ, zero, suc, ◌+◌, ◌*◌, ◌-◌, ◌/◌, ◌≤◌}
use native.Mathlib.Omega.{arith}
use native.Mathlib.Numerals.{add-one}
use mathlib.Core.Path.{◌≡◌, refl, sym, ap, ◌∙◌, subst}
use mathlib.Core.Bool.{Bool, true, false}
use mathlib.Core.List.{List, ◌++◌, append_assoc}
use lib.ListN.{length, take, drop, length-append, length-drop}
use lib.Seq.{take-append_seam, drop-append_seam, drop-drop}
use Rattle.tables.specs.Lent.{Tables}
use Rattle.both.specs.View.{written, sound_kept}
use Rattle.steps.specs.declared.Cursor.{Cursor}
use Rattle.steps.specs.declared.Status.{Status}
use Rattle.steps.specs.declared.Status.TheVariants.{GoOn, MoreBytes, MoreRoom, NotSound, Done}
use Rattle.steps.specs.declared.Stepped.{Stepped}
use Rattle.answers.specs.Answers.{longest_answer}
use Rattle.steps.specs.Steps.{Point, Next, next, joined, steps, is_go}
use Rattle.steps.proofs.OutcomeLaws.{steps_end_well}
use Rattle.steps.specs.Tie.{point_of, cursor_of, Makes}
use Rattle.fields.specs.Formats.{over}
use Rattle.fields.proofs.PartLaws.{part_all, part_back}
use Rattle.steps.proofs.FactLaws.{next_goes, steps_stay}
use Rattle.replay.proofs.Standing.{Stands, stands_sound, stands_there, stands_of}

-- a step on the window from `used` on, into the room from `wrote` on, which is given back. Of any step, so that a step which is another one is refused before a table
-- is written out
pub on_parts : (n : List ℕ → Next) (w o : List ℕ) (used wrote : ℕ) (a : Stepped) (t : Tables) (o' : List ℕ)
    → Makes (n (take (length w - used) (drop used w))) a t 0 (take (length o - wrote) (drop wrote o)) o'
    → Makes (n (drop used w)) a t wrote o (take wrote o ++ (o' ++ drop (length o - wrote) (drop wrote o)))
on_parts n w o used wrote a t o' D =
    let d = rw (part_all used w, part_all wrote o) at D in
    record { answers = d.answers; tables = d.tables; room = part_back wrote o _ _ d.room }

-- .. takes no more bytes than there are, and writes no more than an answer has
pub step_fits : (p : Point) (w : List ℕ) (last : Bool) (used : ℕ) (a : Stepped) (t : Tables) (wrote : ℕ) (o o' : List ℕ) → Makes (next p (drop used w) last) a t wrote o o'
    → (a.used ≤ length w - used) × (a.wrote ≤ 19)
step_fits p w last used a t wrote o o' D =
    let G = next_goes p (drop used w) last in
    let l : length (drop used w) ≡ length w - used = length-drop used w in
    rw D.answers (omega (arith, l, G.used), omega (arith, G.short))

-- after i steps from c, cs, t, w, o, which may have stopped at the last: s is what that one answered, with all bytes used and written so far
pub record Made (c : Cursor) (t : Tables) (w : List ℕ) (last : Bool) (o : List ℕ) (i : ℕ) (k : Status) (cur : Cursor) (t2 : Tables) (o2 : List ℕ) (used wrote : ℕ) : Type 0 where
  pub status : (steps i (point_of c t) w last).status ≡ k
  pub cursor : cur ≡ cursor_of (steps i (point_of c t) w last).point
  pub tables : t2 ≡ written (steps i (point_of c t) w last).point.line
  pub taken : used ≡ (steps i (point_of c t) w last).used
  pub count : wrote ≡ length (steps i (point_of c t) w last).bytes
  pub bytes : o2 ≡ over (steps i (point_of c t) w last).bytes o
  pub same_room : length o2 ≡ length o
  pub in_window : used ≤ length w
  pub in_room : wrote ≤ 19 * i

over_over : (bs cs l : List ℕ) → take (length bs) (over bs l) ++ over cs (drop (length bs) (over bs l)) ≡ over (bs ++ cs) l
over_over bs cs l = rw (take-append_seam, drop-append_seam, append_assoc, drop-drop, length-append)

pub go_false : (k : Status) → (k ≡ GoOn → ⊥) → is_go k ≡ false
go_false GoOn e = absurd (e refl)
go_false MoreBytes e = refl
go_false MoreRoom e = refl
go_false NotSound e = refl
go_false Done e = refl

module _ (c : Cursor) (t : Tables) (w : List ℕ) (last : Bool) (o : List ℕ) (ok : sound_kept c.line t ≡ true) where
  -- the place reached stands for the rules' point
  pub made_stands : (i : ℕ) (k : Status) (cur : Cursor) (t2 : Tables) (o2 : List ℕ) (used wrote : ℕ) → Made c t w last o i k cur t2 o2 used wrote
      → Stands (steps i (point_of c t) w last).point cur t2
  made_stands i k cur t2 o2 used wrote R =
      record {
        sound = (steps_end_well i (point_of c t) w last (stands_of c t ok).sound).sound;
        cursor = R.cursor;
        tables = R.tables;
      }

  pub made_sound : (i : ℕ) (k : Status) (cur : Cursor) (t2 : Tables) (o2 : List ℕ) (used wrote : ℕ) → Made c t w last o i k cur t2 o2 used wrote
      → sound_kept cur.line t2 ≡ true
  made_sound i k cur t2 o2 used wrote R = stands_sound _ cur t2 (made_stands i k cur t2 o2 used wrote R)

  pub made_none : Made c t w last o 0 GoOn c t o 0 0
  unfolding steps
  made_none =
      record {
        status = refl;
        cursor = (stands_of c t ok).cursor;
        tables = (stands_of c t ok).tables;
        taken = refl;
        count = refl;
        bytes = refl;
        same_room = refl;
        in_window = omega arith;
        in_room = omega arith;
      }

  one_more : (i : ℕ) (cur : Cursor) (t2 : Tables) (o2 : List ℕ) (used wrote : ℕ) → Made c t w last o i GoOn cur t2 o2 used wrote
      → steps (i + 1) (point_of c t) w last ≡ joined (steps i (point_of c t) w last) (next (point_of cur t2) (drop used w) last)
  unfolding steps
  one_more i cur t2 o2 used wrote R =
      rw (add-one i, stands_there _ cur t2 (made_stands i GoOn cur t2 o2 used wrote R), R.taken)

  pub made_more : (i : ℕ) (cur : Cursor) (t2 : Tables) (o2 : List ℕ) (used wrote : ℕ) → Made c t w last o i GoOn cur t2 o2 used wrote
      → (s : Stepped) (t3 : Tables) (o3 : List ℕ) → Makes (next (point_of cur t2) (drop used w) last) s t3 wrote o2 o3
      → length o3 ≡ length o2
      → Made c t w last o (i + 1) s.status s.cursor t3 o3 (used + s.used) (wrote + s.wrote)
  made_more i cur t2 o2 used wrote R s t3 o3 d lo =
      let e = one_more i cur t2 o2 used wrote R in
      let n = next (point_of cur t2) (drop used w) last in
      let f = step_fits (point_of cur t2) w last used s t3 wrote o2 o3 d in
      record {
        status = rw (e, d.answers);
        cursor = rw (e, d.answers);
        tables = rw (e, d.tables);
        taken = rw (e, d.answers, R.taken);
        count = rw (e, d.answers, R.count, length-append);
        bytes = rw e (d.room ∙ rw (R.count, R.bytes) (over_over (steps i (point_of c t) w last).bytes n.bytes o));
        same_room = omega (arith, R.same_room);
        in_window = omega (arith, R.in_window, f.0);
        in_room = omega (arith, R.in_room, f.1);
      }

  -- a step that has stopped is the last
  stays : (j k : ℕ) → is_go (steps k (point_of c t) w last).status ≡ false → steps (j + k) (point_of c t) w last ≡ steps k (point_of c t) w last
  stays zero k e = let i : zero + k ≡ k = omega arith in ap (λ m. steps m (point_of c t) w last) i
  stays (suc j) k e =
      let i : suc j + k ≡ suc (j + k) = omega arith in
      let r = stays j k e in
      ap (λ m. steps m (point_of c t) w last) i ∙ steps_stay (j + k) (point_of c t) w last (ap (λ (m : Next). is_go m.status) r ∙ e) ∙ r

  -- the end: a step stopped, or all were made
  module _ (i : ℕ) (k : Status) (cur : Cursor) (t2 : Tables) (o2 : List ℕ) (used wrote : ℕ) (M : Made c t w last o i k cur t2 o2 used wrote) where
    ends : (n : ℕ) → steps n (point_of c t) w last ≡ steps i (point_of c t) w last
        → Makes (steps n (point_of c t) w last) (record { cursor = cur; used = used; wrote = wrote; status = k }) t2 0 o o2
    ends n e = rw e (record { answers = rw (← M.status, M.cursor, M.taken, M.count); tables = M.tables; room = M.bytes })

    pub run_stopped : is_go k ≡ false → i ≤ length o / 19
        → Makes (steps (length o / longest_answer) (point_of c t) w last) (record { cursor = cur; used = used; wrote = wrote; status = k }) t2 0 o o2
    run_stopped g l =
        let d : length o / 19 ≡ length o / 19 - i + i = omega arith in
        ends (length o / 19) (ap (λ m. steps m (point_of c t) w last) d ∙ stays (length o / 19 - i) i (ap is_go M.status ∙ g))

    pub run_ended : i ≡ length o / 19
        → Makes (steps (length o / longest_answer) (point_of c t) w last) (record { cursor = cur; used = used; wrote = wrote; status = k }) t2 0 o o2
    run_ended e = ends (length o / 19) (ap (λ m. steps m (point_of c t) w last) (sym e))

  pub made_on : (i : ℕ) (k : Status) (cur : Cursor) (t2 : Tables) (o2 : List ℕ) (used wrote : ℕ) → Made c t w last o i k cur t2 o2 used wrote → k ≡ GoOn
      → Made c t w last o i GoOn cur t2 o2 used wrote
  made_on i k cur t2 o2 used wrote M g = subst (λ (j : Status). Made c t w last o i j cur t2 o2 used wrote) g M
