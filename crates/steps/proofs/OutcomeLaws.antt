-- What a status says of a step: where it is done nothing is to come, and where it wants bytes the window is short; a step keeps the line sound, and is refused nowhere.
use Prim.Native.Nat.{ℕ, zero, suc, ◌<◌}
use mathlib.Core.Path.{◌≡◌, refl}
use mathlib.Core.Bool.{Bool, not, ◌&&◌}
use mathlib.Core.List.{List}
use lib.Dec.{ltb, eqb}
use lib.ListN.{length, drop}
use lib.Seq.{drop-drop}
use borrow.Author.Tests.{eqb-false, ltb-true}
use Rattle.rules.proofs.Tests.{never, and_true}
use Rattle.either_line.specs.Line.{Line, tick, SoundLine, respond}
use Rattle.either_line.proofs.Results.{sound_is_kept}
use Rattle.both.specs.Quiet.{quiet_ticks}
use Rattle.fields.proofs.NumberLaws.{cond_by}
use Rattle.traces.specs.Trace.{longest_record}
use Rattle.answer_log.specs.Log.{Asked, one_call, some_ticks, unread, read_at, asks_read, taken}
use Rattle.steps.specs.declared.Phase.{Phase}
use Rattle.steps.specs.declared.Phase.TheVariants.{Reading, Ticking, Finished}
use Rattle.steps.specs.declared.Status.TheVariants.{GoOn, MoreBytes, MoreRoom, NotSound, Done}
use Rattle.steps.specs.Steps.{Point, Next, asked_next, read_next, one_tick, tick_next, phase_next, next, joined, steps}
use Rattle.steps.proofs.PassLaws.{quiet_passes}

-- of a step on the window w: where it is done the replay is finished; where it wants bytes fewer than the longest record are left; and the line after it is sound
pub record EndsWell (w : List ℕ) (n : Next) : Type 0 where
  pub finished : n.status ≡ Done → n.point.phase ≡ Finished
  pub short : n.status ≡ MoreBytes → length (drop n.used w) < longest_record
  pub room_enough : n.status ≡ MoreRoom → ⊥
  pub never_unsound : n.status ≡ NotSound → ⊥
  pub sound : SoundLine n.point.line

module _ (w : List ℕ) (n : Next) (S : SoundLine n.point.line) where
  goes_well : n.status ≡ GoOn → EndsWell w n
  goes_well g = record { finished = λ e. cc; short = λ e. never cc; room_enough = λ e. never cc; never_unsound = λ e. never cc; sound = S }

  done_well : n.status ≡ Done → n.point.phase ≡ Finished → EndsWell w n
  done_well d f = record { finished = λ e. f; short = λ e. never cc; room_enough = λ e. never cc; never_unsound = λ e. never cc; sound = S }

  wants_well : n.status ≡ MoreBytes → length (drop n.used w) < longest_record → EndsWell w n
  wants_well m l = record { finished = λ e. cc; short = λ e. l; room_enough = λ e. never cc; never_unsound = λ e. never cc; sound = S }

module _ (s : Line) (S : SoundLine s) where
  asked_ends : (w : List ℕ) (q : Asked) (k at : ℕ) → EndsWell w (asked_next q k at s)
  asked_ends w (one_call c) k at = goes_well w _ (sound_is_kept c s S) refl
  asked_ends w (some_ticks a) k at = goes_well w _ S refl
  asked_ends w unread k at = done_well w _ S refl refl

  read_ends_well : (at : ℕ) (w : List ℕ) (last : Bool) → EndsWell w (read_next at s w last)
  unfolding read_next
  read_ends_well at w last =
      cond_by (EndsWell w) (last && eqb (length w) 0) _ _ (λ _. done_well w _ S refl refl)
      (λ _. cond_by (EndsWell w) (not last && ltb (length w) longest_record) _ _
      (λ e. wants_well w _ S refl (ltb-true _ _ (and_true (not last) (ltb (length w) longest_record) e).1))
      (λ _. asked_ends w (asks_read (read_at at w)) (taken (read_at at w)) at))

  one_tick_ends_well : (w : List ℕ) (at asked left : ℕ) → EndsWell w (one_tick at asked left s)
  unfolding one_tick
  one_tick_ends_well w at asked left =
      cond_by (EndsWell w) (eqb (respond tick s).verdict 0) _ _ (λ _. goes_well w _ (sound_is_kept tick s S) refl) (λ _. goes_well w _ (sound_is_kept tick s S) refl)

  tick_ends_well : (w : List ℕ) (at asked left : ℕ) → EndsWell w (tick_next at asked left s)
  unfolding tick_next one_tick
  tick_ends_well w at asked left =
      cond_by (EndsWell w) (eqb left 0) _ _ (λ _. goes_well w _ S refl)
      (λ _. cond_by (EndsWell w) (eqb (quiet_ticks left s) 0) _ _ (λ _. one_tick_ends_well w at asked left)
      (λ z. goes_well w _ (quiet_passes asked left s (eqb-false _ _ z)).sound_then refl))

  phase_ends_well : (q : Phase) (at : ℕ) (w : List ℕ) (last : Bool) → EndsWell w (phase_next q at s w last)
  phase_ends_well Reading at w last = read_ends_well at w last
  phase_ends_well (Ticking asked left) at w last = tick_ends_well w at asked left
  phase_ends_well Finished at w last = done_well w _ S refl refl

pub step_ends_well : (p : Point) (w : List ℕ) (last : Bool) → SoundLine p.line → EndsWell w (next p w last)
unfolding next
step_ends_well p w last S = phase_ends_well p.line S p.phase p.at w last

joined_end_well : (w : List ℕ) (last : Bool) (m : Next) → EndsWell w m → EndsWell w (joined m (next m.point (drop m.used w) last))
joined_end_well w last m E =
    let N = step_ends_well m.point (drop m.used w) last E.sound in
    record { finished = N.finished; short = λ e. rw (← drop-drop (next m.point (drop m.used w) last).used m.used w) (N.short e); room_enough = N.room_enough; never_unsound = N.never_unsound; sound = N.sound }

pub steps_end_well : (k : ℕ) (p : Point) (w : List ℕ) (last : Bool) → SoundLine p.line → EndsWell w (steps k p w last)
unfolding steps
steps_end_well zero p w last S = goes_well w _ S refl
steps_end_well (suc k) p w last S = joined_end_well w last (steps k p w last) (steps_end_well k p w last S)
