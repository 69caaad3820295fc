-- THE PROOFS of the statements in specs/Promises, each under its name in small letters.
use Prim.Native.Nat.{ℕ, ◌<◌}
use native.Mathlib.Omega.{arith}
use mathlib.Core.Path.{◌≡◌, refl, sym, ap, ◌∙◌, subst}
use mathlib.Core.Bool.{Bool, true, false}
use mathlib.Core.List.{List, [], ◌++◌, append_assoc, append-nil}
use lib.Dec.{ltb}
use lib.ListN.{length, take, drop}
use lib.Seq.{take-append_seam}
use borrow.Author.Tests.{ltb-true}
use Rattle.rules.proofs.Tests.{never}
use Rattle.either_line.specs.Line.{SoundLine, fresh_line}
use Rattle.either_line.proofs.Results.{fresh_is_sound}
use Rattle.tables.specs.Places.{table_of}
use Rattle.connections.specs.Members.{written_rows}
use Rattle.tables.specs.Lent.{Tables}
use Rattle.state.specs.View.{zero_tables}
use Rattle.both.specs.View.{written, sound_kept}
use Rattle.steps.specs.declared.Phase.{Phase}
use Rattle.steps.specs.declared.Phase.TheVariants.{Finished}
use Rattle.steps.specs.declared.Cursor.{Cursor}
use Rattle.steps.specs.declared.Status.TheVariants.{MoreRoom}
use Rattle.steps.specs.declared.Stepped.{Stepped}
use Rattle.answer_log.specs.Log.{log}
use Rattle.answer_log.specs.Bad.{bad_at}
use Rattle.answers.specs.Answers.{longest_answer}
use Rattle.steps.specs.Steps.{Point, Next, still, beginning, steps}
use Rattle.fields.proofs.NumberLaws.{cond_by}
use Rattle.steps.proofs.StepLaws.{phase_log, to_come, Keeps, steps_keep}
use Rattle.answer_log.proofs.BadLaws.{log_ends}
use Rattle.steps.proofs.MalformedLaws.{phase_tells, Tells as MalformedIn, TellsThen as MalformedThen, tells_more, steps_tell}
use Rattle.steps.proofs.OutcomeLaws.{EndsWell, steps_end_well}
use Rattle.steps.proofs.FactLaws.{stepped_of}
use Rattle.steps.specs.Tie.{cursor_of, Makes}
use Rattle.replay.specs.Sessions.{Steps, Session, call}
use Rattle.replay.specs.Sessions.Session.{start, more}
use Rattle.replay.specs.Promises.{EveryAnswer, EverySession, EndsWithItsER, OneOutcome}
use Rattle.replay.proofs.Standing.{in_room, Stands, stands_sound, stands_there, stands_then}

-- at any time of a session: what was written, and what is to come, is the log; and where the trace is malformed is where what is left of it is
record Holds (trace wrote : List ℕ) (c : Cursor) (t : Tables) (w unread : List ℕ) : Type 0 where
  here : Point
  stands : Stands here c t
  adds_up : wrote ++ to_come here (w ++ unread) ≡ log trace
  told : MalformedIn (bad_at trace) here w unread

-- the tables of the fresh line are zeros
zeros_written : zero_tables ≡ written fresh_line
unfolding written_rows table_of
zeros_written = refl

start_holds : (trace : List ℕ) → Holds trace [] (cursor_of beginning) zero_tables [] trace
unfolding log bad_at
start_holds trace =
    record {
      here = beginning;
      stands = record { sound = fresh_is_sound; cursor = refl; tables = zeros_written };
      adds_up = refl;
      told = refl;
    }

module _ (trace wrote : List ℕ) (c : Cursor) (t : Tables) (w unread : List ℕ) (H : Holds trace wrote c t w unread) where
  -- a step of the rules from here, made by the code
  then_holds : (n : Next) (a : Stepped) (t' : Tables) (o o' : List ℕ) → Keeps H.here w unread n → MalformedThen (bad_at trace) w unread n → SoundLine n.point.line
      → Makes n a t' 0 o o'
      → Holds trace (wrote ++ take a.wrote o') a.cursor t' (drop a.used w) unread
  then_holds n a t' o o' K M S D =
      let e : take a.wrote o' ≡ n.bytes = rw (D.answers, D.room) (take-append_seam n.bytes (drop (length n.bytes) o)) in
      record {
        here = n.point;
        stands = stands_then n a t' o o' S D;
        adds_up = rw (e, append_assoc, ap (λ (x : Stepped). x.used) D.answers) (ap (λ l. wrote ++ l) (sym K) ∙ H.adds_up);
        told = rw (ap (λ (x : Stepped). x.used) D.answers) M;
      }

  -- where the room is short nothing is done; else the step n
  abbrev Outcome : List ℕ → Next → Type 0
  Outcome o n = EveryAnswer w o (stepped_of n) × Keeps H.here w unread n × MalformedThen (bad_at trace) w unread n × SoundLine n.point.line

  outcome : (o : List ℕ) (n : Next) → Keeps H.here w unread n → MalformedThen (bad_at trace) w unread n → EndsWell w n → Outcome o (in_room (length o) H.here n)
  outcome o n K M E =
      cond_by (Outcome o) (ltb (length o) longest_answer) (still H.here MoreRoom) n
      (λ e. let l : length o < longest_answer = ltb-true _ _ e in (
        record { done_is_finished = λ z. never cc; never_refused = λ k. absurd (omega arith); asks_when_short = λ z. never cc },
        refl,
        H.told,
        H.stands.sound,
      ))
      (λ _. (record { done_is_finished = E.finished; never_refused = λ _. (E.room_enough, E.never_unsound); asks_when_short = E.short }, K, M, E.sound))

  -- what a call may do, whatever its room
  call_holds : (k : ℕ) (last : Bool) → (last ≡ true → unread ≡ []) → (o : List ℕ) (a : Stepped) (t' : Tables) (o' : List ℕ) → Steps k c t w last o a t' o'
      → Holds trace (wrote ++ take a.wrote o') a.cursor t' (drop a.used w) unread × EveryAnswer w o a
  call_holds k last g o a t' o' D =
      let n = steps k H.here w last in
      let ok = stands_sound H.here c t H.stands in
      let there = stands_there H.here c t H.stands in
      let d = subst (λ (p : Point). Makes (in_room (length o) p (steps k p w last)) a t' 0 o o') there (D.where_sound ok) in
      let r = outcome o n (steps_keep k H.here w unread last g) (steps_tell (bad_at trace) k H.here w unread last g H.told) (steps_end_well k H.here w last H.stands.sound) in (
        then_holds (in_room (length o) H.here n) a t' o o' r.1 r.2 r.3 d,
        subst (EveryAnswer w o) (sym d.answers) r.0,
      )

session_holds : {trace wrote : List ℕ} {c : Cursor} {t : Tables} {w unread : List ℕ} → Session trace wrote c t w unread → Holds trace wrote c t w unread
session_holds start = start_holds _
session_holds (more {w} got unread S) =
    let H = session_holds S in
    record { here = H.here; stands = H.stands; adds_up = rw append_assoc H.adds_up; told = tells_more _ H.here.phase H.here.at w got unread H.told }
session_holds (call {wrote} {c} {t} {w} {unread} k last g o a t' o' D S) = (call_holds _ wrote c t w unread (session_holds S) k last g o a t' o' D).0

pub every_session : EverySession
every_session trace wrote c t w unread S =
    let H = session_holds S in
    let there : (c.phase ≡ Finished) → H.here.phase ≡ Finished = λ e. sym (ap (λ (x : Cursor). x.phase) H.stands.cursor) ∙ e in
    record {
      writes_the_log = λ e.
          sym (append-nil wrote)
          ∙ (ap (λ l. wrote ++ l) (sym (ap (λ (p : Phase). phase_log p H.here.at H.here.line (w ++ unread)) (there e))) ∙ H.adds_up);
      writes_nothing_else = rw (← H.adds_up) (take-append_seam wrote (to_come H.here (w ++ unread)));
      tells_the_malformed = λ e.
          let k : H.here.at ≡ c.at = sym (ap (λ (x : Cursor). x.at) H.stands.cursor) in
          rw (← k) (subst (λ (p : Phase). phase_tells (bad_at trace) p H.here.at w unread) (there e) H.told);
      answers = λ k last g o a t' o' D. (call_holds trace wrote c t w unread H k last g o a t' o' D).1;
    }

pub ends_with_its_er : EndsWithItsER
ends_with_its_er = log_ends

pub one_outcome : OneOutcome
one_outcome n c t o a a' u u' p p' D E = go (sound_kept c.line t) refl
  where
    go : (b : Bool) → sound_kept c.line t ≡ b → (a ≡ a') × (u ≡ u') × (p ≡ p')
    go true ok =
        let d = D.where_sound ok in
        let e = E.where_sound ok in
        (d.answers ∙ sym e.answers, d.tables ∙ sym e.tables, d.room ∙ sym e.room)
    go false not =
        let d = D.where_not not in
        let e = E.where_not not in
        (d.0 ∙ sym e.0, d.1 ∙ sym e.1, d.2 ∙ sym e.2)
