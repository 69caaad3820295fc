-- What a caller's loop needs of an answer, by the contract alone: how far the steps go, and that less is left to do. The ticks of a cursor that the code answers fit
-- their 16 bits: so its type says.
use Prim.Native.Nat.{ℕ, zero, suc, ◌+◌, ◌*◌, ◌-◌, ◌/◌, ◌<◌, ◌≤◌}
use native.Mathlib.Omega.{arith}
use mathlib.Core.Path.{◌≡◌, refl}
use mathlib.Core.Bool.{Bool, true, false}
use mathlib.Core.List.{List}
use lib.Dec.{ltb}
use lib.ListN.{length}
use mir.Val.{Val}
use denote.Laws.{Is}
use denote.Struct.Declared as struct
use denote.Enum.Declared as enum
use borrow.Author.Tests.{ltb-false}
use Rattle.rules.proofs.Tests.{never}
use Rattle.fields.proofs.NumberLaws.{cond_by}
use Rattle.tables.specs.Lent.{Tables}
use Rattle.both.specs.View.{sound_kept}
use Rattle.answers.specs.Answers.{longest_answer}
use Rattle.answer_log.specs.Log.{trace_limit}
use Rattle.steps.specs.declared.Phase.{Phase}
use Rattle.steps.specs.declared.Phase.TheVariants.{Reading, Ticking, Finished}
use Rattle.steps.specs.declared.Cursor.{Cursor}
use Rattle.steps.specs.declared.Status.TheVariants.{GoOn, MoreBytes, MoreRoom, NotSound}
use Rattle.steps.specs.declared.Stepped.{Stepped}
use Rattle.steps.specs.Steps.{Next, still, steps, weight, work}
use Rattle.steps.specs.Tie.{point_of}
use Rattle.steps.specs.contracts.Phase as phase
use Rattle.steps.specs.contracts.Stepped as stepped
use Rattle.steps.proofs.FactLaws.{stepped_of, Goes, waits_go, steps_go}
use Rattle.replay.specs.Sessions.{Steps}
use Rattle.replay.proofs.Standing.{in_room}

-- with len bytes in the window and r bytes of room
pub record Facts (c : Cursor) (len : ℕ) (last : Bool) (r : ℕ) (a : Stepped) : Type 0 where
  pub used : a.used ≤ len
  pub wrote : a.wrote ≤ r
  pub place : a.cursor.at ≡ c.at + a.used
  pub within : c.at ≤ trace_limit → a.cursor.at ≤ trace_limit
  pub never_more : work a.cursor.at a.cursor.phase ≤ work c.at c.phase
  pub less : a.status ≡ GoOn → work a.cursor.at a.cursor.phase < work c.at c.phase
  pub wants : a.status ≡ MoreBytes → last ≡ false

-- ---- the range of a cursor's ticks

phase_fits : (q : Phase) (vs : List Val) → Is (enum.row phase.the_type) q vs → weight q ≤ 65536
phase_fits Reading vs i = omega arith
phase_fits (Ticking asked left) vs i = omega (arith, i.1.1.1.1.1.0.1)
phase_fits Finished vs i = omega arith

pub stepped_fits : (a : Stepped) (vs : List Val) → Is (struct.row stepped.the_type) a vs → weight a.cursor.phase ≤ 65536
stepped_fits a vs i = phase_fits a.cursor.phase _ i.1.1.0.1.1.1.0

-- ---- over plain numbers: from the place x and the weight v, u bytes on, to the place y and the weight w

still_within : (u x y : ℕ) → y ≡ x + u → ((u ≡ 0 → ⊥) → y ≤ trace_limit) → x ≤ trace_limit → y ≤ trace_limit
still_within zero x y e f l = omega arith
still_within (suc u) x y e f l = f (λ z. absurd (omega arith))

no_more : (u x y v w : ℕ) → y ≡ x + u → ((u ≡ 0 → ⊥) → y ≤ trace_limit) → (u ≡ 0 → w ≤ v) → w ≤ 65536
    → 65_537 * (trace_limit - y) + w ≤ 65_537 * (trace_limit - x) + v
no_more zero x y v w e f g b = let l : w ≤ v = g refl in let z : y ≡ x = omega arith in rw z (omega arith)
no_more (suc u) x y v w e f g b = let l : y ≤ trace_limit = f (λ z. absurd (omega arith)) in omega arith

less_than : (u x y v w : ℕ) → y ≡ x + u → ((u ≡ 0 → ⊥) → y ≤ trace_limit) → (u ≡ 0 → w < v) → w ≤ 65536
    → 65_537 * (trace_limit - y) + w < 65_537 * (trace_limit - x) + v
less_than zero x y v w e f g b = let l : w < v = g refl in let z : y ≡ x = omega arith in rw z (omega arith)
less_than (suc u) x y v w e f g b = let l : y ≤ trace_limit = f (λ z. absurd (omega arith)) in omega arith

-- ---- of a call

module _ (c : Cursor) (len : ℕ) (last : Bool) (r : ℕ) where
  goes_facts : (k : ℕ) (n : Next) → Goes c.at c.phase len last k n → (n.status ≡ GoOn → 0 < k) → longest_answer * k ≤ r → weight n.point.phase ≤ 65536
      → Facts c len last r (stepped_of n)
  goes_facts k n G p l b =
      record {
        used = G.used;
        wrote = omega (arith, G.short);
        place = G.place;
        within = still_within n.used c.at n.point.at G.place G.within;
        never_more = no_more n.used c.at n.point.at (weight c.phase) (weight n.point.phase) G.place G.within G.lighter b;
        less = λ e. less_than n.used c.at n.point.at (weight c.phase) (weight n.point.phase) G.place G.within (G.less e (p e)) b;
        wants = G.wants;
      }

  none_facts : Facts c len last r (record { cursor = c; used = 0; wrote = 0; status = NotSound })
  none_facts =
      record { used = omega arith; wrote = omega arith; place = omega arith; within = λ l. l; never_more = omega arith; less = λ e. never cc; wants = λ e. never cc }

module _ (k : ℕ) (c : Cursor) (t : Tables) (w : List ℕ) (last : Bool) (o : List ℕ) (a : Stepped) (t' : Tables) (o' : List ℕ)
    (holds : longest_answer ≤ length o → (0 < k) × (longest_answer * k ≤ length o)) (D : Steps k c t w last o a t' o') (b : weight a.cursor.phase ≤ 65536) where
  abbrev Told : Next → Type 0
  Told n = a ≡ stepped_of n → Facts c (length w) last (length o) a

  told_by : (n : Next) (j : ℕ) → Goes c.at c.phase (length w) last j n → (n.status ≡ GoOn → 0 < j) → longest_answer * j ≤ length o → Told n
  told_by n j G p l e =
      let f : weight n.point.phase ≤ 65536 = rw e at b in
      rw e (goes_facts c (length w) last (length o) j n G p l f)

  in_a_room : Told (in_room (length o) (point_of c t) (steps k (point_of c t) w last))
  in_a_room =
      cond_by Told (ltb (length o) longest_answer) _ _
      (λ _. told_by (still (point_of c t) MoreRoom) 0 (waits_go c.at c.phase c.phase (point_of c t).line (length w) last 0 MoreRoom (omega arith) (λ e. never cc) (λ e. never cc)) (λ e. never cc) (omega arith))
      (λ e. let h = holds (ltb-false _ _ e) in told_by (steps k (point_of c t) w last) k (steps_go k (point_of c t) w last) (λ _. h.0) h.1)

  pub facts : Facts c (length w) last (length o) a
  facts = go (sound_kept c.line t) refl
    where
      go : (s : Bool) → sound_kept c.line t ≡ s → Facts c (length w) last (length o) a
      go false e = rw (D.where_not e).0 (none_facts c (length w) last (length o))
      go true e = in_a_room (D.where_sound e).answers

-- .. of `pump`
pub pump_facts : (c : Cursor) (t : Tables) (w : List ℕ) (last : Bool) (o : List ℕ) (a : Stepped) (t' : Tables) (o' : List ℕ)
    → Steps (length o / longest_answer) c t w last o a t' o' → weight a.cursor.phase ≤ 65536 → Facts c (length w) last (length o) a
pump_facts c t w last o a t' o' D b = facts (length o / longest_answer) c t w last o a t' o' (λ l. (omega arith, omega arith)) D b
