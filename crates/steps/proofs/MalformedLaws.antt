-- Where a trace is malformed: a step leaves it where it is, and a replay that is finished stands there, or has nothing left.
use Prim.Native.Nat.{ℕ, zero, suc, ◌+◌, ◌<◌, ◌≤◌}
use native.Mathlib.Omega.{arith}
use mathlib.Core.Path.{◌≡◌, refl, ap, ◌∙◌}
use mathlib.Core.Bool.{Bool, true, false, cond}
use mathlib.Core.List.{List, [], ◌∷◌, ◌++◌, append_assoc, append-nil}
use mathlib.Core.Option.{Option, none, some}
use lib.Dec.{ltb, eqb}
use lib.ListN.{length, drop, length-append}
use lib.Seq.{drop-append-le, drop-drop}
use borrow.Author.Tests.{ne_eqb, ltb-false, eqb-true, eqb-false}
use Rattle.either_line.specs.Line.{Line, tick, respond}
use Rattle.both.specs.Quiet.{quiet_ticks}
use Rattle.fields.proofs.NumberLaws.{cond_by}
use Rattle.traces.specs.Trace.{longest_record}
use Rattle.answer_log.specs.Log.{Asked, one_call, some_ticks, unread, read_at, asks_read, taken}
use Rattle.answer_log.specs.Bad.{first_bad}
use Rattle.answer_log.proofs.ReadLaws.{read_lies, read_onward}
use Rattle.answer_log.proofs.LogLaws.{asked_from}
use Rattle.answer_log.proofs.BadLaws.{bad_from, bad_of_none, bad_of_some}
use Rattle.steps.specs.declared.Phase.{Phase}
use Rattle.steps.specs.declared.Phase.TheVariants.{Reading, Ticking, Finished}
use Rattle.steps.specs.Steps.{Point, Next, asked_next, read_next, tick_next, phase_next, next, joined, steps}

-- ---- of a point with the window w and u behind it: b is where the trace is malformed

abbrev pub phase_tells : Option ℕ → Phase → ℕ → List ℕ → List ℕ → Type 0
phase_tells b Reading at w u = b ≡ bad_from at (w ++ u)
phase_tells b (Ticking asked left) at w u = b ≡ bad_from at (w ++ u)
phase_tells b Finished at w u = (b ≡ cond (eqb (length w) 0) none (some at)) × (length w ≡ 0 → u ≡ [])

abbrev pub Tells : Option ℕ → Point → List ℕ → List ℕ → Type 0
Tells b p w u = phase_tells b p.phase p.at w u

abbrev pub TellsThen : Option ℕ → List ℕ → List ℕ → Next → Type 0
TellsThen b w u n = Tells b n.point (drop n.used w) u

-- more bytes come into the window
nothing : (l k : List ℕ) → length (l ++ k) ≡ 0 → (l ≡ []) × (k ≡ [])
nothing [] [] e = (refl, refl)
nothing [] (x ∷ k) e = absurd (omega arith)
nothing (x ∷ l) k e = absurd (omega arith)

pub tells_more : (b : Option ℕ) (q : Phase) (at : ℕ) (w got u : List ℕ) → phase_tells b q at w (got ++ u) → phase_tells b q at (w ++ got) u
tells_more b Reading at w got u T = rw append_assoc T
tells_more b (Ticking asked left) at w got u T = rw append_assoc T
tells_more b Finished at [] got u T =
    let e = T.1 refl in
    let z = nothing got u (ap length e) in
    (rw z.0 T.0, λ _. z.1)
tells_more b Finished at (x ∷ w) got u T = (
  T.0 ∙ rw (ne_eqb (length (x ∷ w)) 0 (omega arith), ne_eqb (length ((x ∷ w) ++ got)) 0 (omega arith)),
  λ z. absurd (omega arith),
)

module _ (b : Option ℕ) (s : Line) where
  asked_tells : (q : Asked) (k at : ℕ) (w u : List ℕ) → 0 < length w → k ≤ length w → b ≡ first_bad ((q, at) ∷ asked_from (at + k) (drop k (w ++ u))) → TellsThen b w u (asked_next q k at s)
  asked_tells (one_call c) k at w u h l e = e ∙ ap (bad_from (at + k)) (drop-append-le k w u l)
  asked_tells (some_ticks x) k at w u h l e = e ∙ ap (bad_from (at + k)) (drop-append-le k w u l)
  asked_tells unread k at w u h l e = (rw (ne_eqb (length w) 0 (omega arith)) e, λ z. absurd (omega arith))

  found_tells : (at : ℕ) (w u : List ℕ) → 0 < length w → read_at at (w ++ u) ≡ read_at at w → b ≡ bad_from at (w ++ u) → TellsThen b w u (asked_next (asks_read (read_at at w)) (taken (read_at at w)) at s)
  found_tells at w u h e T =
      asked_tells (asks_read (read_at at w)) (taken (read_at at w)) at w u h (read_lies at w).fits
      (T ∙ bad_of_some at (w ++ u) (simp length-append (omega arith)) ∙ rw e)

  read_tells : (at : ℕ) (w u : List ℕ) (last : Bool) → (last ≡ true → u ≡ []) → b ≡ bad_from at (w ++ u) → TellsThen b w u (read_next at s w last)
  unfolding read_next
  read_tells at w u true g T =
      cond_by (TellsThen b w u) (eqb (length w) 0) _ _
      (λ e. let n : length w ≡ 0 = eqb-true _ _ e in (rw e (T ∙ bad_of_none at (w ++ u) (rw (g refl) (simp length-append (omega arith)))), λ _. g refl))
      (λ e. found_tells at w u (let n : length w ≡ 0 → ⊥ = eqb-false _ _ e in omega arith) (rw (g refl) (ap (read_at at) (append-nil w))) T)
  read_tells at w u false g T =
      cond_by (TellsThen b w u) (ltb (length w) longest_record) _ _
      (λ e. T)
      (λ e. let n : longest_record ≤ length w = ltb-false _ _ e in found_tells at w u (omega arith) (read_onward at w u n) T)

  tick_tells : (at asked left : ℕ) (w u : List ℕ) → b ≡ bad_from at (w ++ u) → TellsThen b w u (tick_next at asked left s)
  unfolding tick_next
  tick_tells at asked left w u T =
      cond_by (TellsThen b w u) (eqb left 0) _ _ (λ _. T)
      (λ _. cond_by (TellsThen b w u) (eqb (quiet_ticks left s) 0) _ _ (λ _. cond_by (TellsThen b w u) (eqb (respond tick s).verdict 0) _ _ (λ _. T) (λ _. T)) (λ _. T))

  phase_tells_then : (q : Phase) (at : ℕ) (w u : List ℕ) (last : Bool) → (last ≡ true → u ≡ []) → phase_tells b q at w u → TellsThen b w u (phase_next q at s w last)
  phase_tells_then Reading at w u last g T = read_tells at w u last g T
  phase_tells_then (Ticking asked left) at w u last g T = tick_tells at asked left w u T
  phase_tells_then Finished at w u last g T = T

pub step_tells : (b : Option ℕ) (p : Point) (w u : List ℕ) (last : Bool) → (last ≡ true → u ≡ []) → Tells b p w u → TellsThen b w u (next p w last)
unfolding next
step_tells b p w u last g T = phase_tells_then b p.line p.phase p.at w u last g T

joined_tell : (b : Option ℕ) (w u : List ℕ) (last : Bool) (m : Next) → (last ≡ true → u ≡ []) → TellsThen b w u m
    → TellsThen b w u (joined m (next m.point (drop m.used w) last))
joined_tell b w u last m g T = rw (← drop-drop) (step_tells b m.point (drop m.used w) u last g T)

pub steps_tell : (b : Option ℕ) (k : ℕ) (p : Point) (w u : List ℕ) (last : Bool) → (last ≡ true → u ≡ []) → Tells b p w u → TellsThen b w u (steps k p w last)
unfolding steps
steps_tell b zero p w u last g T = T
steps_tell b (suc k) p w u last g T = joined_tell b w u last (steps k p w last) g (steps_tell b k p w u last g T)
