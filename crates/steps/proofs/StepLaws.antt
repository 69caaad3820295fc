-- THE LAW OF A STEP: what it writes, and what is then to come, is what was to come, whatever follows in the trace.
use Prim.Native.Nat.{ℕ, zero, suc, ◌-◌, ◌<◌, ◌≤◌, ◌+◌}
use native.Mathlib.Omega.{arith}
use mathlib.Core.Path.{◌≡◌, refl, sym, ap, ◌∙◌}
use mathlib.Core.Bool.{Bool, true, false}
use mathlib.Core.List.{List, [], ◌∷◌, ◌++◌, append_assoc, append-nil}
use lib.Dec.{ltb, eqb}
use lib.ListN.{length, drop, length-append}
use lib.Seq.{drop-append-le, drop-drop}
use borrow.Author.Tests.{ltb-false, eqb-true, eqb-false}
use Rattle.either_line.specs.Line.{Line, tick, respond}
use Rattle.both.specs.Quiet.{quiet_ticks}
use Rattle.fields.proofs.NumberLaws.{cond_by}
use Rattle.traces.specs.Trace.{longest_record}
use Rattle.answers.specs.declared.Reply.TheVariants.{Ticked, Broken}
use Rattle.answers.specs.Answers.{answer_bytes}
use Rattle.answer_log.specs.Log.{Asked, one_call, some_ticks, unread, asked_log, read_at, tick_log, all_done_verdict, ticks_run, asks_read, taken}
use Rattle.answer_log.proofs.ReadLaws.{read_lies, read_onward}
use Rattle.answer_log.proofs.LogLaws.{asked_from, log_from, ticks_log, ticks_end, done_log, done_end, refused_log, refused_end, log_of_none, log_of_some}
use Rattle.steps.specs.declared.Phase.{Phase}
use Rattle.steps.specs.declared.Phase.TheVariants.{Reading, Ticking, Finished}
use Rattle.steps.specs.Steps.{Point, point, Next, goes, asked_next, read_next, one_tick, tick_next, phase_next, next, joined, steps}
use Rattle.steps.proofs.PassLaws.{quiet_passes}

-- what is still to come, where rest is the trace from the point on
abbrev pub phase_log : Phase → ℕ → Line → List ℕ → List ℕ
phase_log Reading at s rest = log_from at s rest
phase_log (Ticking asked left) at s rest = ticks_log asked left s ++ log_from at (ticks_end asked left s) rest
phase_log Finished at s rest = []

abbrev pub to_come : Point → List ℕ → List ℕ
to_come p rest = phase_log p.phase p.at p.line rest

-- u is what comes behind the window w
abbrev pub Keeps : Point → List ℕ → List ℕ → Next → Type 0
Keeps p w u n = to_come p (w ++ u) ≡ n.bytes ++ to_come n.point (drop n.used w ++ u)

asked_keeps : (q : Asked) (k at : ℕ) (s : Line) (w u : List ℕ) → k ≤ length w
    → asked_log s ((q, at) ∷ asked_from (at + k) (drop k (w ++ u)))
    ≡ (asked_next q k at s).bytes ++ to_come (asked_next q k at s).point (drop (asked_next q k at s).used w ++ u)
asked_keeps (one_call c) k at s w u e = rw (drop-append-le k w u e)
asked_keeps (some_ticks a) k at s w u e = rw (drop-append-le k w u e)
asked_keeps unread k at s w u e = sym (append-nil (answer_bytes (Broken at)))

-- the record at the start of the window is that at the start of what is left of the trace
found_keeps : (at : ℕ) (s : Line) (w u : List ℕ) → 0 < length w → read_at at (w ++ u) ≡ read_at at w
    → Keeps (point at Reading s) w u (asked_next (asks_read (read_at at w)) (taken (read_at at w)) at s)
found_keeps at s w u p e =
    log_of_some at s (w ++ u) (simp length-append (omega arith))
    ∙ rw e (asked_keeps (asks_read (read_at at w)) (taken (read_at at w)) at s w u (read_lies at w).fits)

read_keeps : (at : ℕ) (s : Line) (w u : List ℕ) (last : Bool) → (last ≡ true → u ≡ []) → Keeps (point at Reading s) w u (read_next at s w last)
unfolding read_next
read_keeps at s w u true g =
    rw (g refl)
    (cond_by (Keeps (point at Reading s) w []) (eqb (length w) 0) _ _
    (λ e. log_of_none at s (w ++ []) (simp length-append (omega (arith, eqb-true))))
    (λ e. found_keeps at s w [] (let n : length w ≡ 0 → ⊥ = eqb-false _ _ e in omega arith) (ap (read_at at) (append-nil w))))
read_keeps at s w u false g =
    cond_by (Keeps (point at Reading s) w u) (ltb (length w) longest_record) _ _
    (λ e. refl)
    (λ e. let n : longest_record ≤ length w = ltb-false _ _ e in found_keeps at s w u (omega arith) (read_onward at w u n))

-- a tick that is done, and one that is refused
one_tick_keeps : (at asked left : ℕ) (s : Line) (w u : List ℕ) → (left ≡ 0 → ⊥) → Keeps (point at (Ticking asked left) s) w u (one_tick at asked left s)
unfolding one_tick
one_tick_keeps at asked zero s w u n = absurd (n refl)
one_tick_keeps at asked (suc left) s w u n =
    let l : suc left - 1 ≡ left = omega arith in
    cond_by (Keeps (point at (Ticking asked (suc left)) s) w u) (eqb (respond tick s).verdict 0) _ _
    (λ b. let e = eqb-true _ _ b in rw (l, done_log left s e asked, done_end left s e asked) (append_assoc (tick_log (respond tick s)) _ _))
    (λ b. let e = eqb-false _ _ b in rw (refused_log left s e asked, refused_end left s e asked))

all_done_keeps : (at asked left : ℕ) (s : Line) (w u : List ℕ) → left ≡ 0
    → Keeps (point at (Ticking asked left) s) w u (goes at Reading s 0 (answer_bytes (Ticked (all_done_verdict asked s) asked)))
unfolding ticks_run
all_done_keeps at asked zero s w u e = refl
all_done_keeps at asked (suc left) s w u e = absurd (omega arith)

tick_keeps : (at asked left : ℕ) (s : Line) (w u : List ℕ) → Keeps (point at (Ticking asked left) s) w u (tick_next at asked left s)
unfolding tick_next one_tick
tick_keeps at asked left s w u =
    cond_by (Keeps (point at (Ticking asked left) s) w u) (eqb left 0) _ _
    (λ e. all_done_keeps at asked left s w u (eqb-true _ _ e))
    (λ e. cond_by (Keeps (point at (Ticking asked left) s) w u) (eqb (quiet_ticks left s) 0) _ _
    (λ _. one_tick_keeps at asked left s w u (eqb-false _ _ e))
    (λ z. let p = quiet_passes asked left s (eqb-false _ _ z) in rw (p.same_log, p.same_end)))

phase_keeps : (q : Phase) (at : ℕ) (s : Line) (w u : List ℕ) (last : Bool) → (last ≡ true → u ≡ []) → Keeps (point at q s) w u (phase_next q at s w last)
phase_keeps Reading at s w u last g = read_keeps at s w u last g
phase_keeps (Ticking asked left) at s w u last g = tick_keeps at asked left s w u
phase_keeps Finished at s w u last g = refl

pub step_keeps : (p : Point) (w u : List ℕ) (last : Bool) → (last ≡ true → u ≡ []) → Keeps p w u (next p w last)
unfolding next
step_keeps p w u last g = phase_keeps p.phase p.at p.line w u last g

-- ---- many steps

joined_keep : (p : Point) (w u : List ℕ) (last : Bool) (m : Next) → (last ≡ true → u ≡ []) → Keeps p w u m
    → Keeps p w u (joined m (next m.point (drop m.used w) last))
joined_keep p w u last m g k =
    k ∙ (ap (λ l. m.bytes ++ l) (step_keeps m.point (drop m.used w) u last g) ∙ rw (append_assoc, drop-drop))

pub steps_keep : (k : ℕ) (p : Point) (w u : List ℕ) (last : Bool) → (last ≡ true → u ≡ []) → Keeps p w u (steps k p w last)
unfolding steps
steps_keep zero p w u last g = refl
steps_keep (suc k) p w u last g = joined_keep p w u last (steps k p w last) g (steps_keep k p w u last g)
