-- How far steps go, what they write, and that less is left to do.
use Prim.Native.Nat.{ℕ, zero, suc, ◌+◌, ◌*◌, ◌-◌, ◌<◌, ◌≤◌}
use native.Mathlib.Omega.{arith}
use mathlib.Core.Path.{◌≡◌, refl, sym, ap, ◌∙◌}
use mathlib.Core.Bool.{Bool, true, false, not, ◌&&◌}
use mathlib.Core.List.{List, [], ◌++◌, append-nil}
use mathlib.Core.Option.{Option, none, some}
use lib.Dec.{ltb, eqb}
use lib.ListN.{length, drop, length-append, length-drop}
use lib.Seq.{drop-drop}
use borrow.Author.Tests.{eqb-false, not-true}
use Rattle.rules.specs.declared.Packet.{Packet}
use Rattle.rules.proofs.Tests.{never, and_true}
use Rattle.either_line.specs.Line.{Line, Request, link_levels, link_frames, admit_level, admit_share, offer, notice, close, tick, Reply, clock_of, respond}
use Rattle.both.specs.Quiet.{passed, quiet_ticks}
use Rattle.both.proofs.QuietLaws.{quiets}
use Rattle.fields.proofs.NumberLaws.{cond_by}
use Rattle.traces.specs.Trace.{longest_record}
use Rattle.answers.specs.declared.Reply.TheVariants.{Linked, Admitted, Closed, Offered, Noticed, Departed, Ticked, Broken}
use Rattle.answers.specs.Answers.{answer_bytes, longest_answer}
use Rattle.answers.proofs.WriteLaws.{answer_short}
use Rattle.answer_log.specs.Log.{trace_limit, Asked, one_call, some_ticks, unread, call_log, departure, tick_log, read_at, all_done_verdict, asks_read, taken}
use Rattle.answer_log.proofs.ReadLaws.{read_lies}
use Rattle.tables.specs.Lent.{Tables}
use Rattle.steps.specs.declared.Phase.{Phase}
use Rattle.steps.specs.declared.Phase.TheVariants.{Reading, Ticking, Finished}
use Rattle.steps.specs.declared.Cursor.{Cursor}
use Rattle.steps.specs.declared.Status.{Status}
use Rattle.steps.specs.declared.Status.TheVariants.{GoOn, MoreBytes, Done}
use Rattle.steps.specs.declared.Stepped.{Stepped}
use Rattle.steps.specs.Steps.{Point, point, Next, still, goes, asked_next, read_next, one_tick, tick_next, phase_next, next, joined, is_go, steps, weight}
use Rattle.steps.specs.Tie.{point_of, cursor_of}

-- the answer that says what the step n does
abbrev pub stepped_of : Next → Stepped
stepped_of n = record { cursor = cursor_of n.point; used = n.used; wrote = length n.bytes; status = n.status }

-- ---- an answer is short

departure_short : (o : Option Packet) (finish : ℕ) → length (departure o finish) ≤ longest_answer
departure_short none finish = omega arith
departure_short (some p) finish = answer_short (Departed p.connection p.tag p.arrival p.eligibility finish)

call_short : (c : Request) (a : Reply) → length (call_log c a) ≤ longest_answer
call_short (link_levels l) a = answer_short (Linked _)
call_short (link_frames l) a = answer_short (Linked _)
call_short (admit_level x) a = answer_short (Admitted _ _ _ _)
call_short (admit_share x) a = answer_short (Admitted _ _ _ _)
call_short (offer c len tag st) a = answer_short (Offered _ _)
call_short (notice len tag) a = answer_short (Noticed _ _)
call_short (close c) a = answer_short (Closed _)
call_short tick a = departure_short a.departed (clock_of a.next)

-- ---- how far k steps go from a place and a phase, with len bytes in the window

pub record Goes (at : ℕ) (q : Phase) (len : ℕ) (last : Bool) (k : ℕ) (n : Next) : Type 0 where
  pub used : n.used ≤ len
  pub place : n.point.at ≡ at + n.used
  pub within : (n.used ≡ 0 → ⊥) → n.point.at ≤ trace_limit
  pub lighter : n.used ≡ 0 → weight n.point.phase ≤ weight q
  pub less : n.status ≡ GoOn → 0 < k → n.used ≡ 0 → weight n.point.phase < weight q
  pub wants : n.status ≡ MoreBytes → last ≡ false
  pub short : length n.bytes ≤ longest_answer * k

-- nothing is done
pub waits_go : (at : ℕ) (q q' : Phase) (s : Line) (len : ℕ) (last : Bool) (k : ℕ) (v : Status) → weight q' ≤ weight q → (v ≡ GoOn → 0 < k → ⊥) → (v ≡ MoreBytes → last ≡ false)
    → Goes at q len last k (still (point at q' s) v)
waits_go at q q' s len last k v w g m =
    record {
      used = omega arith;
      place = omega arith;
      within = λ z. absurd (z refl);
      lighter = λ _. w;
      less = λ e p _. absurd (g e p);
      wants = m;
      short = omega arith;
    }

-- a record, which takes some byte unless it is malformed
asked_goes : (q : Asked) (k at : ℕ) (s : Line) (len : ℕ) (last : Bool) → (k ≡ 0 → q ≡ unread) → k ≤ len → k ≤ trace_limit - at → Goes at Reading len last 1 (asked_next q k at s)
asked_goes (one_call c) k at s len last z l f =
    let n : k ≡ 0 → ⊥ = λ i. never (cc (z i)) in
    record { used = l; place = refl; within = λ _. omega arith; lighter = λ i. absurd (n i); less = λ _ _ i. absurd (n i); wants = λ e. never cc; short = omega (arith, call_short c (respond c s)) }
asked_goes (some_ticks t) k at s len last z l f =
    let n : k ≡ 0 → ⊥ = λ i. never (cc (z i)) in
    record { used = l; place = refl; within = λ _. omega arith; lighter = λ i. absurd (n i); less = λ _ _ i. absurd (n i); wants = λ e. never cc; short = omega arith }
asked_goes unread k at s len last z l f =
    record { used = omega arith; place = omega arith; within = λ i. absurd (i refl); lighter = λ _. omega arith; less = λ e. never cc; wants = λ e. never cc; short = omega (arith, answer_short (Broken at)) }

read_goes : (at : ℕ) (s : Line) (w : List ℕ) (last : Bool) → Goes at Reading (length w) last 1 (read_next at s w last)
unfolding read_next
read_goes at s w last =
    cond_by (Goes at Reading (length w) last 1) (last && eqb (length w) 0) _ _
    (λ _. waits_go at Reading Finished s (length w) last 1 Done (omega arith) (λ e. never cc) (λ e. never cc))
    (λ _. cond_by (Goes at Reading (length w) last 1) (not last && ltb (length w) longest_record) _ _
    (λ e. waits_go at Reading Reading s (length w) last 1 MoreBytes (omega arith) (λ i. never cc) (λ _. not-true last (and_true (not last) (ltb (length w) longest_record) e).0))
    (λ _. asked_goes (asks_read (read_at at w)) (taken (read_at at w)) at s (length w) last (λ z. ap asks_read ((read_lies at w).no_byte z)) (read_lies at w).fits (read_lies at w).in_limit))

-- a tick
ticks_go : (at asked left : ℕ) (p : Phase) (s : Line) (bs : List ℕ) (len : ℕ) (last : Bool) → weight p ≤ left → length bs ≤ longest_answer
    → Goes at (Ticking asked left) len last 1 (goes at p s 0 bs)
ticks_go at asked left p s bs len last w b =
    record { used = omega arith; place = omega arith; within = λ z. absurd (z refl); lighter = λ _. omega arith; less = λ _ _ _. omega arith; wants = λ e. never cc; short = omega arith }

module _ (at asked left : ℕ) (s : Line) (len : ℕ) (last : Bool) where
  abbrev TicksGo : Next → Type 0
  TicksGo n = Goes at (Ticking asked left) len last 1 n

  one_tick_goes : (left ≡ 0 → ⊥) → TicksGo (one_tick at asked left s)
  unfolding one_tick
  one_tick_goes z =
      cond_by TicksGo (eqb (respond tick s).verdict 0) _ _
      (λ _. ticks_go at asked left (Ticking asked (left - 1)) (respond tick s).next (tick_log (respond tick s)) len last
      (omega arith) (departure_short (respond tick s).departed (clock_of (respond tick s).next)))
      (λ _. ticks_go at asked left Reading (respond tick s).next (answer_bytes (Ticked (respond tick s).verdict (asked - left))) len last (omega arith) (answer_short (Ticked (respond tick s).verdict (asked - left))))

  tick_goes : TicksGo (tick_next at asked left s)
  unfolding tick_next one_tick
  tick_goes =
      cond_by TicksGo (eqb left 0) _ _
      (λ _. ticks_go at asked left Reading s (answer_bytes (Ticked (all_done_verdict asked s) asked)) len last (omega arith) (answer_short (Ticked (all_done_verdict asked s) asked)))
      (λ z. let n : left ≡ 0 → ⊥ = eqb-false _ _ z in
      cond_by TicksGo (eqb (quiet_ticks left s) 0) _ _ (λ _. one_tick_goes n)
      (λ y. let k : quiet_ticks left s ≡ 0 → ⊥ = eqb-false _ _ y in
      ticks_go at asked left (Ticking asked (left - quiet_ticks left s)) (passed s (quiet_ticks left s)) [] len last (omega (arith, (quiets left s k).few)) (omega arith)))

phase_goes : (q : Phase) (at : ℕ) (s : Line) (w : List ℕ) (last : Bool) → Goes at q (length w) last 1 (phase_next q at s w last)
phase_goes Reading at s w last = read_goes at s w last
phase_goes (Ticking asked left) at s w last = tick_goes at asked left s (length w) last
phase_goes Finished at s w last = waits_go at Finished Finished s (length w) last 1 Done (omega arith) (λ e. never cc) (λ e. never cc)

pub next_goes : (p : Point) (w : List ℕ) (last : Bool) → Goes p.at p.phase (length w) last 1 (next p w last)
unfolding next
next_goes p w last = phase_goes p.phase p.at p.line w last

-- ---- many steps

abbrev From : Point → List ℕ → Bool → ℕ → Next → Type 0
From p w last k n = Goes p.at p.phase (length w) last k n

joined_go : (p : Point) (w : List ℕ) (last : Bool) (k : ℕ) (m : Next) → From p w last k m → From p w last (suc k) (joined m (next m.point (drop m.used w) last))
joined_go p w last k m M =
    let n = next m.point (drop m.used w) last in
    let N = next_goes m.point (drop m.used w) last in
    let l : length (drop m.used w) ≡ length w - m.used = length-drop m.used w in
    record {
      used = omega (arith, l, M.used, N.used);
      place = omega (arith, M.place, N.place);
      within = λ z. go_on m.used n.used m.point.at n.point.at N.place M.within N.within z;
      lighter = λ z. let a : m.used ≡ 0 = omega arith in let b : n.used ≡ 0 = omega arith in omega (arith, M.lighter a, N.lighter b);
      less = λ e _ z. let a : m.used ≡ 0 = omega arith in let b : n.used ≡ 0 = omega arith in omega (arith, M.lighter a, N.less e (omega arith) b);
      wants = N.wants;
      short = simp length-append (omega (arith, M.short, N.short));
    }
  where
    go_on : (a b x y : ℕ) → y ≡ x + b → ((a ≡ 0 → ⊥) → x ≤ trace_limit) → ((b ≡ 0 → ⊥) → y ≤ trace_limit) → (a + b ≡ 0 → ⊥) → y ≤ trace_limit
    go_on a zero x y e f g z = let i : x ≤ trace_limit = f (λ j. z (omega arith)) in omega arith
    go_on a (suc b) x y e f g z = g (λ j. absurd (omega arith))

pub steps_go : (k : ℕ) (p : Point) (w : List ℕ) (last : Bool) → From p w last k (steps k p w last)
unfolding steps
steps_go zero p w last = waits_go p.at p.phase p.phase p.line (length w) last 0 GoOn (omega arith) (λ _ z. absurd (omega arith)) (λ e. never cc)
steps_go (suc k) p w last = joined_go p w last k (steps k p w last) (steps_go k p w last)

-- a single step is one of many
with_used : Next → ℕ → Next
with_used n u = record { point = n.point; used = u; bytes = n.bytes; status = n.status }

pub one_step : (p : Point) (w : List ℕ) (last : Bool) → steps 1 p w last ≡ next p w last
unfolding steps with_used
one_step p w last =
    let e : 0 + (next p w last).used ≡ (next p w last).used = omega arith in
    ap (with_used (next p w last)) e

-- ---- which case a step is

module _ (at : ℕ) (s : Line) (w : List ℕ) (last : Bool) where
  pub next_end : (last && eqb (length w) 0) ≡ true → read_next at s w last ≡ still (point at Finished s) Done
  unfolding read_next
  next_end e = rw e

  pub next_more : (not last && ltb (length w) longest_record) ≡ true → read_next at s w last ≡ still (point at Reading s) MoreBytes
  unfolding read_next
  next_more e = go last e
    where
      go : (b : Bool) → (not b && ltb (length w) longest_record) ≡ true → read_next at s w b ≡ still (point at Reading s) MoreBytes
      go true d = never d
      go false d = rw d

  pub next_found : (last && eqb (length w) 0) ≡ false → (not last && ltb (length w) longest_record) ≡ false
      → read_next at s w last ≡ asked_next (asks_read (read_at at w)) (taken (read_at at w)) at s
  unfolding read_next
  next_found e f = rw (e, f)

pub next_phase : (c : Cursor) (t : Tables) (w : List ℕ) (last : Bool) {f : Phase} → c.phase ≡ f
    → next (point_of c t) w last ≡ phase_next f c.at (point_of c t).line w last
unfolding next
next_phase c t w last e = ap (λ p. phase_next p c.at (point_of c t).line w last) e

-- ---- behind a step that stops, the next does nothing and stops too

-- n is a step on the window w
record Rests (w : List ℕ) (last : Bool) (n : Next) : Type 0 where
  pub stays : is_go n.status ≡ false → next n.point (drop n.used w) last ≡ still n.point n.status

goes_rest : (w : List ℕ) (last : Bool) (n : Next) → n.status ≡ GoOn → Rests w last n
goes_rest w last n g = record { stays = λ e. never (sym e ∙ ap is_go g) }

asked_rests : (q : Asked) (k at : ℕ) (s : Line) (w : List ℕ) (last : Bool) → Rests w last (asked_next q k at s)
unfolding next
asked_rests (one_call c) k at s w last = goes_rest w last _ refl
asked_rests (some_ticks n) k at s w last = goes_rest w last _ refl
asked_rests unread k at s w last = record { stays = λ _. refl }

read_rests : (at : ℕ) (s : Line) (w : List ℕ) (last : Bool) → Rests w last (read_next at s w last)
unfolding read_next next
read_rests at s w last =
    cond_by (Rests w last) (last && eqb (length w) 0) _ _ (λ _. record { stays = λ _. refl })
    (λ _. cond_by (Rests w last) (not last && ltb (length w) longest_record) _ _
    (λ e. record { stays = λ _. next_more at s w last e })
    (λ _. asked_rests (asks_read (read_at at w)) (taken (read_at at w)) at s w last))

tick_rests : (at asked left : ℕ) (s : Line) (w : List ℕ) (last : Bool) → Rests w last (tick_next at asked left s)
unfolding tick_next
tick_rests at asked left s w last =
    cond_by (Rests w last) (eqb left 0) _ _ (λ _. goes_rest w last _ refl)
    (λ _. cond_by (Rests w last) (eqb (quiet_ticks left s) 0) _ _
    (λ _. cond_by (Rests w last) (eqb (respond tick s).verdict 0) _ _ (λ _. goes_rest w last _ refl) (λ _. goes_rest w last _ refl))
    (λ _. goes_rest w last _ refl))

phase_rests : (q : Phase) (at : ℕ) (s : Line) (w : List ℕ) (last : Bool) → Rests w last (phase_next q at s w last)
unfolding next
phase_rests Reading at s w last = read_rests at s w last
phase_rests (Ticking asked left) at s w last = tick_rests at asked left s w last
phase_rests Finished at s w last = record { stays = λ _. refl }

next_rests : (p : Point) (w : List ℕ) (last : Bool) → Rests w last (next p w last)
unfolding next
next_rests p w last = phase_rests p.phase p.at p.line w last

joined_rest : (w : List ℕ) (last : Bool) (m : Next) → Rests w last (joined m (next m.point (drop m.used w) last))
joined_rest w last m =
    let N = next_rests m.point (drop m.used w) last in
    record { stays = λ e. rw (← drop-drop (next m.point (drop m.used w) last).used m.used w) (N.stays e) }

steps_rest : (k : ℕ) (p : Point) (w : List ℕ) (last : Bool) → Rests w last (steps k p w last)
unfolding steps
steps_rest zero p w last = goes_rest w last _ refl
steps_rest (suc k) p w last = joined_rest w last (steps k p w last)

with_both : Next → ℕ → List ℕ → Next
with_both m u bs = record { point = m.point; used = u; bytes = bs; status = m.status }

joined_rests : (m : Next) → joined m (still m.point m.status) ≡ m
unfolding with_both
joined_rests m =
    let e : m.used + 0 ≡ m.used = omega arith in
    ap (λ u. with_both m u (m.bytes ++ [])) e ∙ ap (with_both m m.used) (append-nil m.bytes)

pub steps_stay : (k : ℕ) (p : Point) (w : List ℕ) (last : Bool) → is_go (steps k p w last).status ≡ false → steps (suc k) p w last ≡ steps k p w last
unfolding steps
steps_stay k p w last e = ap (joined (steps k p w last)) ((steps_rest k p w last).stays e) ∙ joined_rests (steps k p w last)
