-- How a call made, and each kind of step of a `TK`, meet the contract of a step.
use Prim.Native.Nat.{ℕ, ◌+◌, ◌-◌, ◌%◌, ◌<◌}
use mathlib.Core.Path.{◌≡◌, refl, sym, ap, ◌∙◌, subst}
use mathlib.Core.Bool.{Bool, true, false}
use mathlib.Core.List.{List}
use mathlib.Core.Option.{Option, none, some}
use lib.ListN.{length}
use borrow.Author.Tests.{eq-eqb, ne_eqb}
use Rattle.rules.specs.declared.Packet.{Packet}
use Rattle.rules.specs.Limits.{beyond_32_bits}
use Rattle.either_line.specs.Line.{Line, Request, tick, Reply as LineReply, clock_of, respond}
use Rattle.either_line.proofs.Results.{answers_fit}
use Rattle.tables.specs.Options.{option_of}
use Rattle.std.specs.Prelude as code
use Rattle.tables.specs.Lent.{Tables}
use Rattle.both.specs.declared.Kept.{Kept}
use Rattle.both.specs.View.{view, kept_of, sound_kept, kept_clock, has_link}
use Rattle.both.specs.Quiet.{passed, quiet_ticks}
use Rattle.both.specs.Replied.{Replied, replied_of}
use Rattle.both.specs.Does.{Does}
use Rattle.both.proofs.SoundLaws.{is_sound, sound_view, set_seen, tables_kept, kept_back}
use Rattle.both.proofs.DoesLaws.{told_as, left_as}
use Rattle.both.proofs.QuietLaws.{passed_written}
use Rattle.fields.specs.Formats.{over}
use Rattle.answers.specs.declared.Reply.{Reply}
use Rattle.answers.specs.declared.Reply.TheVariants.{Linked, Admitted, Closed, Offered, Noticed, Departed, Ticked}
use Rattle.answers.specs.Answers.{answer_bytes}
use Rattle.answers.proofs.WriteLaws.{linked_low, admitted_low, closed_low, offered_low, noticed_low, ticked_low, departed_low}
use Rattle.traces.specs.declared.Record.{Record}
use Rattle.answer_log.specs.Log.{Asked, one_call, asks, call_log, departure, tick_log, all_done_verdict}
use Rattle.steps.specs.declared.Phase.{Phase}
use Rattle.steps.specs.declared.Status.{Status}
use Rattle.steps.specs.declared.Phase.TheVariants.{Reading, Ticking}
use Rattle.steps.specs.declared.Status.TheVariants.{GoOn}
use Rattle.steps.specs.declared.Stepped.{Stepped}
use Rattle.steps.specs.declared.asking.Wanted.{Wanted}
use Rattle.steps.specs.Wants.{asks_as}
use Rattle.steps.specs.Steps.{point, goes, asked_next, one_tick, tick_next}
use Rattle.steps.specs.Tie.{cursor_at, link_answer, admission_answer, close_answer, offer_answer, notice_answer, departure_log, told_log, Makes}

-- ---- a call whose answer is written

pub did_call : (k : Request) (h : Kept) (t u : Tables) (o o' : List ℕ) (told : Replied) → sound_kept h t ≡ true → Does k h t told u
    → (at used : ℕ) (bs : List ℕ) (reply : Reply) (a : Stepped) → answer_bytes reply ≡ bs
    → a ≡ record { cursor = cursor_at at Reading told.kept; used = used; wrote = length (answer_bytes reply); status = GoOn }
    → o' ≡ over (answer_bytes reply) o
    → Makes (goes at Reading (respond k (view h t)).next used bs) a u 0 o o'
did_call k h t u o o' told ok D at used bs reply a b e r =
    record { answers = e ∙ rw (told_as k h t ok told u D, b); tables = left_as k h t ok told u D; room = r ∙ rw b }

-- .. of the call that a record asks for, where the answer record is made of the reply
pub did_asked : (q : Record) (k : Request) → asks q ≡ one_call k → (h : Kept) (t u : Tables) (o o' : List ℕ) (told : Replied) → sound_kept h t ≡ true → Does k h t told u
    → (at used : ℕ) (f : Replied → Reply) (reply : Reply) (a : Stepped) → ((x : LineReply) → answer_bytes (f (replied_of x)) ≡ call_log k x) → reply ≡ f told
    → a ≡ record { cursor = cursor_at (at + used) Reading told.kept; used = used; wrote = length (answer_bytes reply); status = GoOn }
    → o' ≡ over (answer_bytes reply) o
    → Makes (asked_next (asks q) used at (view h t)) a u 0 o o'
did_asked q k i h t u o o' told ok D at used f reply a b e w r =
    subst (λ (x : Asked). Makes (asked_next x used at (view h t)) a u 0 o o') (sym i)
    (did_call k h t u o o' told ok D (at + used) used (call_log k (respond k (view h t))) reply a
    (ap answer_bytes (e ∙ ap f (told_as k h t ok told u D)) ∙ b (respond k (view h t))) w r)

-- the answer records of the code are those of the rules' log
module _ (x : LineReply) where
  pub link_logged : answer_bytes (link_answer (replied_of x)) ≡ answer_bytes (Linked x.verdict)
  link_logged = linked_low _ _ refl

  pub admission_logged : answer_bytes (admission_answer (replied_of x)) ≡ answer_bytes (Admitted x.verdict x.number x.short.level x.short.units)
  admission_logged = admitted_low _ _ _ _ _ _ _ _ refl refl refl refl

  pub close_logged : answer_bytes (close_answer (replied_of x)) ≡ answer_bytes (Closed x.verdict)
  close_logged = closed_low _ _ refl

  pub offer_logged : answer_bytes (offer_answer (replied_of x)) ≡ answer_bytes (Offered x.verdict x.number)
  offer_logged = offered_low _ _ _ _ refl refl

  pub notice_logged : answer_bytes (notice_answer (replied_of x)) ≡ answer_bytes (Noticed x.verdict x.number)
  notice_logged = noticed_low _ _ _ _ refl refl

-- the units that an admission tells
pub units_fit : (k : Request) (h : Kept) (t u : Tables) (told : Replied) → sound_kept h t ≡ true → Does k h t told u → told.short.units < beyond_32_bits
units_fit k h t u told ok D = rw (told_as k h t ok told u D) (answers_fit k (view h t) (is_sound h t ok)).units

-- ---- a step that leaves the line as it is

pub did_kept : (h : Kept) (t : Tables) → sound_kept h t ≡ true → (at : ℕ) (f : Phase) (used : ℕ) (bs : List ℕ) (k : Status) (a : Stepped) (o o' : List ℕ)
    → a ≡ record { cursor = cursor_at at f h; used = used; wrote = length bs; status = k } → o' ≡ over bs o
    → Makes (record { point = point at f (view h t); used = used; bytes = bs; status = k }) a t 0 o o'
did_kept h t ok at f used bs k a o o' e r = record {
  answers = e ∙ ap (λ (x : Kept). record { cursor = cursor_at at f x; used = used; wrote = length bs; status = k }) (kept_back h t ok);
  tables = tables_kept h t ok;
  room = r;
}

-- ---- a step with what a record asks, as the code has it

pub as_asked : (q : Wanted) (w : Record) (k at : ℕ) (s : Line) (a : Stepped) (t : Tables) (o o' : List ℕ) → asks_as q ≡ asks w
    → Makes (asked_next (asks_as q) k at s) a t 0 o o' → Makes (asked_next (asks w) k at s) a t 0 o o'
as_asked q w k at s a t o o' e d = subst (λ (x : Asked). Makes (asked_next x k at s) a t 0 o o') e d

-- ---- a tick

-- the departure that is told is the one of the rules' log
pub told_is_logged : (a : LineReply) → told_log (replied_of a) ≡ tick_log a
told_is_logged a = go a.departed
  where
    go : (o : Option Packet) → departure_log (option_of o) (clock_of a.next) ≡ departure o (clock_of a.next)
    go none = refl
    go (some p) = refl

pub some_told : (told : Replied) (p : Packet) (v finish : ℕ) → told.departed ≡ code.Some p → v ≡ p.connection % 256 → finish ≡ kept_clock told.kept
    → answer_bytes (Departed v p.tag p.arrival p.eligibility finish) ≡ told_log told
some_told told p v finish g e f =
    rw (g, f) (departed_low v p.connection p.tag p.arrival p.eligibility (kept_clock told.kept) e)

module _ (at asked left : ℕ) (h : Kept) (t : Tables) (ok : sound_kept h t ≡ true) where
  -- all ticks are done
  pub did_all : left ≡ 0 → (v : ℕ) (a : Stepped) (o o' : List ℕ) → v ≡ all_done_verdict asked (view h t)
      → a ≡ record { cursor = cursor_at at Reading h; used = 0; wrote = length (answer_bytes (Ticked v asked)); status = GoOn }
      → o' ≡ over (answer_bytes (Ticked v asked)) o
      → Makes (tick_next at asked left (view h t)) a t 0 o o'
  unfolding tick_next
  did_all l v a o o' e f g = rw (eq-eqb left 0 l, ← e) (did_kept h t ok at Reading 0 (answer_bytes (Ticked v asked)) GoOn a o o' f g)

  module _ (told : Replied) (u : Tables) (D : Does tick h t told u) (a : Stepped) (o o' : List ℕ) where
    ticks_as : told.verdict ≡ (respond tick (view h t)).verdict
    ticks_as = ap (λ (x : Replied). x.verdict) (told_as tick h t ok told u D)

    -- a tick is refused
    pub did_refused : (told.verdict ≡ 0 → ⊥) → (v n : ℕ) → v ≡ told.verdict % 256 → n ≡ asked - left
        → a ≡ record { cursor = cursor_at at Reading told.kept; used = 0; wrote = length (answer_bytes (Ticked v n)); status = GoOn }
        → o' ≡ over (answer_bytes (Ticked v n)) o
        → Makes (one_tick at asked left (view h t)) a u 0 o o'
    unfolding one_tick
    did_refused r v n e m f g =
        let s = view h t in
        rw (ne_eqb (respond tick s).verdict 0 (λ z. r (ticks_as ∙ z)))
        (did_call tick h t u o o' told ok D at 0 (answer_bytes (Ticked (respond tick s).verdict (asked - left))) (Ticked v n) a
        (rw m (ticked_low v (asked - left) (respond tick s).verdict (e ∙ ap (λ (x : ℕ). x % 256) ticks_as))) f g)

    -- a tick is done
    pub did_tick : told.verdict ≡ 0
        → a ≡ record { cursor = cursor_at at (Ticking asked (left - 1)) told.kept; used = 0; wrote = length (told_log told); status = GoOn }
        → o' ≡ over (told_log told) o
        → Makes (one_tick at asked left (view h t)) a u 0 o o'
    unfolding one_tick
    did_tick r f g =
        let s = view h t in
        let b : told_log told ≡ tick_log (respond tick s) = ap told_log (told_as tick h t ok told u D) ∙ told_is_logged (respond tick s) in
        rw (eq-eqb (respond tick s).verdict 0 (sym ticks_as ∙ r))
        (record { answers = f ∙ rw (b, told_as tick h t ok told u D); tables = left_as tick h t ok told u D; room = g ∙ rw b })

  -- quiet ticks are passed over
  pub did_quiet : (left ≡ 0 → ⊥) → (k : ℕ) → k ≡ quiet_ticks left (view h t) → (k ≡ 0 → ⊥) → (a : Stepped) (o : List ℕ)
      → a ≡ record { cursor = cursor_at at (Ticking asked (left - k)) (kept_of (passed (view h t) k)); used = 0; wrote = 0; status = GoOn }
      → Makes (tick_next at asked left (view h t)) a t 0 o o
  unfolding tick_next
  did_quiet l k e n a o f =
      rw (ne_eqb left 0 l, ← e, ne_eqb k 0 n)
      (record { answers = f; tables = tables_kept h t ok ∙ passed_written (view h t) k; room = refl })

  -- none is quiet: one tick
  pub did_one : (left ≡ 0 → ⊥) → quiet_ticks left (view h t) ≡ 0 → (a : Stepped) (u : Tables) (o o' : List ℕ)
      → Makes (one_tick at asked left (view h t)) a u 0 o o' → Makes (tick_next at asked left (view h t)) a u 0 o o'
  unfolding tick_next one_tick
  did_one l e a u o o' d = rw (ne_eqb left 0 l, eq-eqb (quiet_ticks left (view h t)) 0 e) d

-- ---- the verdict of a `TK` whose ticks are all done

module _ (h : Kept) (t : Tables) (asked : ℕ) where
  pub some_asked : (asked ≡ 0 → ⊥) → 0 ≡ all_done_verdict asked (view h t)
  some_asked n = rw (ne_eqb asked 0 n)

  module _ (ok : sound_kept h t ≡ true) (a : asked ≡ 0) (b : Bool) (e : b ≡ has_link h) where
    pub no_link_set : b ≡ false → 2 ≡ all_done_verdict asked (view h t)
    no_link_set l = rw (eq-eqb asked 0 a, sound_view h t ok, set_seen h t, sym e ∙ l)

    pub link_set : b ≡ true → 0 ≡ all_done_verdict asked (view h t)
    link_set l = rw (eq-eqb asked 0 a, sound_view h t ok, set_seen h t, sym e ∙ l)
