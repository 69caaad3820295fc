-- What is replied to any call: it leaves a sound line, a refusal leaves the line as it is, bounds and windows stay eight, nothing departs but with a tick, and a departure is
-- dated by the clock then.
use Prim.Native.Nat.{ℕ, zero, suc, ◌+◌}
use native.Mathlib.Omega.{arith}
use mathlib.Core.Path.{◌≡◌, refl, sym, ap, ◌∙◌, subst}
use mathlib.Core.Bool.{Bool, true, false, not, ◌||◌, true≢false}
use mathlib.Core.Logic.{inl, inr}
use mathlib.Core.Option.{none, some}
use lib.Dec.{eqb}
use lib.ListN.{length}
use borrow.Author.Tests.{eqb-true, eqb-false}
use Rattle.rules.specs.declared.Link.{Link}
use Rattle.rules.specs.Limits.{max_levels}
use Rattle.rules.specs.Model.{Call as LevelCall, State as LevelState, link as level_link, admit as level_admit, offer as level_offer, notice as level_notice, close as level_close, tick as level_tick}
use Rattle.rules.specs.Calls.{verdict as level_verdict, done as level_done, answer as level_answer}
use Rattle.rules.proofs.Verdicts.{settled as level_settled}
use Rattle.rules.proofs.Line.{tick_leaves}
use Rattle.rules.proofs.Sums.{cond_is, cond_ind}
use Rattle.frames.specs.Model.{Call as FrameCall, link as frame_link, admit as frame_admit, offer as frame_offer, notice as frame_notice, tick as frame_tick, Answer as FrameAnswer}
use Rattle.frames.specs.Calls.{verdict as frame_verdict, done as frame_done, answer as frame_answer}
use Rattle.frames.proofs.Names.{ticked_is}
use Rattle.frames.proofs.Verdicts.{settled as frame_settled}
use Rattle.either_line.specs.Line.{Line, Request, link_levels, link_frames, admit_level, admit_share, offer, notice, close, tick, Reply, by_levels, by_frames, levels_set, frames_set, SoundLine, sound_line, turn, respond, resting_verdict, clock_of}
use Rattle.either_line.proofs.Turns.{level_link_same}
use Rattle.either_line.proofs.Results.{refusals_change_nothing, verdict_1_exactly, sound_is_kept, test_is_exact}
use Rattle.tables.specs.Places.{is_some}
use Rattle.both.specs.View.{kept_of}
use Rattle.board.specs.Ticks.{run_ticks}
use Rattle.board.specs.Calls.{Call, reply}
use Rattle.board.specs.Promises.{FromTheHeader}
use Rattle.board.proofs.NumberLaws.{Eights}
use Rattle.board.proofs.TickLaws.{Many, many, many_verdict, refused_first, departed_first, one_first, first_told, run_is}

-- ---- many ticks, by what the first does

module _ (P : Line → Many → Type 0) (stays : (s : Line) → P s (record { done = 0; departed = none; next = s }))
    (leaves : (s : Line) → (respond tick s).verdict ≡ 0 → is_some (respond tick s).departed ≡ true → P s (record { done = 1; departed = (respond tick s).departed; next = (respond tick s).next }))
    (goes : (s : Line) (m : Many) → (respond tick s).verdict ≡ 0 → is_some (respond tick s).departed ≡ false → P (respond tick s).next m → P s (record { done = 1 + m.done; departed = m.departed; next = m.next })) where
  -- what holds of no tick, of one with a departure, and of one more before others, holds of many
  pub over_many : (n : ℕ) (s : Line) → P s (many n s)
  unfolding many
  over_many zero s = stays s
  over_many (suc n) s = go (eqb (respond tick s).verdict 0) refl (is_some (respond tick s).departed) refl (over_many n (respond tick s).next)
    where
      go : (b : Bool) → eqb (respond tick s).verdict 0 ≡ b → (d : Bool) → is_some (respond tick s).departed ≡ d → P (respond tick s).next (many n (respond tick s).next) → P s (many (suc n) s)
      go true e true f ih = subst (P s) (sym (departed_first n s (eqb-true _ 0 e) f)) (leaves s (eqb-true _ 0 e) f)
      go true e false f ih = subst (P s) (sym (one_first n s (eqb-true _ 0 e) f)) (goes s (many n (respond tick s).next) (eqb-true _ 0 e) f ih)
      go false e d f ih = subst (P s) (sym (refused_first n s (eqb-false _ 0 e))) (stays s)

-- ---- refusals, verdict 1, soundness

module _ (n : ℕ) (s : Line) where
  ticks_next : (run_ticks n s).next ≡ (many n s).next
  ticks_next = ap (λ (a : Reply). a.next) (run_is n s)

  ticks_verdict : (run_ticks n s).verdict ≡ many_verdict n s
  ticks_verdict = ap (λ (a : Reply). a.verdict) (run_is n s)

ticks_refused : (n : ℕ) (s : Line) → ((run_ticks n s).verdict ≡ 0 → ⊥) → (run_ticks n s).next ≡ s
unfolding many
ticks_refused zero s z = ticks_next zero s
ticks_refused (suc n) s z =
    ticks_next (suc n) s
    ∙ ap (λ (m : Many). m.next) (refused_first n s (λ e. z (ticks_verdict (suc n) s ∙ first_told (suc n) s (λ i. omega arith) ∙ e)))

pub refusal_stays : (k : Call) (s : Line) → ((reply k s).verdict ≡ 0 → ⊥) → (reply k s).next ≡ s
refusal_stays (inl r) s z = (refusals_change_nothing r s z).0
refusal_stays (inr n) s z = ticks_refused n s z

ticks_sound : (n : ℕ) (s : Line) → SoundLine s → SoundLine (many n s).next
ticks_sound = over_many (λ s m. SoundLine s → SoundLine m.next) (λ s S. S) (λ s e f S. sound_is_kept tick s S) (λ s m e f ih S. ih (sound_is_kept tick s S))

pub sound_next : (k : Call) (s : Line) → SoundLine s → SoundLine (reply k s).next
sound_next (inl r) s S = sound_is_kept r s S
sound_next (inr n) s S = subst SoundLine (sym (ticks_next n s)) (ticks_sound n s S)

resting_not_1 : (s : Line) → SoundLine s → resting_verdict s ≡ 1 → ⊥
resting_not_1 s S = rw ((test_is_exact s).1 S) (cond_ind (λ (x : ℕ). x ≡ 1 → ⊥) (not (levels_set s || frames_set s)) {x = 2} {y = 0} (λ _ z. absurd (omega arith)) (λ _ z. absurd (omega arith)))

ticks_not_1 : (n : ℕ) (s : Line) → SoundLine s → many_verdict n s ≡ 1 → ⊥
ticks_not_1 n s S = cond_ind (λ x. x ≡ 1 → ⊥) (eqb n 0) (λ _. resting_not_1 s S) (λ _ z. (verdict_1_exactly tick s).0 z S)

pub not_verdict_1 : (k : Call) (s : Line) → SoundLine s → (reply k s).verdict ≡ 1 → ⊥
not_verdict_1 (inl r) s S z = (verdict_1_exactly r s).0 z S
not_verdict_1 (inr n) s S z = ticks_not_1 n s S (sym (ticks_verdict n s) ∙ z)

-- ---- bounds and windows are eight

abbrev pub EightLine : Line → Type 0
EightLine s = Eights (kept_of s)

abbrev of_eights : Link → Type 0
of_eights l = (length l.bounds ≡ max_levels) × (length l.windows ≡ max_levels)

-- a link of levels among the requests has eight of each
abbrev Named : Request → Type 0
Named (link_levels l) = of_eights l
Named (link_frames l) = ◌≡◌ {A = ℕ} 0 0
Named (admit_level x) = ◌≡◌ {A = ℕ} 0 0
Named (admit_share x) = ◌≡◌ {A = ℕ} 0 0
Named (offer c len tag st) = ◌≡◌ {A = ℕ} 0 0
Named (notice len tag) = ◌≡◌ {A = ℕ} 0 0
Named (close c) = ◌≡◌ {A = ℕ} 0 0
Named tick = ◌≡◌ {A = ℕ} 0 0

module _ (s : Line) (E : EightLine s) where
  same_link : (u : LevelState) → u.link ≡ s.levels.link → of_eights u.link
  same_link u e = subst of_eights (sym e) (E.bounds, E.windows)

  linked : (l : Link) → of_eights l → of_eights (level_answer (level_link l) s.levels).next.link
  linked l o = level_settled (λ a. of_eights a.next.link) (level_link l) s.levels (level_verdict (level_link l) s.levels) (λ _. o) (λ _. (E.bounds, E.windows))

  unlinked : (j : LevelCall) → (level_answer j s.levels).next.link ≡ s.levels.link → of_eights (level_answer j s.levels).next.link
  unlinked j e = same_link (level_answer j s.levels).next e

  turned : (r : Request) → Named r → of_eights (turn r s).next.levels.link
  turned (link_levels l) o = cond_ind (λ (a : Reply). of_eights a.next.levels.link) (frames_set s) (λ _. (E.bounds, E.windows)) (λ _. linked l o)
  turned (link_frames l) o = cond_ind (λ (a : Reply). of_eights a.next.levels.link) (levels_set s) (λ _. (E.bounds, E.windows)) (λ _. (E.bounds, E.windows))
  turned (admit_level x) o = unlinked (level_admit x) (level_link_same (level_admit x) s.levels refl)
  turned (admit_share x) o = (E.bounds, E.windows)
  turned (offer c len tag none) o =
      cond_ind (λ (a : Reply). of_eights a.next.levels.link) (frames_set s) (λ _. (E.bounds, E.windows)) (λ _. unlinked (level_offer c len tag none) (level_link_same (level_offer c len tag none) s.levels refl))
  turned (offer c len tag (some st)) o = unlinked (level_offer c len tag (some st)) (level_link_same (level_offer c len tag (some st)) s.levels refl)
  turned (notice len tag) o =
      cond_ind (λ (a : Reply). of_eights a.next.levels.link) (frames_set s) (λ _. (E.bounds, E.windows)) (λ _. unlinked (level_notice len tag) (level_link_same (level_notice len tag) s.levels refl))
  turned (close c) o = unlinked (level_close c) (level_link_same (level_close c) s.levels refl)
  turned tick o = cond_ind (λ (a : Reply). of_eights a.next.levels.link) (frames_set s) (λ _. (E.bounds, E.windows)) (λ _. unlinked level_tick (level_link_same level_tick s.levels refl))

  request_eights : (r : Request) → Named r → EightLine (respond r s).next
  request_eights r o =
      let e = cond_ind (λ (a : Reply). of_eights a.next.levels.link) (sound_line s) (λ _. turned r o) (λ _. (E.bounds, E.windows)) in record { bounds = e.0; windows = e.1 }

ticks_eights : (n : ℕ) (s : Line) → EightLine s → EightLine (many n s).next
ticks_eights = over_many (λ s m. EightLine s → EightLine m.next) (λ s E. E) (λ s e f E. request_eights s E tick refl) (λ s m e f ih E. ih (request_eights s E tick refl))

-- a link that numbers name has eight bounds and eight windows
named : (r : Request) → FromTheHeader (inl r) → Named r
named (link_levels l) F = subst of_eights (sym (F l refl).1) (refl, refl)
named (link_frames l) F = refl
named (admit_level x) F = refl
named (admit_share x) F = refl
named (offer c len tag st) F = refl
named (notice len tag) F = refl
named (close c) F = refl
named tick F = refl

pub eights_next : (k : Call) (s : Line) → FromTheHeader k → EightLine s → EightLine (reply k s).next
eights_next (inl r) s F E = request_eights s E r (named r F)
eights_next (inr n) s F E = subst EightLine (sym (ticks_next n s)) (ticks_eights n s E)

-- ---- departures

abbrev pub is_tick : Request → Bool
is_tick (link_levels l) = false
is_tick (link_frames l) = false
is_tick (admit_level x) = false
is_tick (admit_share x) = false
is_tick (offer c len tag st) = false
is_tick (notice len tag) = false
is_tick (close c) = false
is_tick tick = true

module _ (s : Line) where
  level_none : (j : LevelCall) → (level_done j s.levels).departed ≡ none → (level_answer j s.levels).departed ≡ none
  level_none j e = level_settled (λ a. a.departed ≡ none) j s.levels (level_verdict j s.levels) (λ _. e) (λ _. refl)

  frame_none : (j : FrameCall) → (frame_done j s.frames).departed ≡ none → (frame_answer j s.frames).departed ≡ none
  frame_none j e = frame_settled (λ a. a.departed ≡ none) j s.frames (frame_verdict j s.frames) (λ _. e) (λ _. refl)

  stays_none : (r : Request) → is_tick r ≡ false → (turn r s).departed ≡ none
  stays_none (link_levels l) i = cond_ind (λ (a : Reply). a.departed ≡ none) (frames_set s) (λ _. refl) (λ _. level_none (level_link l) refl)
  stays_none (link_frames l) i = cond_ind (λ (a : Reply). a.departed ≡ none) (levels_set s) (λ _. refl) (λ _. frame_none (frame_link l) refl)
  stays_none (admit_level x) i = level_none (level_admit x) refl
  stays_none (admit_share x) i = frame_none (frame_admit x) refl
  stays_none (offer c len tag none) i =
      cond_ind (λ (a : Reply). a.departed ≡ none) (frames_set s) (λ _. frame_none (frame_offer c len tag) refl) (λ _. level_none (level_offer c len tag none) refl)
  stays_none (offer c len tag (some st)) i = level_none (level_offer c len tag (some st)) refl
  stays_none (notice len tag) i = cond_ind (λ (a : Reply). a.departed ≡ none) (frames_set s) (λ _. frame_none (frame_notice len tag) refl) (λ _. level_none (level_notice len tag) refl)
  stays_none (close c) i = level_none (level_close c) refl
  stays_none tick i = absurd (true≢false i)

  -- nothing departs but with a tick
  pub no_departure : (r : Request) → is_tick r ≡ false → (respond r s).departed ≡ none
  no_departure r i = cond_ind (λ (a : Reply). a.departed ≡ none) (sound_line s) (λ _. stays_none r i) (λ _. refl)

  -- a tick that is done moves the clock on
  abbrev Later : Reply → Type 0
  Later a = a.verdict ≡ 0 → clock_of a.next ≡ clock_of s + 1

  level_later : frames_set s ≡ false → Later (by_levels s (level_answer level_tick s.levels))
  level_later n =
      level_settled (λ a. Later (by_levels s a)) level_tick s.levels (level_verdict level_tick s.levels)
      (λ _ _. cond_is s.frames.clock (level_done level_tick s.levels).next.clock n ∙ (tick_leaves s.levels).clock ∙ ap (λ (t : ℕ). t + 1) (sym (cond_is s.frames.clock s.levels.clock n)))
      (λ w z. absurd (omega arith))

  frame_later : frames_set s ≡ true → Later (by_frames s (frame_answer frame_tick s.frames))
  frame_later f =
      frame_settled (λ a. Later (by_frames s a)) frame_tick s.frames (frame_verdict frame_tick s.frames)
      (λ _.
      subst (λ (a : FrameAnswer). Later (by_frames s a)) (sym (ticked_is s.frames))
      (λ _. cond_is (s.frames.clock + 1) s.levels.clock f ∙ ap (λ (t : ℕ). t + 1) (sym (cond_is s.frames.clock s.levels.clock f))))
      (λ w z. absurd (omega arith))

  pub clock_on : (respond tick s).verdict ≡ 0 → clock_of (respond tick s).next ≡ clock_of s + 1
  clock_on =
      cond_ind Later (sound_line s)
      (λ _. cond_ind Later (frames_set s) frame_later level_later)
      (λ _ z. absurd (omega arith))
