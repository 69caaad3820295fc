-- Ticks in which nothing starts and nothing departs: what the rules reply to each, and the line after it, by the discipline that is set.
use Prim.Native.Nat.{ℕ, zero, suc, ◌+◌, ◌≤◌, min}
use mathlib.Core.Path.{◌≡◌, refl, sym, ap, ◌∙◌, subst}
use mathlib.Core.Bool.{Bool, true, false, cond, ◌&&◌, ◌||◌}
use mathlib.Core.Logic.{◌⊎◌, inl, inr}
use mathlib.Core.Option.{none}
use Rattle.rules.specs.Limits.{clock_end}
use Rattle.rules.specs.Model.{State as LevelState, fresh as level_fresh, tick as level_tick, no_short}
use Rattle.rules.proofs.Sums.{cond_is, cond_ind}
use Rattle.frames.specs.Model.{State as FrameState, fresh as FrameFresh, tick as frame_tick}
use Rattle.either_line.specs.Line.{Line, tick, Reply, by_levels, by_frames, frames_set, levels_set, clock_of, SoundLine, sound_line, respond}
use Rattle.either_line.proofs.Replies.{levels_told, frames_told}
use Rattle.either_line.proofs.Results.{test_is_exact, sound_is_kept}
use Rattle.rules.specs.SoundTest.{sound as level_sound}
use Rattle.rules.proofs.Tests.{and_true, not_true_false}
use Rattle.frames.specs.SoundTest.{sound as frame_sound}
use Rattle.line.proofs.QuietLaws.{Quiets}
use Rattle.service.specs.Quiet.{passed as level_passed, quiet_ticks as level_quiet_ticks}
use Rattle.service.proofs.QuietLaws as level
use Rattle.framed_service.specs.Quiet.{passed as frame_passed, quiet_ticks as frame_quiet_ticks}
use Rattle.framed_service.proofs.QuietLaws as frame
use Rattle.state.specs.View.{Hub}
use Rattle.framed_state.specs.View.{Frames}
use Rattle.tables.specs.Lent.{Tables}
use Rattle.state.specs.View.{hub_of, view as level_view}
use Rattle.framed_state.specs.View.{frames_of, view as frame_view}
use Rattle.both.specs.declared.Kept.{Kept}
use Rattle.both.specs.View.{has_frames, framed, view, kept_clock, kept_of, written, sound_kept}
use Rattle.both.proofs.Views.{of_frames}
use Rattle.both.specs.Quiet.{passed, quiet_ticks}
use Rattle.both.proofs.SoundLaws.{seen_framed, seen_level, line_framed, line_level, clock_kept, sound_view}

-- for k ticks nothing starts and nothing departs on a sound line, up to the clock's end
pub record Quiet (s : Line) (k : ℕ) : Type 0 where
  pub sound_state : SoundLine s
  pub in_time : clock_of s + k ≤ clock_end
  pub still : ((frames_set s ≡ true) × frame.Quiet s.frames k) ⊎ ((frames_set s ≡ false) × level.Quiet s.levels k)

abbrev frames_passed : Line → ℕ → Line
frames_passed s k = record { levels = s.levels; frames = frame_passed s.frames k }

abbrev levels_passed : Line → ℕ → Line
levels_passed s k = record { levels = level_passed s.levels k; frames = s.frames }

-- ---- one tick

abbrev pub quiet_reply : Line → Reply
quiet_reply s = record { verdict = 0; number = 0; short = no_short; departed = none; next = passed s 1 }

module _ (s : Line) where
  framed_pass : (k : ℕ) → frames_set s ≡ true → passed s k ≡ frames_passed s k
  framed_pass k f = cond_is (frames_passed s k) (levels_passed s k) f

  level_pass : (k : ℕ) → frames_set s ≡ false → passed s k ≡ levels_passed s k
  level_pass k n = cond_is (frames_passed s k) (levels_passed s k) n

  module _ (k : ℕ) (Q : Quiet s (suc k)) where
    sound_now : sound_line s ≡ true
    sound_now = (test_is_exact s).1 Q.sound_state

    pub one_quiet_tick : respond tick s ≡ quiet_reply s
    one_quiet_tick = go Q.still
      where
        go : ((frames_set s ≡ true) × frame.Quiet s.frames (suc k)) ⊎ ((frames_set s ≡ false) × level.Quiet s.levels (suc k)) → respond tick s ≡ quiet_reply s
        go (inl (f, q)) =
            frames_told s sound_now f (not_true_false (levels_set s) (λ l. Q.sound_state.never_both l f)) tick frame_tick refl
            ∙ ap (by_frames s) (frame.one_quiet_tick s.frames k q)
            ∙ ap (λ (x : Line). record { verdict = 0; number = 0; short = no_short; departed = none; next = x }) (sym (framed_pass 1 f))
        go (inr (n, q)) =
            levels_told s sound_now n tick level_tick refl
            ∙ ap (by_levels s) (level.one_quiet_tick s.levels k q)
            ∙ ap (λ (x : Line). record { verdict = 0; number = 0; short = no_short; departed = none; next = x }) (sym (level_pass 1 n))

    pub quiet_then : Quiet (passed s 1) k
    quiet_then = go Q.still (subst (λ (a : Reply). SoundLine a.next) one_quiet_tick (sound_is_kept tick s Q.sound_state))
      where
        go : ((frames_set s ≡ true) × frame.Quiet s.frames (suc k)) ⊎ ((frames_set s ≡ false) × level.Quiet s.levels (suc k)) → SoundLine (passed s 1) → Quiet (passed s 1) k
        go (inl (f, q)) S =
            let r = frame.quiet_then s.frames k q in
            subst (λ (x : Line). Quiet x k) (sym (framed_pass 1 f))
            (record {
              sound_state = subst SoundLine (framed_pass 1 f) S;
              in_time = subst (λ (t : ℕ). t + k ≤ clock_end) (sym (cond_is (frames_passed s 1).frames.clock s.levels.clock f)) r.in_time;
              still = inl (f, r);
            })
        go (inr (n, q)) S =
            let r = level.quiet_then s.levels k q in
            subst (λ (x : Line). Quiet x k) (sym (level_pass 1 n))
            (record {
              sound_state = subst SoundLine (level_pass 1 n) S;
              in_time = subst (λ (t : ℕ). t + k ≤ clock_end) (sym (cond_is s.frames.clock (levels_passed s 1).levels.clock n)) r.in_time;
              still = inr (n, r);
            })

-- ---- many

pub pass_none : (s : Line) → passed s 0 ≡ s
pass_none s =
    cond_ind (λ x. x ≡ s) (frames_set s)
    (λ _. ap (λ (y : FrameState). record { levels = s.levels; frames = y }) (frame.pass_none s.frames))
    (λ _. ap (λ (y : LevelState). record { levels = y; frames = s.frames }) (level.pass_none s.levels))

pub pass_one_more : (s : Line) (k : ℕ) → passed (passed s 1) k ≡ passed s (suc k)
pass_one_more s k = go (frames_set s) refl
  where
    go : (b : Bool) → frames_set s ≡ b → passed (passed s 1) k ≡ passed s (suc k)
    go true f =
        ap (λ (x : Line). passed x k) (framed_pass s 1 f)
        ∙ framed_pass (frames_passed s 1) k f
        ∙ ap (λ (y : FrameState). record { levels = s.levels; frames = y }) (frame.pass_one_more s.frames k)
        ∙ sym (framed_pass s (suc k) f)
    go false n =
        ap (λ (x : Line). passed x k) (level_pass s 1 n)
        ∙ level_pass (levels_passed s 1) k n
        ∙ ap (λ (y : LevelState). record { levels = y; frames = s.frames }) (level.pass_one_more s.levels k)
        ∙ sym (level_pass s (suc k) n)

-- what holds of no tick, and of one more quiet tick before others, holds of quiet ticks passed over
pub over_quiet : (P : ℕ → Line → Line → Type 0) → ((s : Line) → SoundLine s → P 0 s s) → ((k : ℕ) (s z : Line) → respond tick s ≡ quiet_reply s → P k (passed s 1) z → P (suc k) s z)
    → (k : ℕ) (s : Line) → Quiet s k → P k s (passed s k)
over_quiet P start more zero s Q = subst (P 0 s) (sym (pass_none s)) (start s Q.sound_state)
over_quiet P start more (suc k) s Q =
    subst (P (suc k) s) (pass_one_more s k) (more k s (passed (passed s 1) k) (one_quiet_tick s k Q) (over_quiet P start more k (passed s 1) (quiet_then s k Q)))

-- what is passed over leaves the tables
pub passed_written : (s : Line) (k : ℕ) → written s ≡ written (passed s k)
passed_written s k = cond_ind (λ x. written s ≡ written x) (frames_set s) (λ _. refl) (λ _. refl)

-- ---- those that are passed over at once

-- as each discipline has them
set_apart : (b f l x y : Bool) (m n left : ℕ) → (b ≡ true → (x ≡ true) × (y ≡ true))
    → cond (b && (l || f)) (min (cond f n m) left) 0 ≡ cond b (cond f (cond (y && f) (min n left) 0) (cond (x && l) (min m left) 0)) 0
set_apart false f l x y m n left h = refl
set_apart true true true x y m n left h = rw (h refl).1
set_apart true true false x y m n left h = rw (h refl).1
set_apart true false true x y m n left h = rw (h refl).0
set_apart true false false x y m n left h = rw (h refl).0

both_sound : (s : Line) → sound_line s ≡ true → (level_sound s.levels ≡ true) × (frame_sound s.frames ≡ true)
unfolding sound_line
both_sound s ok = let p = and_true (level_sound s.levels) _ ok in (p.0, (and_true (frame_sound s.frames) _ p.1).0)

by_discipline : (left : ℕ) (s : Line) → quiet_ticks left s ≡ cond (sound_line s) (cond (frames_set s) (frame_quiet_ticks left s.frames) (level_quiet_ticks left s.levels)) 0
unfolding quiet_ticks level_quiet_ticks frame_quiet_ticks
by_discipline left s = set_apart (sound_line s) (frames_set s) (levels_set s) (level_sound s.levels) (frame_sound s.frames) _ _ left (both_sound s)

pub quiets : (left : ℕ) (s : Line) → (quiet_ticks left s ≡ 0 → ⊥) → Quiets (Quiet s) left (quiet_ticks left s)
quiets left s =
    subst (λ (k : ℕ). (k ≡ 0 → ⊥) → Quiets (Quiet s) left k) (sym (by_discipline left s))
    (cond_ind (λ k. (k ≡ 0 → ⊥) → Quiets (Quiet s) left k) (sound_line s) sounds (λ _ n. absurd (n refl)))
  where
    sounds : sound_line s ≡ true → (cond (frames_set s) (frame_quiet_ticks left s.frames) (level_quiet_ticks left s.levels) ≡ 0 → ⊥)
        → Quiets (Quiet s) left (cond (frames_set s) (frame_quiet_ticks left s.frames) (level_quiet_ticks left s.levels))
    sounds ok =
        cond_ind (λ k. (k ≡ 0 → ⊥) → Quiets (Quiet s) left k) (frames_set s)
        (λ f n. let q = frame.quiets left s.frames n in
        record {
          few = q.few;
          quiet = record {
            sound_state = (test_is_exact s).0 ok;
            in_time = subst (λ (t : ℕ). t + frame_quiet_ticks left s.frames ≤ clock_end) (sym (cond_is s.frames.clock s.levels.clock f)) q.quiet.in_time;
            still = inl (f, q.quiet);
          };
        })
        (λ f n. let q = level.quiets left s.levels n in
        record {
          few = q.few;
          quiet = record {
            sound_state = (test_is_exact s).0 ok;
            in_time = subst (λ (t : ℕ). t + level_quiet_ticks left s.levels ≤ clock_end) (sym (cond_is s.frames.clock s.levels.clock f)) q.quiet.in_time;
            still = inr (f, q.quiet);
          };
        })

pub quiet_room : (left : ℕ) (s : Line) {k : ℕ} → k ≡ quiet_ticks left s → (k ≡ 0 → ⊥) → Quiets (Quiet s) left k
quiet_room left s e n = rw e (quiets left s (λ z. n (e ∙ z)))

-- they are no more than are left, and end before the clock does
pub quiet_fits : (left : ℕ) (h : Kept) (t : Tables) {k : ℕ} → k ≡ quiet_ticks left (view h t) → (k ≡ 0 → ⊥) → (k ≤ left) × (kept_clock h + k ≤ clock_end)
quiet_fits left h t e n =
    let i = quiet_room left (view h t) e n in
    (i.few, rw (← clock_kept h t) i.quiet.in_time)

-- ---- in code

module _ (h : Kept) (k : ℕ) where
  module _ (x : Hub) (y : Frames) (t : Tables) where
    pub framed_on : has_frames h ≡ true → x ≡ hub_of level_fresh → y ≡ frames_of (frame_passed (frame_view h.frames (framed t)) k)
        → ◌≡◌ {A = Kept} (record { hub = x; frames = y }) (kept_of (passed (view h t) k))
    framed_on f e g =
        ap (λ (u : Hub). record { hub = u; frames = y }) e
        ∙ ap (λ (u : Frames). record { hub = hub_of level_fresh; frames = u }) g
        ∙ sym (ap (λ (s : Line). kept_of (passed s k)) (seen_framed h t f) ∙ ap kept_of (framed_pass (of_frames h t) k f))

    pub level_on : has_frames h ≡ false → x ≡ hub_of (level_passed (level_view h.hub t) k) → y ≡ frames_of FrameFresh
        → ◌≡◌ {A = Kept} (record { hub = x; frames = y }) (kept_of (passed (view h t) k))
    level_on n e g =
        ap (λ (u : Hub). record { hub = u; frames = y }) e
        ∙ ap (λ (u : Frames). record { hub = hub_of (level_passed (level_view h.hub t) k); frames = u }) g
        ∙ sym (ap (λ (s : Line). kept_of (passed s k)) (seen_level h t n))

  -- the clock stays within its end
  module _ (l : kept_clock h + k ≤ clock_end) where
    pub framed_room : has_frames h ≡ true → h.frames.clock + k ≤ clock_end
    framed_room f = subst (λ (t : ℕ). t + k ≤ clock_end) (cond_is h.frames.clock h.hub.clock f) l

    pub level_room : has_frames h ≡ false → h.hub.clock + k ≤ clock_end
    level_room n = subst (λ (t : ℕ). t + k ≤ clock_end) (cond_is h.frames.clock h.hub.clock n) l

module _ (left : ℕ) (h : Kept) (t : Tables) (ok : sound_kept h t ≡ true) where
  told : quiet_ticks left (view h t) ≡ cond (frames_set (view h t)) (frame_quiet_ticks left (view h t).frames) (level_quiet_ticks left (view h t).levels)
  told = by_discipline left (view h t) ∙ cond_is (cond (frames_set (view h t)) (frame_quiet_ticks left (view h t).frames) (level_quiet_ticks left (view h t).levels)) 0 (sound_view h t ok)

  pub framed_quiet : has_frames h ≡ true → (k : ℕ) → k ≡ frame_quiet_ticks left (frame_view h.frames (framed t)) → k ≡ quiet_ticks left (view h t)
  framed_quiet f k e =
      e
      ∙ ap (λ (s : Line). frame_quiet_ticks left s.frames) (sym (seen_framed h t f))
      ∙ sym (told ∙ cond_is (frame_quiet_ticks left (view h t).frames) (level_quiet_ticks left (view h t).levels) (line_framed h t f))

  pub level_quiet : has_frames h ≡ false → (k : ℕ) → k ≡ level_quiet_ticks left (level_view h.hub t) → k ≡ quiet_ticks left (view h t)
  level_quiet n k e =
      e
      ∙ ap (λ (s : Line). level_quiet_ticks left s.levels) (sym (seen_level h t n))
      ∙ sym (told ∙ cond_is (frame_quiet_ticks left (view h t).frames) (level_quiet_ticks left (view h t).levels) (line_level h t n))
