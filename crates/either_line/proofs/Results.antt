-- THE PROOFS of the statements in specs/Promises, each under its name in small letters.
use Prim.Native.Nat.{ℕ, ◌<◌}
use native.Mathlib.Omega.{arith}
use mathlib.Core.Path.{◌≡◌, refl, sym, ap, ◌∙◌, subst}
use mathlib.Core.Bool.{Bool, true, false, not, ◌&&◌, true≢false}
use mathlib.Core.Logic.{inl, inr, ⊎_elim, ◌↔◌}
use mathlib.Core.List.{List, [], ◌∷◌, ◌++◌}
use mathlib.Core.Option.{none, some}
use lib.Dec.{eqb}
use Rattle.rules.specs.declared.Link.{Link}
use Rattle.rules.specs.Limits.{beyond_32_bits}
use Rattle.rules.specs.Model.{State as LevelState, Call as LevelCall}
use Rattle.rules.specs.SoundTest.{sound as level_sound}
use Rattle.rules.specs.Calls.{refused_number as level_refused_number, answer as level_answer}
use Rattle.rules.specs.Runs.{run_from as level_run_from, nothing_yet as level_nothing_yet, History as LevelHistory}
use Rattle.rules.specs.Promises.{AnswerFits}
use Rattle.rules.proofs.Doings.{number_limit}
use Rattle.rules.proofs.Sums.{cond_is, cond_ind}
use Rattle.rules.proofs.Tests.{and_true, and_intro, not_true_false}
use Rattle.rules.proofs.Rows.{none_some}
use Rattle.rules.proofs.Invariant.{Invariant as LevelInvariant, clock_le_end as level_clock}
use Rattle.rules.proofs.Every.{fresh_invariant as level_fresh_invariant}
use Rattle.rules.proofs.Results.{refusals_change_nothing as level_refusals, verdict_1_exactly as level_1_exactly}
use Rattle.rules.proofs.SoundExact.{exact as level_exact}
use Rattle.rules.proofs.SoundKept.{kept as level_kept}
use Rattle.rules.proofs.Fields.{answer_fits as level_fits}
use Rattle.frames.specs.declared.Framing.{Framing}
use Rattle.frames.specs.Model.{State as FrameState, Call as FrameCall}
use Rattle.frames.specs.SoundTest.{sound as frame_sound}
use Rattle.frames.specs.Calls.{refused_number as frame_refused_number, answer as frame_answer}
use Rattle.frames.proofs.Invariant.{Invariant as FrameInvariant}
use Rattle.frames.proofs.Every.{fresh_invariant as frame_fresh_invariant}
use Rattle.frames.proofs.Fields.{clock_le_end as frame_clock}
use Rattle.frames.proofs.Results.{refusals_change_nothing as frame_refusals, test_is_exact as frame_exact, verdict_1_exactly as frame_1_exactly, sound_is_kept as frame_kept, answers_fit as frame_fits}
use Rattle.either_line.specs.Line.{Line, Request, link_levels, link_frames, admit_level, admit_share, offer, notice, close, tick, Reply, by_levels, by_frames, refuse, refused_number, levels_set, frames_set, SoundLine, sound_line, turn, respond, clock_of, fresh_line, run}
use Rattle.either_line.specs.Promises.{EveryRequest, EveryRun, OfLevels, OfFrames}
use Rattle.either_line.proofs.Turns.{level_links, frame_links, level_link_same, frame_link_same, turn_cases}
use Rattle.either_line.proofs.Replies.{reply}
use Rattle.either_line.proofs.Histories.{frames_refused, levels_told, share_refused, frames_told, levels_refused, level_refused, stamp_refused, close_refused, Tied, tied_run, levels_on, frames_on}
use Rattle.either_line.proofs.Names.{LineHistory, after, run_from, nothing_yet, frame_call, level_calls, frame_calls, of_levels, of_frames, OneDiscipline, FirstLinkDecides, ToldByLevels, ToldByFrames, ToldByItsDiscipline}
use Rattle.frames.proofs.Names.{History as FrameHistory, run_from as frame_run_from, nothing_yet as frame_nothing_yet}

-- ---- a refused request changes nothing

same_line : (s : Line) (u : LevelState) (v : FrameState) → u ≡ s.levels → v ≡ s.frames → ◌≡◌ {A = Line} (record { levels = u; frames = v }) s
same_line s u v e f = rw (e, f) refl

abbrev ChangesNothing : Request → Line → Reply → Type 0
ChangesNothing k s a = (a.verdict ≡ 0 → ⊥) → (a.next ≡ s) × (a.departed ≡ none) × (a.number ≡ refused_number k)

pub refusals_change_nothing : (k : Request) (s : Line) → ChangesNothing k s (respond k s)
refusals_change_nothing k s = cond_ind (ChangesNothing k s) (sound_line s) (λ _. turned) (λ _ _. (refl, refl, refl))
  where
    turned : ChangesNothing k s (turn k s)
    turned =
        turn_cases (ChangesNothing k s) s k (λ e _. (refl, refl, sym e))
        (λ j e _ n. let r = level_refusals j s.levels n in (same_line s (level_answer j s.levels).next s.frames r.0 refl, r.1, r.2 ∙ e))
        (λ j e _ n. let r = frame_refusals j s.frames n in (same_line s s.levels (frame_answer j s.frames).next refl r.0, r.1, r.2 ∙ e))

-- ---- the sound line

pub test_is_exact : (s : Line) → sound_line s ≡ true ↔ SoundLine s
unfolding sound_line
test_is_exact s = (to, from)
  where
    to : sound_line s ≡ true → SoundLine s
    to h =
        let a = and_true (level_sound s.levels) _ h in
        let b = and_true (frame_sound s.frames) (not (levels_set s && frames_set s)) a.1 in
        record {
          levels_sound = (level_exact s.levels).0 a.0;
          frames_sound = (frame_exact s.frames).0 b.0;
          never_both = λ l f. true≢false (sym b.1 ∙ ap not (and_intro (levels_set s) (frames_set s) l f));
        }

    one : (l f : Bool) → (l ≡ true → f ≡ true → ⊥) → not (l && f) ≡ true
    one true true n = absurd (n refl refl)
    one true false n = refl
    one false f n = refl

    from : SoundLine s → sound_line s ≡ true
    from S =
        and_intro (level_sound s.levels) _ ((level_exact s.levels).1 S.levels_sound)
        (and_intro (frame_sound s.frames) (not (levels_set s && frames_set s)) ((frame_exact s.frames).1 S.frames_sound) (one (levels_set s) (frames_set s) S.never_both))

-- the reply on a sound line
sound_reply : (k : Request) (s : Line) → SoundLine s → respond k s ≡ turn k s
sound_reply k s S = reply s ((test_is_exact s).1 S) k

pub verdict_1_exactly : (k : Request) (s : Line) → (respond k s).verdict ≡ 1 ↔ (SoundLine s → ⊥)
verdict_1_exactly k s = (
  λ e S.
      turn_cases (λ a. a.verdict ≡ 1 → ⊥) s k (λ _ i. omega arith)
      (λ j _ _ i. (level_1_exactly j s.levels).0 i S.levels_sound)
      (λ j _ _ i. (frame_1_exactly j s.frames).0 i S.frames_sound)
      (sym (ap (λ (a : Reply). a.verdict) (sound_reply k s S)) ∙ e),
  λ n. ap (λ (a : Reply). a.verdict) (cond_is (turn k s) (refuse s 1 (refused_number k)) (not_true_false (sound_line s) (λ e. n ((test_is_exact s).0 e)))),
)

pub sound_is_kept : (k : Request) (s : Line) → SoundLine s → SoundLine (respond k s).next
sound_is_kept k s S = subst (λ (a : Reply). SoundLine a.next) (sym (sound_reply k s S)) (turn_cases (λ a. SoundLine a.next) s k (λ _. S) level frame)
  where
    level : (j : LevelCall) → level_refused_number j ≡ refused_number k → (level_links j ≡ true → frames_set s ≡ false) → SoundLine (by_levels s (level_answer j s.levels)).next
    level j _ only = record {
      levels_sound = level_kept j s.levels S.levels_sound;
      frames_sound = S.frames_sound;
      never_both = λ l f. go (level_links j) refl l f;
    }
      where
        go : (b : Bool) → level_links j ≡ b → levels_set (by_levels s (level_answer j s.levels)).next ≡ true → frames_set s ≡ true → ⊥
        go true i l f = true≢false (sym f ∙ only i)
        go false i l f = S.never_both (ap (λ (m : Link). not (eqb m.levels 0)) (sym (level_link_same j s.levels i)) ∙ l) f

    frame : (j : FrameCall) → frame_refused_number j ≡ refused_number k → (frame_links j ≡ true → levels_set s ≡ false) → SoundLine (by_frames s (frame_answer j s.frames)).next
    frame j _ only = record {
      levels_sound = S.levels_sound;
      frames_sound = frame_kept j s.frames S.frames_sound;
      never_both = λ l f. go (frame_links j) refl l f;
    }
      where
        go : (b : Bool) → frame_links j ≡ b → levels_set s ≡ true → frames_set (by_frames s (frame_answer j s.frames)).next ≡ true → ⊥
        go true i l f = true≢false (sym l ∙ only i)
        go false i l f = S.never_both l (ap (λ (m : Framing). not (eqb m.frame 0)) (sym (frame_link_same j s.frames i)) ∙ f)

pub fresh_is_sound : SoundLine fresh_line
fresh_is_sound = record {
  levels_sound = level_fresh_invariant.sound;
  frames_sound = frame_fresh_invariant.sound;
  never_both = λ l _. true≢false (sym l);
}

-- ---- a reply's numbers fit

clock_fits : (s : Line) → SoundLine s → clock_of s < beyond_32_bits
clock_fits s S =
    cond_ind (λ t. t < beyond_32_bits) (frames_set s) (λ _. omega (arith, frame_clock s.frames S.frames_sound)) (λ _. omega (arith, level_clock s.levels S.levels_sound))

-- the numbers of a reply to k
abbrev ReplyFits : Request → Reply → Type 0
ReplyFits k a = AnswerFits (refused_number k) a (clock_of a.next)

some_limit : (n : ℕ) → n ≡ 0 → 0 < number_limit n
some_limit n e = subst (λ (m : ℕ). 0 < number_limit m) (sym e) (omega arith)

pub answers_fit : (k : Request) (s : Line) → SoundLine s → ReplyFits k (respond k s)
answers_fit k s S = subst (ReplyFits k) (sym (sound_reply k s S)) (turned (subst (λ (a : Reply). SoundLine a.next) (sound_reply k s S) (sound_is_kept k s S)))
  where
    turned : SoundLine (turn k s).next → ReplyFits k (turn k s)
    turned =
        turn_cases (λ a. SoundLine a.next → ReplyFits k a) s k
        (λ e T. record { verdict = omega arith; number = some_limit _ e; level = omega arith; units = omega arith; departed = λ p i. absurd (none_some i); finish = clock_fits s S })
        (λ j e _ T. let f = level_fits j s.levels S.levels_sound in
        record {
          verdict = f.verdict;
          number = subst (λ (n : ℕ). (level_answer j s.levels).number < n) (ap number_limit e) f.number;
          level = f.level;
          units = f.units;
          departed = f.departed;
          finish = clock_fits _ T;
        })
        (λ j e _ T. let f = frame_fits j s.frames S.frames_sound in
        record {
          verdict = f.verdict;
          number = subst (λ (n : ℕ). (frame_answer j s.frames).number < n) (ap number_limit e) f.number;
          level = f.level;
          units = f.units;
          departed = f.departed;
          finish = clock_fits _ T;
        })

-- ---- every request

pub every_request : EveryRequest
every_request k s = record {
  refusals_change_nothing = refusals_change_nothing k s;
  test_is_exact = test_is_exact s;
  verdict_1_exactly = verdict_1_exactly k s;
  sound_is_kept = sound_is_kept k s;
  answers_fit = answers_fit k s;
}

sound_from : (ks : List Request) (h : LineHistory) → SoundLine h.now → SoundLine (run_from h ks).now
sound_from [] h S = S
sound_from (k ∷ ks) h S = sound_from ks (after h k) (sound_is_kept k h.now S)

pub runs_are_sound : (ks : List Request) → SoundLine (run ks).now
runs_are_sound ks = sound_from ks nothing_yet fresh_is_sound

-- ---- one discipline

tied : (ks : List Request) → Tied (run ks) (level_run_from level_nothing_yet (level_calls ks)) (frame_run_from frame_nothing_yet (frame_calls ks))
tied ks = tied_run ks nothing_yet level_nothing_yet frame_nothing_yet (inl (refl, refl, refl))

pub one_discipline : OneDiscipline
one_discipline ks =
    ⊎_elim
    (λ e. inl (ap (λ (g : LineHistory). frames_set g.now) e.0, e.0 ∙ ap of_levels (sym e.1)))
    (λ b. ⊎_elim (λ l. inl (ap (λ (g : LineHistory). frames_set g.now) l.is, l.is)) (λ f. inr (frames_on [] (run ks) _ f, f.is)) b)
    (tied ks)

run_append : (ks ms : List Request) (h : LineHistory) → run_from h (ks ++ ms) ≡ run_from (run_from h ks) ms
run_append [] ms h = refl
run_append (k ∷ ks) ms h = run_append ks ms _

pub first_link_decides : FirstLinkDecides
first_link_decides ks ms = (λ l. go_levels l (tied ks), λ f. go_frames f (tied ks))
  where
    on : run (ks ++ ms) ≡ run_from (run ks) ms
    on = run_append ks ms nothing_yet

    go_levels : levels_set (run ks).now ≡ true → Tied (run ks) (level_run_from level_nothing_yet (level_calls ks)) (frame_run_from frame_nothing_yet (frame_calls ks)) → levels_set (run (ks ++ ms)).now ≡ true
    go_levels l (inl e) = absurd (true≢false (sym l ∙ ap (λ (g : LineHistory). levels_set g.now) e.0))
    go_levels l (inr (inl b)) = ap (λ (g : LineHistory). levels_set g.now) on ∙ levels_on ms (run ks) _ b
    go_levels l (inr (inr b)) = absurd (true≢false (sym l ∙ ap (λ (g : LineHistory). levels_set g.now) b.is))

    go_frames : frames_set (run ks).now ≡ true → Tied (run ks) (level_run_from level_nothing_yet (level_calls ks)) (frame_run_from frame_nothing_yet (frame_calls ks)) → frames_set (run (ks ++ ms)).now ≡ true
    go_frames f (inl e) = absurd (true≢false (sym f ∙ ap (λ (g : LineHistory). frames_set g.now) e.0))
    go_frames f (inr (inl b)) = absurd (true≢false (sym f ∙ ap (λ (g : LineHistory). frames_set g.now) b.is))
    go_frames f (inr (inr b)) = ap (λ (g : LineHistory). frames_set g.now) on ∙ frames_on ms (run ks) _ b

-- ---- what is replied

levels_at : (h : LevelHistory) → LevelInvariant h → ToldByLevels (of_levels h).now h.now
levels_at h I = record { known = levels_told h I; link = frames_refused h I; other = share_refused h I }

frames_at : (h : FrameHistory) → FrameInvariant h → (h.now.link.frame ≡ 0 → ⊥) → ToldByFrames (of_frames h).now h.now
frames_at h I set = record { known = frames_told h I set; link = levels_refused h I set; other = other }
  where
    other : (k : Request) → frame_call k ≡ none → ((l : Link) → k ≡ link_levels l → ⊥) → respond k (of_frames h).now ≡ refuse (of_frames h).now 2 (refused_number k)
    other (link_levels l) e n = absurd (n l refl)
    other (link_frames l) e n = absurd (none_some (sym e))
    other (admit_level x) e n = level_refused h I set x
    other (admit_share x) e n = absurd (none_some (sym e))
    other (offer c len tag none) e n = absurd (none_some (sym e))
    other (offer c len tag (some st)) e n = stamp_refused h I set c len tag st
    other (notice len tag) e n = absurd (none_some (sym e))
    other (close c) e n = close_refused h I set c
    other tick e n = absurd (none_some (sym e))

pub told_by_its_discipline : ToldByItsDiscipline
told_by_its_discipline ks = (λ n. by_level n (tied ks), λ f. by_frame f (tied ks))
  where
    by_level : frames_set (run ks).now ≡ false → Tied (run ks) (level_run_from level_nothing_yet (level_calls ks)) (frame_run_from frame_nothing_yet (frame_calls ks))
        → ToldByLevels (run ks).now (level_run_from level_nothing_yet (level_calls ks)).now
    by_level n (inl e) =
        subst (λ (g : LineHistory). ToldByLevels g.now (level_run_from level_nothing_yet (level_calls ks)).now) (sym e.0)
        (subst (λ (u : LevelHistory). ToldByLevels nothing_yet.now u.now) (sym e.1) (levels_at level_nothing_yet level_fresh_invariant))
    by_level n (inr (inl b)) =
        subst (λ (g : LineHistory). ToldByLevels g.now (level_run_from level_nothing_yet (level_calls ks)).now) (sym b.is)
        (levels_at (level_run_from level_nothing_yet (level_calls ks)) b.holds)
    by_level n (inr (inr b)) = absurd (true≢false (sym (frames_on [] (run ks) _ b) ∙ n))

    by_frame : frames_set (run ks).now ≡ true → Tied (run ks) (level_run_from level_nothing_yet (level_calls ks)) (frame_run_from frame_nothing_yet (frame_calls ks))
        → ToldByFrames (run ks).now (frame_run_from frame_nothing_yet (frame_calls ks)).now
    by_frame f (inl e) = absurd (true≢false (sym f ∙ ap (λ (g : LineHistory). frames_set g.now) e.0))
    by_frame f (inr (inl b)) = absurd (true≢false (sym f ∙ ap (λ (g : LineHistory). frames_set g.now) b.is))
    by_frame f (inr (inr b)) =
        let h = frame_run_from frame_nothing_yet (frame_calls ks) in
        subst (λ (g : LineHistory). ToldByFrames g.now h.now) (sym b.is) (frames_at h b.holds b.set)

-- ---- every run

pub every_run : EveryRun
every_run ks = (runs_are_sound ks, ⊎_elim (λ l. inl (of_level l.0 l.1)) (λ f. inr (of_frame f.0 f.1)) (one_discipline ks))
  where
    of_level : frames_set (run ks).now ≡ false → run ks ≡ of_levels (level_run_from level_nothing_yet (level_calls ks)) → OfLevels ks
    of_level n is =
        let T = (told_by_its_discipline ks).0 n in
        record {
          frames_unset = n;
          is_of_levels = is;
          stays = λ l ms. (first_link_decides ks ms).0 l;
          known = λ k x i. T.known k x i ∙ ap (λ (u : LevelState). by_levels (run ks).now (level_answer x u)) (sym (ap (λ (g : LineHistory). g.now.levels) is));
          link = T.link;
          other = T.other;
        }

    of_frame : frames_set (run ks).now ≡ true → run ks ≡ of_frames (frame_run_from frame_nothing_yet (frame_calls ks)) → OfFrames ks
    of_frame f is =
        let T = (told_by_its_discipline ks).1 f in
        record {
          frames_are_set = f;
          is_of_frames = is;
          stays = λ ms. (first_link_decides ks ms).1 f;
          known = λ k x i. T.known k x i ∙ ap (λ (u : FrameState). by_frames (run ks).now (frame_answer x u)) (sym (ap (λ (g : LineHistory). g.now.frames) is));
          link = T.link;
          other = T.other;
        }
