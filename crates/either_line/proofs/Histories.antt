-- A line's history and those of the two disciplines are tied at every step.
use Prim.Native.Nat.{ℕ}
use native.Mathlib.Omega.{arith}
use mathlib.Core.Path.{◌≡◌, refl, sym, ap, ◌∙◌, subst}
use mathlib.Core.Bool.{Bool, true, false, cond, not, ◌&&◌, true≢false}
use mathlib.Core.Logic.{◌⊎◌, inl, inr, ⊎_elim}
use mathlib.Core.List.{List, [], ◌∷◌, filter_map}
use mathlib.Core.Option.{Option, none, some}
use borrow.Author.Tests.{ne_eqb}
use Rattle.rules.specs.declared.Link.{Link}
use Rattle.rules.specs.declared.Connection.{Connection}
use Rattle.rules.specs.declared.Packet.{Packet}
use Rattle.rules.specs.Words.{push}
use Rattle.rules.specs.Limits.{notice_number, no_connection_number}
use Rattle.rules.specs.Model.{State as LevelState, Call as LevelCall, link as level_link, admit as level_admit, offer as level_offer, notice as level_notice, close as level_close, tick as level_tick, Answer as LevelAnswer, fresh as level_fresh}
use Rattle.rules.specs.SoundTest.{sound as level_sound}
use Rattle.rules.specs.Calls.{verdict as level_verdict, answer as level_answer}
use Rattle.rules.specs.Runs.{if_done, History as LevelHistory, logged as level_logged, after as level_after, run_from as level_run_from, nothing_yet as level_nothing_yet}
use Rattle.rules.proofs.RunWords.{leaving as level_leaving}
use Rattle.rules.proofs.Sums.{cond_is}
use Rattle.rules.proofs.Tests.{and_intro}
use Rattle.rules.proofs.Figures.{link_facts}
use Rattle.rules.proofs.Verdicts.{settled as level_settled, link_done as level_link_done}
use Rattle.rules.proofs.SoundExact.{exact as level_exact}
use Rattle.rules.proofs.Invariant.{Invariant as LevelInvariant}
use Rattle.rules.proofs.Every.{keeps as level_keeps, fresh_invariant as level_fresh_invariant}
use Rattle.frames.specs.declared.Framing.{Framing}
use Rattle.frames.specs.declared.Share.{Share}
use Rattle.frames.specs.Model.{State as FrameState, Call as FrameCall, link as frame_link, admit as frame_admit, offer as frame_offer, notice as frame_notice, tick as frame_tick, Answer as FrameAnswer, fresh as FrameFresh}
use Rattle.frames.specs.SoundTest.{sound as frame_sound}
use Rattle.frames.specs.Calls.{verdict as frame_verdict, answer as frame_answer}
use Rattle.frames.proofs.Figures.{framing_facts}
use Rattle.frames.proofs.Verdicts.{settled as frame_settled, link_done as frame_link_done}
use Rattle.frames.proofs.SoundExact.{exact as frame_exact}
use Rattle.frames.proofs.Invariant.{Invariant as FrameInvariant}
use Rattle.frames.proofs.Every.{keeps as frame_keeps, fresh_invariant as frame_fresh_invariant}
use Rattle.either_line.specs.Line.{Line, Request, link_levels, link_frames, admit_level, admit_share, offer, notice, close, tick, by_levels, by_frames, refuse, levels_set, frames_set, sound_line, turn, refused_number, respond, clock_of}
use Rattle.either_line.proofs.Replies as R
use Rattle.either_line.proofs.Turns.{level_links, frame_links, level_link_same, frame_link_same, level_unset, frame_unset}
use Rattle.either_line.proofs.Names.{calls_step, LineHistory, leaving, logged, after, run_from, nothing_yet, and_then, level_call, frame_call, level_calls, frame_calls, of_levels, of_frames}
use Rattle.frames.proofs.Names.{History as FrameHistory, leaving as frame_leaving, logged as frame_logged, after as frame_after, run_from as frame_run_from, nothing_yet as frame_nothing_yet}

-- a call of the discipline, where the request is one
abbrev level_step : Option LevelCall → LevelHistory → LevelHistory
level_step none h = h
level_step (some k) h = level_after h k

abbrev frame_step : Option FrameCall → FrameHistory → FrameHistory
frame_step none h = h
frame_step (some k) h = frame_after h k

level_run_step : (o : Option LevelCall) (ks : List LevelCall) (h : LevelHistory) → level_run_from h (and_then o ks) ≡ level_run_from (level_step o h) ks
level_run_step none ks h = refl
level_run_step (some k) ks h = refl

frame_run_step : (o : Option FrameCall) (ks : List FrameCall) (h : FrameHistory) → frame_run_from h (and_then o ks) ≡ frame_run_from (frame_step o h) ks
frame_run_step none ks h = refl
frame_run_step (some k) ks h = refl

-- ---- a link that is set stays

level_stays : (k : LevelCall) (s : LevelState) → (s.link.levels ≡ 0 → ⊥) → (level_answer k s).next.link.levels ≡ 0 → ⊥
level_stays k s set = go (level_links k) refl
  where
    linked : (k : LevelCall) → level_links k ≡ true → level_verdict k s ≡ 0 → ⊥
    linked (level_link l) i e = set (level_link_done s l e).unset
    linked (level_admit x) i e = true≢false (sym i)
    linked (level_offer c len tag st) i e = true≢false (sym i)
    linked (level_notice len tag) i e = true≢false (sym i)
    linked (level_close c) i e = true≢false (sym i)
    linked level_tick i e = true≢false (sym i)

    go : (b : Bool) → level_links k ≡ b → (level_answer k s).next.link.levels ≡ 0 → ⊥
    go true i = level_settled (λ a. a.next.link.levels ≡ 0 → ⊥) k s (level_verdict k s) (λ e. absurd (linked k i e)) (λ _. set)
    go false i = λ z. set (sym (ap (λ (l : Link). l.levels) (level_link_same k s i)) ∙ z)

pub frame_stays : (k : FrameCall) (s : FrameState) → (s.link.frame ≡ 0 → ⊥) → (frame_answer k s).next.link.frame ≡ 0 → ⊥
frame_stays k s set = go (frame_links k) refl
  where
    linked : (k : FrameCall) → frame_links k ≡ true → frame_verdict k s ≡ 0 → ⊥
    linked (frame_link l) i e = set (frame_link_done s l e).unset
    linked (frame_admit x) i e = true≢false (sym i)
    linked (frame_offer c len tag) i e = true≢false (sym i)
    linked (frame_notice len tag) i e = true≢false (sym i)
    linked frame_tick i e = true≢false (sym i)

    go : (b : Bool) → frame_links k ≡ b → (frame_answer k s).next.link.frame ≡ 0 → ⊥
    go true i = frame_settled (λ a. a.next.link.frame ≡ 0 → ⊥) k s (frame_verdict k s) (λ e. absurd (linked k i e)) (λ _. set)
    go false i = λ z. set (sym (ap (λ (l : Framing). l.frame) (frame_link_same k s i)) ∙ z)

-- ---- levels are set, or will be

-- requests that a line of levels, linked or not, answers as that discipline or refuses for want of a link
abbrev not_link_frames : Request → Bool
not_link_frames (link_levels l) = true
not_link_frames (link_frames l) = false
not_link_frames (admit_level x) = true
not_link_frames (admit_share x) = true
not_link_frames (offer c len tag st) = true
not_link_frames (notice len tag) = true
not_link_frames (close c) = true
not_link_frames tick = true

module _ (h : LevelHistory) (I : LevelInvariant h) where
  abbrev s : Line
  s = (of_levels h).now

  levels_sound : sound_line s ≡ true
  unfolding sound_line
  levels_sound =
      and_intro (level_sound h.now) _ ((level_exact h.now).1 I.sound)
      (and_intro (frame_sound FrameFresh) _ ((frame_exact FrameFresh).1 frame_fresh_invariant.sound) (go (levels_set s)))
    where
      go : (b : Bool) → not (b && false) ≡ true
      go true = refl
      go false = refl

  -- the log of an answer is the line's
  levels_log : (acc : List Packet) (a : LevelAnswer) → ◌≡◌ {A = LineHistory}
      (record { accepted = acc; departed = push h.departed (leaving s a.departed); now = record { levels = a.next; frames = FrameFresh } })
      (record { accepted = acc; departed = push h.departed (level_leaving h.now a.departed); now = record { levels = a.next; frames = FrameFresh } })
  levels_log acc a = go a.departed
    where
      go : (o : Option Packet) → ◌≡◌ {A = LineHistory}
          (record { accepted = acc; departed = push h.departed (leaving s o); now = record { levels = a.next; frames = FrameFresh } })
          (record { accepted = acc; departed = push h.departed (level_leaving h.now o); now = record { levels = a.next; frames = FrameFresh } })
      go none = refl
      go (some p) = refl

  -- an admission of frames is refused
  share_logged : (x : Share) → logged (of_levels h) (admit_share x) (turn (admit_share x) s) ≡ of_levels h
  share_logged x = ap (λ (a : FrameAnswer). logged (of_levels h) (admit_share x) (by_frames s a)) (frame_unset (frame_admit x) refl)

  levels_turn : (k : Request) → not_link_frames k ≡ true → logged (of_levels h) k (turn k s) ≡ of_levels (level_step (level_call k) h)
  levels_turn (link_levels l) i = levels_log h.accepted (level_answer (level_link l) h.now)
  levels_turn (link_frames l) i = absurd (true≢false (sym i))
  levels_turn (admit_level x) i = levels_log h.accepted (level_answer (level_admit x) h.now)
  levels_turn (admit_share x) i = share_logged x
  levels_turn (offer c len tag none) i = levels_log (level_after h (level_offer c len tag none)).accepted (level_answer (level_offer c len tag none) h.now)
  levels_turn (offer c len tag (some st)) i = levels_log (level_after h (level_offer c len tag (some st))).accepted (level_answer (level_offer c len tag (some st)) h.now)
  levels_turn (notice len tag) i = levels_log (level_after h (level_notice len tag)).accepted (level_answer (level_notice len tag) h.now)
  levels_turn (close c) i = levels_log h.accepted (level_answer (level_close c) h.now)
  levels_turn tick i = levels_log h.accepted (level_answer level_tick h.now)

  pub levels_step : (k : Request) → not_link_frames k ≡ true → after (of_levels h) k ≡ of_levels (level_step (level_call k) h)
  levels_step k i =
      ap (λ (b : Bool). logged (of_levels h) k (cond b (turn k s) (refuse s 1 (refused_number k)))) levels_sound ∙ levels_turn k i

  pub frames_refused : (l : Framing) → levels_set s ≡ true → respond (link_frames l) s ≡ refuse s 3 0
  frames_refused l set = R.frames_refused s levels_sound set l

  pub levels_after : (h.now.link.levels ≡ 0 → ⊥) → (k : Request) → after (of_levels h) k ≡ of_levels (level_step (level_call k) h)
  levels_after set (link_levels l) = levels_step (link_levels l) refl
  levels_after set (link_frames l) = ap (logged (of_levels h) (link_frames l)) (frames_refused l (ap not (ne_eqb h.now.link.levels 0 set)))
  levels_after set (admit_level x) = levels_step (admit_level x) refl
  levels_after set (admit_share x) = levels_step (admit_share x) refl
  levels_after set (offer c len tag st) = levels_step (offer c len tag st) refl
  levels_after set (notice len tag) = levels_step (notice len tag) refl
  levels_after set (close c) = levels_step (close c) refl
  levels_after set tick = levels_step tick refl

  pub levels_told : (k : Request) (x : LevelCall) → level_call k ≡ some x → respond k s ≡ by_levels s (level_answer x h.now)
  levels_told = R.levels_told s levels_sound refl

  pub share_refused : (x : Share) → respond (admit_share x) s ≡ refuse s 2 no_connection_number
  share_refused = R.share_refused s levels_sound refl

-- ---- frames are set, or will be

module _ (h : FrameHistory) (I : FrameInvariant h) where
  abbrev r : Line
  r = (of_frames h).now

  frames_sound : sound_line r ≡ true
  unfolding sound_line
  frames_sound =
      and_intro (level_sound level_fresh) _ ((level_exact level_fresh).1 level_fresh_invariant.sound)
      (and_intro (frame_sound h.now) _ ((frame_exact h.now).1 I.sound) refl)

  module _ (set : h.now.link.frame ≡ 0 → ⊥) where
    is_set : frames_set r ≡ true
    is_set = ap not (ne_eqb h.now.link.frame 0 set)

    frames_log : (acc : List Packet) (a : FrameAnswer) → ◌≡◌ {A = LineHistory}
        (record { accepted = acc; departed = push h.departed (leaving r a.departed); now = record { levels = level_fresh; frames = a.next } })
        (record { accepted = acc; departed = push h.departed (frame_leaving h.now a.departed); now = record { levels = level_fresh; frames = a.next } })
    frames_log acc a = go a.departed
      where
        go : (o : Option Packet) → ◌≡◌ {A = LineHistory}
            (record { accepted = acc; departed = push h.departed (leaving r o); now = record { levels = level_fresh; frames = a.next } })
            (record { accepted = acc; departed = push h.departed (frame_leaving h.now o); now = record { levels = level_fresh; frames = a.next } })
        go none = refl
        go (some p) = rw is_set

    -- an accepted packet bears the clock of the discipline that is set
    at_clock : (c len tag : ℕ) (a : FrameAnswer) → ◌≡◌ {A = LineHistory}
        (record {
          accepted = push h.accepted (if_done a.verdict (record { connection = c; len = len; tag = tag; arrival = clock_of r; eligibility = a.number }));
          departed = push h.departed (leaving r a.departed);
          now = record { levels = level_fresh; frames = a.next };
        })
        (record {
          accepted = push h.accepted (if_done a.verdict (record { connection = c; len = len; tag = tag; arrival = h.now.clock; eligibility = a.number }));
          departed = push h.departed (leaving r a.departed);
          now = record { levels = level_fresh; frames = a.next };
        })
    at_clock c len tag a =
        ap
        (λ (t : ℕ).
        record {
          accepted = push h.accepted (if_done a.verdict (record { connection = c; len = len; tag = tag; arrival = t; eligibility = a.number }));
          departed = push h.departed (leaving r a.departed);
          now = record { levels = level_fresh; frames = a.next };
        })
        (cond_is h.now.clock level_fresh.clock is_set)

    frames_turn : (k : Request) → logged (of_frames h) k (turn k r) ≡ of_frames (frame_step (frame_call k) h)
    frames_turn (link_levels l) = rw is_set
    frames_turn (link_frames l) = frames_log h.accepted (frame_answer (frame_link l) h.now)
    frames_turn (admit_level x) = ap (λ (a : LevelAnswer). logged (of_frames h) (admit_level x) (by_levels r a)) (level_unset (level_admit x) refl)
    frames_turn (admit_share x) = frames_log h.accepted (frame_answer (frame_admit x) h.now)
    frames_turn (offer c len tag none) =
        let a = frame_answer (frame_offer c len tag) h.now in
        ap (λ (b : Bool). logged (of_frames h) (offer c len tag none) (cond b (by_frames r a) (by_levels r (level_answer (level_offer c len tag none) level_fresh)))) is_set
        ∙ at_clock c len tag a
        ∙ frames_log (frame_after h (frame_offer c len tag)).accepted a
    frames_turn (offer c len tag (some st)) = ap (λ (a : LevelAnswer). logged (of_frames h) (offer c len tag (some st)) (by_levels r a)) (level_unset (level_offer c len tag (some st)) refl)
    frames_turn (close c) = ap (λ (a : LevelAnswer). logged (of_frames h) (close c) (by_levels r a)) (level_unset (level_close c) refl)
    frames_turn (notice len tag) =
        let a = frame_answer (frame_notice len tag) h.now in
        ap (λ (b : Bool). logged (of_frames h) (notice len tag) (cond b (by_frames r a) (by_levels r (level_answer (level_notice len tag) level_fresh)))) is_set
        ∙ at_clock notice_number len tag a
        ∙ frames_log (frame_after h (frame_notice len tag)).accepted a
    frames_turn tick =
        let a = frame_answer frame_tick h.now in
        ap (λ (b : Bool). logged (of_frames h) tick (cond b (by_frames r a) (by_levels r (level_answer level_tick level_fresh)))) is_set ∙ frames_log h.accepted a

    frames_after : (k : Request) → after (of_frames h) k ≡ of_frames (frame_step (frame_call k) h)
    frames_after k = ap (λ (b : Bool). logged (of_frames h) k (cond b (turn k r) (refuse r 1 (refused_number k)))) frames_sound ∙ frames_turn k

    pub frames_told : (k : Request) (x : FrameCall) → frame_call k ≡ some x → respond k r ≡ by_frames r (frame_answer x h.now)
    frames_told = R.frames_told r frames_sound is_set refl

    pub levels_refused : (l : Link) → respond (link_levels l) r ≡ refuse r 3 0
    levels_refused = R.levels_refused r frames_sound is_set

    pub level_refused : (x : Connection) → respond (admit_level x) r ≡ refuse r 2 no_connection_number
    level_refused = R.level_refused r frames_sound refl

    pub stamp_refused : (c len tag st : ℕ) → respond (offer c len tag (some st)) r ≡ refuse r 2 0
    stamp_refused = R.stamp_refused r frames_sound refl

    pub close_refused : (c : ℕ) → respond (close c) r ≡ refuse r 2 0
    close_refused = R.close_refused r frames_sound refl

-- ---- nothing is set

abbrev LevelLinked : LevelHistory → Type 0
LevelLinked h = (h ≡ level_nothing_yet) ⊎ (h.now.link.levels ≡ 0 → ⊥)

level_linked : (l : Link) → LevelLinked (level_after level_nothing_yet (level_link l))
level_linked l =
    level_settled (λ a. LevelLinked (level_logged level_nothing_yet (level_link l) a)) (level_link l) level_fresh (level_verdict (level_link l) level_fresh)
    (λ e. inr (λ z. omega (arith, (link_facts l (level_link_done level_fresh l e).link_in).some_level)))
    (λ v. inl refl)

abbrev FrameLinked : FrameHistory → Type 0
FrameLinked h = (h ≡ frame_nothing_yet) ⊎ (h.now.link.frame ≡ 0 → ⊥)

frame_linked : (l : Framing) → FrameLinked (frame_after frame_nothing_yet (frame_link l))
frame_linked l =
    frame_settled (λ a. FrameLinked (frame_logged frame_nothing_yet (frame_link l) a)) (frame_link l) FrameFresh (frame_verdict (frame_link l) FrameFresh)
    (λ e. inr (λ z. omega (arith, (framing_facts l (frame_link_done FrameFresh l e).link_in).some_frame)))
    (λ v. inl refl)

-- a link of frames on a line where nothing is set
fresh_frames : (l : Framing) → after nothing_yet (link_frames l) ≡ of_frames (frame_after frame_nothing_yet (frame_link l))
fresh_frames l =
    ap (λ (b : Bool). logged nothing_yet (link_frames l) (cond b (turn (link_frames l) nothing_yet.now) (refuse nothing_yet.now 1 0))) (frames_sound frame_nothing_yet frame_fresh_invariant)
    ∙ go (frame_answer (frame_link l) FrameFresh).departed
  where
    go : (o : Option Packet) → ◌≡◌ {A = LineHistory}
        (record { accepted = []; departed = push [] (leaving nothing_yet.now o); now = record { levels = level_fresh; frames = (frame_answer (frame_link l) FrameFresh).next } })
        (record { accepted = []; departed = push [] (frame_leaving FrameFresh o); now = record { levels = level_fresh; frames = (frame_answer (frame_link l) FrameFresh).next } })
    go none = refl
    go (some p) = refl

-- any other call on a discipline without a link changes nothing
level_idle : (k : LevelCall) → level_links k ≡ false → level_after level_nothing_yet k ≡ level_nothing_yet
level_idle (level_link l) e = absurd (true≢false e)
level_idle (level_admit x) e = ap (level_logged level_nothing_yet (level_admit x)) (level_unset (level_admit x) e)
level_idle (level_offer c len tag st) e = ap (level_logged level_nothing_yet (level_offer c len tag st)) (level_unset (level_offer c len tag st) e)
level_idle (level_notice len tag) e = ap (level_logged level_nothing_yet (level_notice len tag)) (level_unset (level_notice len tag) e)
level_idle (level_close c) e = ap (level_logged level_nothing_yet (level_close c)) (level_unset (level_close c) e)
level_idle level_tick e = ap (level_logged level_nothing_yet level_tick) (level_unset level_tick e)

frame_idle : (k : FrameCall) → frame_links k ≡ false → frame_after frame_nothing_yet k ≡ frame_nothing_yet
frame_idle (frame_link l) e = absurd (true≢false e)
frame_idle (frame_admit x) e = ap (frame_logged frame_nothing_yet (frame_admit x)) (frame_unset (frame_admit x) e)
frame_idle (frame_offer c len tag) e = ap (frame_logged frame_nothing_yet (frame_offer c len tag)) (frame_unset (frame_offer c len tag) e)
frame_idle (frame_notice len tag) e = ap (frame_logged frame_nothing_yet (frame_notice len tag)) (frame_unset (frame_notice len tag) e)
frame_idle frame_tick e = ap (frame_logged frame_nothing_yet frame_tick) (frame_unset frame_tick e)

-- ---- every step

-- the line's history and the two of the disciplines: nothing is set; or levels are; or frames are
pub record ByLevels (h : LineHistory) (x : LevelHistory) : Type 0 where
  pub is : h ≡ of_levels x
  pub holds : LevelInvariant x
  pub set : x.now.link.levels ≡ 0 → ⊥

pub record ByFrames (h : LineHistory) (y : FrameHistory) : Type 0 where
  pub is : h ≡ of_frames y
  pub holds : FrameInvariant y
  pub set : y.now.link.frame ≡ 0 → ⊥

abbrev pub Tied : LineHistory → LevelHistory → FrameHistory → Type 0
Tied h x y = ((h ≡ nothing_yet) × (x ≡ level_nothing_yet) × (y ≡ frame_nothing_yet)) ⊎ (ByLevels h x ⊎ ByFrames h y)

level_step_keeps : (o : Option LevelCall) (x : LevelHistory) → LevelInvariant x → LevelInvariant (level_step o x)
level_step_keeps none x I = I
level_step_keeps (some k) x I = level_keeps x k I

level_step_stays : (o : Option LevelCall) (x : LevelHistory) → (x.now.link.levels ≡ 0 → ⊥) → (level_step o x).now.link.levels ≡ 0 → ⊥
level_step_stays none x set = set
level_step_stays (some k) x set = level_stays k x.now set

frame_step_keeps : (o : Option FrameCall) (y : FrameHistory) → FrameInvariant y → FrameInvariant (frame_step o y)
frame_step_keeps none y I = I
frame_step_keeps (some k) y I = frame_keeps y k I

frame_step_stays : (o : Option FrameCall) (y : FrameHistory) → (y.now.link.frame ≡ 0 → ⊥) → (frame_step o y).now.link.frame ≡ 0 → ⊥
frame_step_stays none y set = set
frame_step_stays (some k) y set = frame_stays k y.now set

-- nothing is set: a request that is no link leaves all three as they are
still_fresh : (k : Request) → not_link_frames k ≡ true → level_step (level_call k) level_nothing_yet ≡ level_nothing_yet → frame_step (frame_call k) frame_nothing_yet ≡ frame_nothing_yet
    → Tied (after nothing_yet k) (level_step (level_call k) level_nothing_yet) (frame_step (frame_call k) frame_nothing_yet)
still_fresh k i e f = inl (levels_step level_nothing_yet level_fresh_invariant k i ∙ ap of_levels e, e, f)

fresh_step : (k : Request) → Tied (after nothing_yet k) (level_step (level_call k) level_nothing_yet) (frame_step (frame_call k) frame_nothing_yet)
fresh_step (link_levels l) =
    ⊎_elim
    (λ e. inl (levels_step level_nothing_yet level_fresh_invariant (link_levels l) refl ∙ ap of_levels e, e, refl))
    (λ n. inr (inl (record { is = levels_step level_nothing_yet level_fresh_invariant (link_levels l) refl; holds = level_keeps level_nothing_yet (level_link l) level_fresh_invariant; set = n })))
    (level_linked l)
fresh_step (link_frames l) =
    ⊎_elim
    (λ e. inl (fresh_frames l ∙ ap of_frames e, refl, e))
    (λ n. inr (inr (record { is = fresh_frames l; holds = frame_keeps frame_nothing_yet (frame_link l) frame_fresh_invariant; set = n })))
    (frame_linked l)
fresh_step (admit_level x) = still_fresh (admit_level x) refl (level_idle (level_admit x) refl) refl
fresh_step (admit_share x) = still_fresh (admit_share x) refl refl (frame_idle (frame_admit x) refl)
fresh_step (offer c len tag none) = still_fresh (offer c len tag none) refl (level_idle (level_offer c len tag none) refl) (frame_idle (frame_offer c len tag) refl)
fresh_step (offer c len tag (some st)) = still_fresh (offer c len tag (some st)) refl (level_idle (level_offer c len tag (some st)) refl) refl
fresh_step (notice len tag) = still_fresh (notice len tag) refl (level_idle (level_notice len tag) refl) (frame_idle (frame_notice len tag) refl)
fresh_step (close c) = still_fresh (close c) refl (level_idle (level_close c) refl) refl
fresh_step tick = still_fresh tick refl (level_idle level_tick refl) (frame_idle frame_tick refl)

levels_go_on : (h : LineHistory) (x : LevelHistory) (k : Request) → ByLevels h x → ByLevels (after h k) (level_step (level_call k) x)
levels_go_on h x k b = record {
  is = ap (λ (g : LineHistory). after g k) b.is ∙ levels_after x b.holds b.set k;
  holds = level_step_keeps (level_call k) x b.holds;
  set = level_step_stays (level_call k) x b.set;
}

frames_go_on : (h : LineHistory) (y : FrameHistory) (k : Request) → ByFrames h y → ByFrames (after h k) (frame_step (frame_call k) y)
frames_go_on h y k b = record {
  is = ap (λ (g : LineHistory). after g k) b.is ∙ frames_after y b.holds b.set k;
  holds = frame_step_keeps (frame_call k) y b.holds;
  set = frame_step_stays (frame_call k) y b.set;
}

tied_after : (h : LineHistory) (x : LevelHistory) (y : FrameHistory) → Tied h x y → (k : Request) → Tied (after h k) (level_step (level_call k) x) (frame_step (frame_call k) y)
tied_after h x y (inl e) k =
    subst (λ (g : LineHistory). Tied (after g k) (level_step (level_call k) x) (frame_step (frame_call k) y)) (sym e.0)
    (subst (λ (u : LevelHistory). Tied (after nothing_yet k) (level_step (level_call k) u) (frame_step (frame_call k) y)) (sym e.1)
    (subst (λ (v : FrameHistory). Tied (after nothing_yet k) (level_step (level_call k) level_nothing_yet) (frame_step (frame_call k) v)) (sym e.2) (fresh_step k)))
tied_after h x y (inr (inl b)) k = inr (inl (levels_go_on h x k b))
tied_after h x y (inr (inr b)) k = inr (inr (frames_go_on h y k b))

pub tied_run : (ks : List Request) (h : LineHistory) (x : LevelHistory) (y : FrameHistory) → Tied h x y
    → Tied (run_from h ks) (level_run_from x (level_calls ks)) (frame_run_from y (frame_calls ks))
unfolding filter_map
tied_run [] h x y t = t
tied_run (k ∷ ks) h x y t =
    subst (λ (u : LevelHistory). Tied (run_from (after h k) ks) u (frame_run_from y (frame_calls (k ∷ ks)))) (sym (ap (level_run_from x) (calls_step level_call k ks) ∙ level_run_step (level_call k) (level_calls ks) x))
    (subst (λ (v : FrameHistory). Tied (run_from (after h k) ks) (level_run_from (level_step (level_call k) x) (level_calls ks)) v) (sym (ap (frame_run_from y) (calls_step frame_call k ks) ∙ frame_run_step (frame_call k) (frame_calls ks) y))
    (tied_run ks (after h k) (level_step (level_call k) x) (frame_step (frame_call k) y) (tied_after h x y t k)))

-- once one is set it stays
pub levels_on : (ks : List Request) (h : LineHistory) (x : LevelHistory) → ByLevels h x → levels_set (run_from h ks).now ≡ true
levels_on [] h x b = ap (λ (g : LineHistory). levels_set g.now) b.is ∙ ap not (ne_eqb x.now.link.levels 0 b.set)
levels_on (k ∷ ks) h x b = levels_on ks (after h k) (level_step (level_call k) x) (levels_go_on h x k b)

pub frames_on : (ks : List Request) (h : LineHistory) (y : FrameHistory) → ByFrames h y → frames_set (run_from h ks).now ≡ true
frames_on [] h y b = ap (λ (g : LineHistory). frames_set g.now) b.is ∙ ap not (ne_eqb y.now.link.frame 0 b.set)
frames_on (k ∷ ks) h y b = frames_on ks (after h k) (frame_step (frame_call k) y) (frames_go_on h y k b)
